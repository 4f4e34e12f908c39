use Rattle.std.proofs.Common.{refl, ap, arith, ◌∙◌}
use Rattle.image.proofs.Keys.{key_told}
use Rattle.image.proofs.Loop.{ready_start, ready_stop, ready_turn, ready_end, heard, refused_reads, too_long, noted_as, noted_same}
use Rattle.image.specs.Whole.{refusal}
use Rattle.image.proofs.read_image.Goals as goal

pub returns-then-img-gt65536 : goal.returns-then-img-gt65536
unfolding refusal
returns-then-img-gt65536 c = refused_reads _ _ 0 _ refl (too_long _ c.if-img-gt65536.true)

pub loop-at-init : goal.loop-at-init
loop-at-init c = (ready_start _ _ c.if-img-gt65536.false c.none-met.ensures.1, ap (λ i. i.now) c.none-met.ensures.0)

pub returns-in-Err : goal.returns-in-Err
unfolding refusal
returns-in-Err c = refused_reads _ _ _ _ refl (ready_stop _ _ _ _ c.loop-at.invariant.0 c.loop-at-test.true _ (rw (← c.loop-at.invariant.1) c.field_end.ensures) _ c.in-Err.is)

pub note-requires : goal.note-requires
note-requires c = rw c.loop-at.invariant.1 (key_told _ _ _ _ _ c.byte_at-tag.ensures.0 refl c.field_key-k.ensures c.if-tag-eq1.true)

pub loop-at-smaller-then-tag-eq1 : goal.loop-at-smaller-then-tag-eq1
loop-at-smaller-then-tag-eq1 c =
    let h = heard _ _ _ _ c.loop-at.invariant.0 c.loop-at-test.true _ (rw (← c.loop-at.invariant.1) c.field_end.ensures) _ c.in-Ok.is in omega (arith, h.goes, h.there)

pub loop-at-preserved-then-tag-eq1 : goal.loop-at-preserved-then-tag-eq1
loop-at-preserved-then-tag-eq1 c = (
  ready_turn _ _ _ _ c.loop-at.invariant.0 c.loop-at-test.true _ (rw (← c.loop-at.invariant.1) c.field_end.ensures) _ c.in-Ok.is
      _ _ _ _ c.byte_at-tag.ensures.0 c.load.ensures c.next_counts-c.ensures (noted_as _ _ _ _ c.if-tag-eq1.true c.note.ensures.noted.place),
  ap (λ i. i.now) c.note.ensures.same ∙ c.loop-at.invariant.1,
)

pub loop-at-smaller : goal.loop-at-smaller
loop-at-smaller c =
    let h = heard _ _ _ _ c.loop-at.invariant.0 c.loop-at-test.true _ (rw (← c.loop-at.invariant.1) c.field_end.ensures) _ c.in-Ok.is in omega (arith, h.goes, h.there)

pub loop-at-preserved : goal.loop-at-preserved
loop-at-preserved c = (
  ready_turn _ _ _ _ c.loop-at.invariant.0 c.loop-at-test.true _ (rw (← c.loop-at.invariant.1) c.field_end.ensures) _ c.in-Ok.is
      _ _ _ _ c.byte_at-tag.ensures.0 c.load.ensures c.next_counts-c.ensures (noted_same _ _ _ c.if-tag-eq1.false),
  c.loop-at.invariant.1,
)

pub returns : goal.returns
returns c = ready_end _ _ _ _ _ c.loop-at.invariant.0 c.loop-at-test.false c.closed.ensures
