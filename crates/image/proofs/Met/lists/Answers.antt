use Rattle.image.proofs.Lookup.{known_start, known_hit, known_turn, known_end, whole}
use Rattle.image.proofs.Met.lists.Goals as goal

pub loop-i-init : goal.loop-i-init
loop-i-init c = known_start _ _ _

pub returns-then-is_at : goal.returns-then-is_at
returns-then-is_at c =
    let s = c.args.self.now in
    known_hit _ _ _ _ _ (whole _ _ _ _ s.keyed s.marked _ _ c.requires) _ c.loop-i-test.true c.is_at.ensures c.if-is_at.true c.loop-i.invariant

pub loop-i-preserved : goal.loop-i-preserved
loop-i-preserved c =
    let s = c.args.self.now in
    known_turn _ _ _ _ _ (whole _ _ _ _ s.keyed s.marked _ _ c.requires) _ c.loop-i-test.true c.is_at.ensures c.if-is_at.false c.loop-i.invariant

pub returns : goal.returns
returns c =
    let s = c.args.self.now in
    known_end _ _ _ _ _ (whole _ _ _ _ s.keyed s.marked _ _ c.requires) c.loop-i-test.false c.loop-i.invariant
