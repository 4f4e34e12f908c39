use Rattle.run.proofs.Turns.{seen_all, seen_here, seen_other, seen_over}
use Rattle.run.proofs.Frame.bit.Goals as goal

pub loop-i-init : goal.loop-i-init
loop-i-init c =
    rw (c.into_iter-i-iterator.ensures.into_iter_gives, c.enumerate-i-items.ensures.source, c.enumerate-i-items.ensures.count, c.args-2.ensures.row)
    (seen_all c.args.self.bits.now _ c.args.self.qs.now _ _ c.word_of-bit.ensures)

pub loop-i-preserved-then-arg-x : goal.loop-i-preserved-then-arg-x
loop-i-preserved-then-arg-x c =
    let s = c.in-Some.ensures.steps in
    rw s.2 (seen_here c.args.self.qs.now c.loop-i.i-iterator.count c.loop-i.bit _ _ _ _ (rw s.0 at c.loop-i.invariant) c.if-arg-x.true _ (rw s.1 at c.word-bit.ensures))

pub loop-i-preserved : goal.loop-i-preserved
loop-i-preserved c =
    let s = c.in-Some.ensures.steps in
    rw s.2 (seen_other c.args.self.qs.now c.loop-i.i-iterator.count c.loop-i.bit _ _ _ _ (rw s.0 at c.loop-i.invariant) c.if-arg-x.false)

pub returns : goal.returns
returns c = seen_over _ _ _ _ _ c.loop-i.invariant c.in-None.ensures.steps.0.0
