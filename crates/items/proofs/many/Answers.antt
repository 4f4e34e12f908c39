use Rattle.std.proofs.Common.{rules}
use Rattle.items.specs.Ends.{rounds_no, rounds_got}
use Rattle.items.proofs.many.Goals as goal

pub returns-in_err-here : goal.returns-in_err-here
returns-in_err-here g c e h =
    rounds_no e _ _ _ c.loop-test.true _ (c.loop.invariant.2 e h) _ (h _ _ c.loop.invariant.1 c.item.ensures) _ _ c.in_err-here.was c.from_residual.ensures.1

pub loop-preserved : goal.loop-preserved
loop-preserved g c =
    (c.loop.invariant.0, search rules, λ e h. rounds_got e _ _ _ c.loop-test.true _ (c.loop.invariant.2 e h) _ (h _ _ c.loop.invariant.1 c.item.ensures) _ c.in_ok-here.was)
