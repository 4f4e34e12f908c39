use native.Mathlib.Omega.{arith}
use Rattle.counts.proofs.Turns.{plain_turn, sum_turn, sum_over, capped_end}
use Rattle.counts.proofs.sum_row.Goals as goal

pub loop-o-preserved : goal.loop-o-preserved
loop-o-preserved c =
    (omega (arith, c.capped-n.ensures), plain_turn _ _ _ _ _ _ (c.loop-o.invariant.1) c.capped-n.ensures (rw (c.in-Some.ensures.steps, c.size_in.ensures) (sum_turn _ _ _)))

pub returns : goal.returns
returns c = capped_end _ _ _ (c.loop-o.invariant.0) (c.loop-o.invariant.1) (rw c.in-None.ensures.steps.0 (sum_over _))
