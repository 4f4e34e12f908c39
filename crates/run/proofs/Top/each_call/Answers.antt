use Rattle.run.specs.Lines.{spread_in}
use Rattle.run.proofs.Turns.{turned_more, turned_over}
use Rattle.run.proofs.Top.each_call.Goals as goal

pub loop-j-preserved : goal.loop-j-preserved
loop-j-preserved c = turned_more _ _ _ c.loop-j.invariant c.loop-j-test.true (rw c.lanes.ensures at c.gate.ensures)

pub returns : goal.returns
unfolding spread_in
returns c = rw (← c.byte_at-k.ensures.0, ← c.common_row-j-end.ensures) (turned_over _ _ _ c.loop-j.invariant c.loop-j-test.false)
