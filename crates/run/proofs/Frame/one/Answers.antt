use Rattle.run.specs.Lines.{one_turns}
use Rattle.run.proofs.Turns.{turned_more, turned_over}
use Rattle.run.proofs.Frame.one.Goals as goal

pub loop-j-preserved : goal.loop-j-preserved
loop-j-preserved c = turned_more _ _ _ c.loop-j.invariant c.loop-j-test.true (rw c.lane.ensures at c.put_one.ensures)

pub returns : goal.returns
unfolding one_turns
returns c = rw (← c.wires-q.ensures.0, ← c.wires-q.ensures.1) (turned_over _ _ _ c.loop-j.invariant c.loop-j-test.false)
