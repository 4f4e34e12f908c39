use Rattle.run.specs.Lines.{two_turns}
use Rattle.run.proofs.Turns.{turned_more, turned_over}
use Rattle.run.proofs.Frame.two.Goals as goal

pub loop-j-preserved : goal.loop-j-preserved
loop-j-preserved c = turned_more _ _ _ c.loop-j.invariant c.loop-j-test.true (rw (c.lane.ensures, c.lane-in-loop-j.ensures) at c.put_two.ensures)

pub returns : goal.returns
unfolding two_turns
returns c =
    rw (← c.operand.ensures, ← c.operand-2.ensures, ← c.wires-x.ensures.0, ← c.wires-x.ensures.1, ← c.wires-y.ensures.0, ← c.wires-y.ensures.1, ← c.common_of-j-end.ensures) (turned_over _ _ _ c.loop-j.invariant c.loop-j-test.false)
