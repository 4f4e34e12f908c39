use Rattle.graph.proofs.Placing.{beyond_none, beyond_more, beyond_all}
use Rattle.graph.proofs.from_on.Goals as goal

pub loop-u-init : goal.loop-u-init
loop-u-init c = beyond_none _

pub loop-u-preserved : goal.loop-u-preserved
loop-u-preserved c = beyond_more _ _ _ _ c.loop-u.auto.u c.loop-u.invariant c.with-r.ensures

pub returns : goal.returns
returns c = beyond_all _ _ _ c.loop-u-test.false c.loop-u.invariant
