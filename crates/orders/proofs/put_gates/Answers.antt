use Rattle.orders.proofs.Listing.{left_less, left_none}
use Rattle.orders.proofs.put_gates.Goals as goal

pub loop-g-preserved : goal.loop-g-preserved
loop-g-preserved c = left_less _ _ _ _ _ c.loop-g-test.true c.loop-g.invariant c.put1.ensures

pub returns : goal.returns
returns c = left_none _ _ _ _ c.loop-g-test.false c.loop-g.invariant
