use Rattle.orders.proofs.Listing.{readied}
use Rattle.orders.proofs.place_gates.Goals as goal

pub returns : goal.returns
returns c = readied _ _ _ _ c.on-w.ensures.none c.tell_errors-gates.ensures _ c.call_order.ensures
