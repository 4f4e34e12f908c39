use Rattle.orders.proofs.Listing.{Left}
use Rattle.orders.proofs.put_gates.Given as goal

abbrev pub invariant-loop-g : goal.invariant-loop-g
invariant-loop-g l = Left l.list l.initial.w l.w l.g-index
