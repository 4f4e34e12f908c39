use Rattle.graph.specs.Rows.{linked, listed}
use mathlib.Core.Path.{◌≡◌}
use Rattle.graph.proofs.Placing.{Ordering}
use Rattle.graph.proofs.Part.order.Given as goal

abbrev pub invariant-loop : goal.invariant-loop
invariant-loop l = (l.list.count ≡ l.counter) × Ordering l.self.n (linked l.self.n l.self.graph.now.rows) (listed l.list) l.placed l.counter
