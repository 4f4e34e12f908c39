use Prim.Native.Nat.{◌-◌}
use mathlib.Core.Path.{◌≡◌}
use lib.Dec.{T}
use Rattle.rules.specs.Graph.{reaches}
use Rattle.graph.specs.Rows.{linked, listed}
use Rattle.graph.proofs.Ways.{Tracing}
use Rattle.graph.proofs.Part.trace.Given as goal

abbrev pub invariant-loop-i : goal.invariant-loop-i
invariant-loop-i l =
    (l.list.count ≡ l.i) × (T (reaches l.self.n (linked l.self.n l.self.graph.now.rows) l.g l.g) → Tracing l.self.n (linked l.self.n l.self.graph.now.rows) l.g (listed l.list) l.u (l.lap.calls - l.i))
