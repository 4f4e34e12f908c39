use Prim.Native.Nat.{ℕ, suc, ◌<◌}
use lib.Dec.{T}
use Rattle.graph.specs.Rows.{linked, dist}
use Rattle.graph.proofs.Distances.{Near}
use Rattle.graph.proofs.Part.lap.Given as goal

abbrev pub invariant-loop-k : goal.invariant-loop-k
invariant-loop-k l = Near l.self.n (linked l.self.n l.self.graph.now.rows) l.g l.k l.near l.away × ((w : ℕ) → T (linked l.self.n l.self.graph.now.rows l.g w) → suc (dist l.self.n (linked l.self.n l.self.graph.now.rows) l.g w) < l.k → ⊥)
