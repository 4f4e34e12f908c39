use Prim.Native.Nat.{ℕ}
use mathlib.Core.Bool.{Bool}
use Rattle.graph.specs.Rows.{Reached, listed}
use Rattle.graph.proofs.Groups.{Leading}
use Rattle.graph.proofs.Part.leaders.Given as goal

abbrev pub invariant-loop-u : goal.invariant-loop-u
invariant-loop-u l = (E : ℕ → ℕ → Bool) → Reached l.self.n E l.reach.rows → Leading l.self.n E l.u l.list.count (listed l.list)
