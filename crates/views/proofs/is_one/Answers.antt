use mathlib.Core.Path.{ap}
use lib.Dec.{eqb}
use Prim.Native.Nat.{ℕ}
use Rattle.views.proofs.is_one.Goals as goal

pub returns : goal.returns
returns c = ap (λ (n : ℕ). eqb n 1) (c.byte_at.ensures.0)
