-- Sets of gates below 128 as the binary digits of a number.
use Rattle.std.specs.Prelude.{ℕ, zero, suc, ◌/◌, ◌%◌, Bool, ◌&&◌, eqb, ltb}
use Rattle.graph.specs.declared.sets.Set.{Set}

-- the binary digit j of x is 1
unfoldable pub digit : ℕ → ℕ → Bool
digit x zero = eqb (x % 2) 1
digit x (suc j) = digit (x / 2) j

unfoldable pub holds : Set → ℕ → Bool
holds s j = ltb j 128 && digit s.gates j
