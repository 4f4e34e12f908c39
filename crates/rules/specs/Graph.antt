-- Groups and cycles in a graph of n gates, where `E u w` says that u calls w.
use Rattle.std.specs.Prelude.{ℕ, zero, suc, List, [], ◌∷◌, Bool, not, ◌&&◌, eqb}
use Rattle.rules.specs.Basics.{pick, first, any}

-- u comes to v in exactly k calls
unfoldable pub walks : ℕ → (ℕ → ℕ → Bool) → ℕ → ℕ → ℕ → Bool
walks n E zero u v = eqb u v
walks n E (suc k) u v = any n (λ w. E u w && walks n E k w v)

-- u comes to v in one call or more; n calls are enough
unfoldable pub reaches : ℕ → (ℕ → ℕ → Bool) → ℕ → ℕ → Bool
reaches n E u v = any n (λ k. walks n E (suc k) u v)

-- 01: "Groups with a cycle are listed by lowest gate." g is on a cycle, and no lower gate reaches g and is reached by it.
unfoldable pub leads : ℕ → (ℕ → ℕ → Bool) → ℕ → Bool
leads n E g = reaches n E g g && not (any g (λ h. reaches n E g h && reaches n E h g))

-- the numbers i, i + 1, .. (k of them) that pass the test
unfoldable pub those : ℕ → ℕ → (ℕ → Bool) → List ℕ
those zero i p = []
those (suc k) i p = pick (p i) (i ∷ those k (suc i) p) (those k (suc i) p)

unfoldable pub leaders : ℕ → (ℕ → ℕ → Bool) → List ℕ
leaders n E = those n 0 (leads n E)

-- 01: "among those has the lowest next gate at each step": the gates after u on the way to g in exactly k calls
unfoldable pub way : ℕ → (ℕ → ℕ → Bool) → (g k u : ℕ) → List ℕ
way n E g zero u = []
way n E g (suc k) u =
    let w = first n (λ w. E u w && walks n E k w g) in
    w ∷ way n E g k w

-- 01: "The cycle starts and ends at that gate, is the shortest". Its start is left out, its end is g.
unfoldable pub cycle : ℕ → (ℕ → ℕ → Bool) → ℕ → List ℕ
cycle n E g = way n E g (suc (first n (λ k. walks n E (suc k) g g))) g
