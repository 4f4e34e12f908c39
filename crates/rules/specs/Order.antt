-- The gates, callees first.
use Rattle.std.specs.Prelude.{ℕ, zero, suc, List, [], ◌∷◌, ◌++◌, Bool, not, ◌&&◌, length, get_or, ltb, eqb}
use Rattle.rules.specs.Basics.{pick, first, any}
use Rattle.rules.specs.Syntax.{Program}
use Rattle.rules.specs.Checking.{gates_of}
use Rattle.rules.specs.Calls.{calls_of, edge}

-- g stands in the list
unfoldable pub has : List ℕ → ℕ → Bool
has l g = any (length l) (λ i. eqb (get_or l i 0) g)

-- g is not yet placed, and its callees all are
unfoldable pub ready : ℕ → (ℕ → ℕ → Bool) → List ℕ → ℕ → Bool
ready n E l g = not (has l g) && not (any n (λ w. E g w && not (has l w)))

-- 01: "at each place the lowest gate not yet placed whose callees all are"; k places more after l, as far as there is a gate for them
unfoldable pub order_from : ℕ → (ℕ → ℕ → Bool) → ℕ → List ℕ → List ℕ
order_from n E zero l = l
order_from n E (suc k) l =
    let g = first n (ready n E l) in
    pick (ltb g n) (order_from n E k (l ++ (g ∷ []))) l

unfoldable pub order : ℕ → (ℕ → ℕ → Bool) → List ℕ
order n E = order_from n E n []

unfoldable pub order_of : Program → List ℕ
order_of p = order (length (gates_of p)) (edge (calls_of p))
