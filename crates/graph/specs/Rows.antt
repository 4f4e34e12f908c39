-- A graph of calls as 128 sets in a row, and what the search in it leaves.
use Rattle.std.specs.Prelude.{ℕ, suc, ◌+◌, ◌≤◌, ◌<◌, ◌≡◌, Bool, false, not, ◌&&◌, ◌||◌, List, length, get_or, take, T, eqb, ltb, Option, Some, None}
use Rattle.rules.specs.Basics.{pick, first, any}
use Rattle.rules.specs.Graph.{walks, reaches}
use Rattle.rules.specs.Order.{has}
use Rattle.graph.specs.declared.sets.Set.{Set}
use Rattle.graph.specs.declared.gates.Gates.{Gates}
use Rattle.graph.specs.Sets.{holds}

-- the gates that u calls
abbrev pub row_of : List Set → ℕ → Set
row_of t u = get_or t u (record { gates = 0 })

unfoldable pub calls : List Set → ℕ → ℕ → Bool
calls t u w = holds (row_of t u) w

-- the graph of the first n gates
unfoldable pub linked : ℕ → List Set → ℕ → ℕ → Bool
linked n t u w = ltb u n && (ltb w n && calls t u w)

abbrev pub listed : Gates → List ℕ
listed r = take r.count r.gates

-- ---- rows written

pub record NoCalls (t : List Set) : Type 0 where
  pub size : length t ≡ 128
  pub none : (a b : ℕ) → calls t a b ≡ false

pub record OneMore (u w : ℕ) (t t' : List Set) : Type 0 where
  pub size : length t' ≡ 128
  pub now : (a b : ℕ) → a < 128 → b < 128 → calls t' a b ≡ (calls t a b || (eqb u a && eqb w b))

-- ---- groups

-- k may be passed through by the gates below i: those that reach it reach what it reaches
pub record Passed (k i : ℕ) (t t' : List Set) : Type 0 where
  pub size : length t' ≡ 128
  pub done : (a : ℕ) → a < i → (b : ℕ) → calls t' a b ≡ (calls t a b || (calls t a k && calls t k b))
  pub kept : (a : ℕ) → i ≤ a → row_of t' a ≡ row_of t a

-- t tells which gates are reached
pub record Reached (n : ℕ) (E : ℕ → ℕ → Bool) (t : List Set) : Type 0 where
  pub size : length t ≡ 128
  pub tells : (i j : ℕ) → i < n → j < n → calls t i j ≡ reaches n E i j

-- by such a table, g is the lowest of a group
unfoldable pub lowest_by : List Set → ℕ → Bool
lowest_by t g = calls t g g && not (any g (λ h. calls t g h && calls t h g))

-- ---- the cycle

-- v calls a gate of s
unfoldable pub touches : List Set → Set → ℕ → Bool
touches t s v = any 128 (λ w. calls t v w && holds s w)

-- the gates below i that call one that is near are added to the set, and those that are new get k + 1 in the row
pub record Spread (k : ℕ) (t : List Set) (near : Set) (i : ℕ) (d d' : List ℕ) (r : Set) : Type 0 where
  pub size : length d' ≡ 128
  pub set : (v : ℕ) → v < 128 → holds r v ≡ (holds near v || (ltb v i && touches t near v))
  pub row : (v : ℕ) → get_or d' v 0 ≡ pick (ltb v i && (not (holds near v) && touches t near v)) (k + 1) (get_or d v 0)

-- the calls on a shortest way from u to g; n where there is none
unfoldable pub dist : ℕ → (ℕ → ℕ → Bool) → (g u : ℕ) → ℕ
dist n E g u = first n (λ k. walks n E k u g)

-- the gates nearer to g than k calls, with one more than their distance, and 0 for all others
abbrev pub Distances : ℕ → (ℕ → ℕ → Bool) → (g k : ℕ) → List ℕ → Type 0
Distances n E g k d = (u : ℕ) → u < n → get_or d u 0 ≡ pick (ltb (dist n E g u) k) (suc (dist n E g u)) 0

-- k is the length of a shortest cycle through g, if there is one
pub record Lapped (n : ℕ) (E : ℕ → ℕ → Bool) (g k : ℕ) (d : List ℕ) : Type 0 where
  pub low : 1 ≤ k
  pub high : k ≤ n
  pub row : Distances n E g k d
  pub long : T (reaches n E g g) → k ≡ suc (first n (λ j. walks n E (suc j) g g))

-- the lowest gate that u calls and at which d is k
unfoldable pub next_by : ℕ → (ℕ → ℕ → Bool) → List ℕ → (u k : ℕ) → ℕ
next_by n E d u k = first n (λ w. E u w && eqb (get_or d w 0) k)

-- what a search below n finds: i, and nothing where that is n
unfoldable pub below : ℕ → ℕ → Option ℕ
below n i = pick (ltb i n) (Some i) None

-- ---- the order

-- the gates of l, and those from n on
pub record Marks (n : ℕ) (l : List ℕ) (s : Set) : Type 0 where
  pub placed : (u : ℕ) → u < 128 → holds s u ≡ (not (ltb u n) || has l u)

-- by such a set, g is not placed while each gate that it calls is
unfoldable pub ready_by : List Set → Set → ℕ → Bool
ready_by t s g = not (holds s g) && not (any 128 (λ w. calls t g w && not (holds s w)))
