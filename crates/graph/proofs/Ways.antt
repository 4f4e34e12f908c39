-- The cycle, read off the distances.
use mathlib.Core.Path.{◌≡◌, refl, sym, ap, ◌∙◌, subst}
use mathlib.Core.Bool.{Bool, true, false, ◌&&◌, and-true, and-false}
use mathlib.Core.List.{List, [], ◌∷◌, ◌++◌, append_assoc, append-nil}
use Prim.Native.Nat.{ℕ, suc, ◌-◌, ◌≤◌, ◌<◌}
use native.Mathlib.Decide.{dec_lt}
use native.Mathlib.Omega.{arith}
use Rattle.std.proofs.Common.{Some, None}
use borrow.Author.Tests.{lt-ltb, le-ltb, eq-eqb}
use lib.Dec.{T, eqb, ltb, eqb→eq}
use lib.ListN.{length, get_or}
use Rattle.rules.specs.Basics.{first}
use Rattle.rules.specs.Graph.{walks, reaches, way, cycle}
use Rattle.theorems.specs.Words.{Walk, Within}
use Rattle.theorems.specs.Search.{and_T, T_and, first_true, first_least, first_hit}
use Rattle.theorems.specs.Groups.{walks_walk, walk_walks}
use Rattle.graph.specs.declared.sets.Set.{Set}
use Rattle.graph.specs.Rows.{row_of, calls, linked, dist, Lapped, below, next_by}
use Rattle.graph.proofs.Tests.{same_test, T_true, first_same}
use Rattle.graph.proofs.Searches.{below_is, below_end}
use Rattle.graph.proofs.Holding.{holds_out}
use Rattle.graph.proofs.Rows.{calls_below}
use Rattle.graph.proofs.Groups.{linked_in}
use Rattle.graph.proofs.Distances.{dist_walk, dist_le}

-- ---- the lowest next gate

abbrev pub next : List Set → List ℕ → (u k : ℕ) → ℕ → Bool
next t d u k w = calls t u w && eqb (get_or d w 0) k

-- by the test v of w and what is there; no call is of a gate from 128 on
module _ (t : List Set) (d : List ℕ) (u k w : ℕ) (v : Bool) where
  pub next_near : v ≡ eqb (get_or d w 0) k → next t d u k w ≡ (calls t u w && v)
  next_near e = ap (λ (x : Bool). calls t u w && x) (sym e)

  pub next_far : 128 ≤ w → next t d u k w ≡ (calls t u w && v)
  unfolding calls
  next_far h = rw (holds_out (row_of t u) w h) refl

  module _ (e : next t d u k w ≡ (calls t u w && v)) where
    pub next_off : v ≡ false → v ≡ next t d u k w
    next_off f = f ∙ sym (e ∙ ap (λ (x : Bool). calls t u w && x) f ∙ and-false (calls t u w))

    pub next_on : v ≡ true → length t ≡ 128 → (b : Bool) → b ≡ (ltb u 128 && calls t u w) → b ≡ next t d u k w
    next_on f size b q = q ∙ calls_below t size u w ∙ sym (e ∙ ap (λ (x : Bool). calls t u w && x) f ∙ and-true (calls t u w))

pub next_same : (n : ℕ) (t : List Set) (d : List ℕ) (u k : ℕ) → u < n → first n (next t d u k) ≡ next_by n (linked n t) d u k
unfolding next_by
next_same n t d u k h =
    first_same n (next t d u k) (λ w. linked n t u w && eqb (get_or d w 0) k) (λ w b. ap (λ (x : Bool). x && eqb (get_or d w 0) k) (sym (linked_in n t u w h b)))

-- ---- the way

-- k + 1 is the length of a shortest walk, of one step or more, from u to g
pub record Tight (n : ℕ) (E : ℕ → ℕ → Bool) (g u k : ℕ) : Type 0 where
  pub small : k < n
  pub walk : Walk E (suc k) u g
  pub least : (i : ℕ) → i < k → Walk E (suc i) u g → ⊥

-- gates are listed up to u, and k are to come
pub record Tracing (n : ℕ) (E : ℕ → ℕ → Bool) (g : ℕ) (list : List ℕ) (u k : ℕ) : Type 0 where
  pub here : u < n
  pub sofar : list ++ way n E g k u ≡ cycle n E g
  pub more : (j : ℕ) → k ≡ suc j → Tight n E g u j

module _ (n : ℕ) (E : ℕ → ℕ → Bool) (within : Within n E) (g top : ℕ) (d : List ℕ) (L : Lapped n E g top d) where
  pub tracing_none : (list : List ℕ) → list ≡ [] → g < n → T (reaches n E g g) → (k : ℕ) → k ≡ top → Tracing n E g list g k
  unfolding cycle
  tracing_none list none h r k z =
      let q : ℕ → Bool = λ j. walks n E (suc j) g g in
      let e : k ≡ suc (first n q) = z ∙ L.long r in
      let b : first n q < n = omega (arith, L.high) in
      record {
        here = h;
        sofar = rw none (ap (λ (k : ℕ). way n E g k g) e);
        more = λ j z. let y : first n q ≡ j = omega arith in subst (Tight n E g g) y (record {
          small = b;
          walk = walks_walk n E (suc (first n q)) g g (first_true n q b);
          least = λ i l p. first_least n q i l (walk_walks n E within (suc i) g g p);
        });
      }

  module _ (u j : ℕ) (t : Tight n E g u j) (h : j < top) where
    -- where the rest is tight, the distances show the next gate
    next_way : next_by n E d u (suc j) ≡ first n (λ w. E u w && walks n E j w g)
    unfolding next_by
    next_way =
        first_same n (λ w. E u w && eqb (get_or d w 0) (suc j)) (λ w. E u w && walks n E j w g) (λ w b.
        same_test (E u w && eqb (get_or d w 0) (suc j)) (E u w && walks n E j w g)
        (λ o. let a = and_T (E u w) (eqb (get_or d w 0) (suc j)) o in
        let e : dist n E g w ≡ j = back w b (eqb→eq (get_or d w 0) (suc j) a.1) in
        T_and (E u w) (walks n E j w g) a.0 (walk_walks n E within j w g (subst (λ (k : ℕ). Walk E k w g) e (dist_walk n E within g w (omega (arith, t.small))))))
        (λ o. let a = and_T (E u w) (walks n E j w g) o in
        let l = dist_le n E within g j w (walks_walk n E j w g a.1) in
        let m : ¬ (dist n E g w < j) = λ z. t.least (dist n E g w) z (w, a.0, dist_walk n E within g w (omega (arith, t.small))) in
        let e : dist n E g w ≡ j = omega arith in
        T_and (E u w) (eqb (get_or d w 0) (suc j)) a.0 (T_true (eqb (get_or d w 0) (suc j)) (eq-eqb (get_or d w 0) (suc j) (L.row w b ∙ (rw (lt-ltb (dist n E g w) top (omega arith)) (ap suc e)))))))
      where
        back : (w : ℕ) → w < n → get_or d w 0 ≡ suc j → dist n E g w ≡ j
        back w b e = elim (dec_lt (dist n E g w) top) [
          | yes l ↦ let q : suc (dist n E g w) ≡ suc j = sym (L.row w b ∙ (rw (lt-ltb (dist n E g w) top l) refl)) ∙ e in omega arith
          | no l ↦ let q : 0 ≡ suc j = sym (L.row w b ∙ (rw (le-ltb (dist n E g w) top (omega arith)) refl)) ∙ e in absurd (omega arith)
        ]

    -- it is a gate, and leaves the rest tight
    next_tight : (w : ℕ) → w ≡ first n (λ w. E u w && walks n E j w g) → (w < n) × T (E u w) × Walk E j w g
    next_tight w e =
        let q : ℕ → Bool = λ w. E u w && walks n E j w g in
        let p = t.walk in
        let l : first n q ≤ p.0 = first_hit n q p.0 (T_and (E u p.0) (walks n E j p.0 g) p.1 (walk_walks n E within j p.0 g p.2)) in
        let b : w < n = omega (arith, within u p.0 p.1) in
        let a = and_T (E u w) (walks n E j w g) (subst (λ (x : ℕ). T (q x)) (sym e) (first_true n q (omega arith))) in
        (b, a.0, walks_walk n E j w g a.1)

  pub tracing_more : (list : List ℕ) (u k w : ℕ) → 0 < k → k ≤ top → Tracing n E g list u k → below n (next_by n E d u k) ≡ Some w
      → (list₁ : List ℕ) → list₁ ≡ list ++ (w ∷ []) → (j : ℕ) → k ≡ suc j → Tracing n E g list₁ w j
  unfolding way
  tracing_more list u k w low h S f list₁ q j s =
      let t = S.more j s in
      let e : w ≡ first n (λ w. E u w && walks n E j w g) = sym (below_is n (next_by n E d u k) w f).0 ∙ ap (next_by n E d u) s ∙ next_way u j t (omega arith) in
      let a = next_tight u j t (omega arith) w e in
      record {
        here = a.0;
        sofar =
            ap (λ (l : List ℕ). l ++ way n E g j w) q
            ∙ append_assoc list (w ∷ []) (way n E g j w)
            ∙ ap (λ (x : ℕ). list ++ (x ∷ way n E g j x)) e
            ∙ ap (λ (x : ℕ). list ++ way n E g x u) (sym s) ∙ S.sofar;
        more = λ i z. record {
          small = omega (arith, t.small);
          walk = subst (λ (x : ℕ). Walk E x w g) z a.2;
          least = λ x l p. t.least (suc x) (omega arith) (w, a.1, p);
        };
      }

  -- there is a next gate
  pub tracing_on : (list : List ℕ) (u k : ℕ) → 0 < k → k ≤ top → Tracing n E g list u k → below n (next_by n E d u k) ≡ None → ⊥
  tracing_on list u k low h S f =
      let s : k ≡ suc (k - 1) = omega arith in
      let t = S.more (k - 1) s in
      let e : next_by n E d u k ≡ first n (λ w. E u w && walks n E (k - 1) w g) = ap (next_by n E d u) s ∙ next_way u (k - 1) t (omega arith) in
      omega (arith, below_end n (next_by n E d u k) f, (next_tight u (k - 1) t (omega arith) (next_by n E d u k) e).0)

  pub tracing_all : (list : List ℕ) (u k : ℕ) → k ≤ 0 → Tracing n E g list u k → list ≡ cycle n E g
  unfolding way
  tracing_all list u k h S = let z : k ≡ 0 = omega arith in sym (append-nil list) ∙ ap (λ (x : ℕ). list ++ way n E g x u) (sym z) ∙ S.sofar
