-- The order, place by place.
use mathlib.Core.Path.{◌≡◌, refl, sym, ap, ap₂, ◌∙◌, subst}
use mathlib.Core.Logic.{⊎_elim}
use mathlib.Core.Bool.{Bool, true, false, not, ◌&&◌, ◌||◌, and-true, or-false}
use mathlib.Core.List.{List, [], ◌∷◌, ◌++◌}
use Prim.Native.Nat.{ℕ, suc, ◌+◌, ◌-◌, ◌≤◌, ◌<◌}
use native.Mathlib.Nat.{not-suc-le-zero}
use native.Mathlib.Decide.{dec_lt, ℕ_discrete}
use native.Mathlib.Omega.{arith}
use Rattle.std.proofs.Common.{Some, None}
use borrow.Author.Tests.{lt-ltb, le-ltb, eq-eqb, ne_eqb}
use lib.Dec.{T, eqb, ltb, eqb→eq, T_not}
use lib.ListN.{length, length-append, get_or-append}
use lib.Seq.{get_or_at}
use Rattle.rules.specs.Basics.{pick, first, any}
use Rattle.rules.specs.Order.{has, ready, order_from, order}
use Rattle.theorems.specs.Search.{and_T, T_and, or_T, or_left, or_right, any_some, any_of}
use Rattle.theorems.specs.Orders.{pos, at_pos, at_has}
use Rattle.graph.specs.declared.sets.Set.{Set}
use Rattle.graph.specs.Sets.{holds}
use Rattle.graph.specs.Rows.{row_of, calls, linked, Marks, below, ready_by}
use Rattle.graph.proofs.Tests.{same_test, T_true, is_false, ltb_more, first_same}
use Rattle.graph.proofs.Searches.{below_is, below_end}
use Rattle.graph.proofs.Holding.{holds_empty}
use Rattle.graph.proofs.Groups.{linked_calls, calls_linked}

-- ---- the gates from n on

-- those of them below u
abbrev pub Beyond : ℕ → ℕ → Set → Type 0
Beyond n u s = (v : ℕ) → v < 128 → holds s v ≡ (not (ltb v n) && ltb v u)

pub beyond_none : (n : ℕ) → Beyond n n (record { gates = 0 })
beyond_none n v h = holds_empty v ∙ (elim (dec_lt v n) [ yes a ↦ rw (lt-ltb v n a) refl | no a ↦ rw (le-ltb v n (omega arith)) refl ])

pub beyond_more : (n u : ℕ) (s r : Set) → n ≤ u → Beyond n u s → ((v : ℕ) → v < 128 → holds r v ≡ (eqb u v || holds s v)) → Beyond n (u + 1) r
beyond_more n u s r l B f v h = f v h ∙ ap (λ (x : Bool). eqb u v || x) (B v h) ∙ (elim (ℕ_discrete v u) [
  | yes e ↦ rw (eq-eqb u v (sym e), le-ltb v n (omega arith), lt-ltb v (u + 1) (omega arith)) refl
  | no e ↦ rw (ne_eqb u v (λ x. e (sym x))) (ap (λ (x : Bool). not (ltb v n) && x) (sym (ltb_more v u e)))
])

has_none : (v : ℕ) → has [] v ≡ false
has_none v = is_false (has [] v) (λ t. absurd (not-suc-le-zero (at_pos [] v t).0))

pub beyond_all : (n u : ℕ) (s : Set) → 128 ≤ u → Beyond n u s → Marks n [] s
beyond_all n u s h B = record { placed = λ v b. B v b ∙ (rw (lt-ltb v u (omega arith), has_none v) (and-true (not (ltb v n)) ∙ sym (or-false (not (ltb v n))))) }

-- ---- one gate more

has_more : (l : List ℕ) (u v : ℕ) → has (l ++ (u ∷ [])) v ≡ (eqb u v || has l v)
has_more l u v =
    same_test (has (l ++ (u ∷ [])) v) (eqb u v || has l v)
    (λ t. let s = at_pos (l ++ (u ∷ [])) v t in
    let i : ℕ = pos (l ++ (u ∷ [])) v in
    elim (dec_lt i (length l)) [
      | yes a ↦ or_right (eqb u v) (has l v) (at_has l v i a (sym (get_or-append l (u ∷ []) 0 i a) ∙ s.1))
      | no a ↦
          let e : length l ≡ i = omega (arith, s.0, length-append l (u ∷ [])) in
          or_left (eqb u v) (has l v) (T_true (eqb u v) (eq-eqb u v (sym (get_or_at l u [] 0 i e) ∙ s.1)))
    ])
    (λ t. ⊎_elim
    (λ a. at_has (l ++ (u ∷ [])) v (length l) (omega (arith, length-append l (u ∷ []))) (get_or_at l u [] 0 (length l) refl ∙ eqb→eq u v a))
    (λ a. let s = at_pos l v a in at_has (l ++ (u ∷ [])) v (pos l v) (omega (arith, s.0, length-append l (u ∷ []))) (get_or-append l (u ∷ []) 0 (pos l v) s.0 ∙ s.1))
    (or_T (eqb u v) (has l v) t))

marks_more : (n : ℕ) (l : List ℕ) (u : ℕ) (s r : Set) → Marks n l s → ((v : ℕ) → v < 128 → holds r v ≡ (eqb u v || holds s v)) → Marks n (l ++ (u ∷ [])) r
marks_more n l u s r M f = record { placed = λ v h. f v h ∙ ap (λ (x : Bool). eqb u v || x) (M.placed v h) ∙ swap (eqb u v) (not (ltb v n)) (has l v) ∙ ap (λ (x : Bool). not (ltb v n) || x) (sym (has_more l u v)) }
  where
    swap : (a b c : Bool) → (a || (b || c)) ≡ (b || (a || c))
    swap true true c = refl
    swap true false c = refl
    swap false true c = refl
    swap false false c = refl

-- ---- the gates that are ready

module _ (n : ℕ) (t : List Set) (l : List ℕ) (s : Set) (small : n ≤ 128) (M : Marks n l s) where
  held : (v : ℕ) → v < n → holds s v ≡ has l v
  held v h = M.placed v (omega arith) ∙ (rw (lt-ltb v n h) refl)

  ready_same : (g : ℕ) → g < n → ready_by t s g ≡ ready n (linked n t) l g
  unfolding ready_by ready
  ready_same g h =
      ap₂ (λ (x y : Bool). not x && not y) (held g h)
      (same_test (any 128 by_set) (any n by_list)
      (λ o. let a = any_some 128 by_set o in
      let b = and_T (calls t g a.0) (not (holds s a.0)) a.2 in
      elim (dec_lt a.0 n) [
        | yes c ↦
            any_of n by_list a.0 c (T_and (linked n t g a.0) (not (has l a.0)) (calls_linked n t g a.0 h c b.0) (subst (λ (x : Bool). T (not x)) (held a.0 c) b.1))
        | no c ↦ absurd (T_not (holds s a.0) b.1 (T_true (holds s a.0) (M.placed a.0 a.1 ∙ (rw (le-ltb a.0 n (omega arith)) refl))))
      ])
      (λ o. let a = any_some n by_list o in
      let b = and_T (linked n t g a.0) (not (has l a.0)) a.2 in
      any_of 128 by_set a.0 (omega (arith, a.1)) (T_and (calls t g a.0) (not (holds s a.0)) (linked_calls n t g a.0 b.0) (subst (λ (x : Bool). T (not x)) (sym (held a.0 a.1)) b.1))))
    where
      by_set : ℕ → Bool
      by_set w = calls t g w && not (holds s w)

      by_list : ℕ → Bool
      by_list w = linked n t g w && not (has l w)

  lowest_same : first n (ready_by t s) ≡ first n (ready n (linked n t) l)
  lowest_same = first_same n (ready_by t s) (ready n (linked n t) l) ready_same

-- by the two tests
module _ (t : List Set) (s : Set) (g : ℕ) (b : Bool) (p : b ≡ holds s g) where
  pub ready_off : b ≡ true → not b ≡ ready_by t s g
  unfolding ready_by
  ready_off e = rw (← p, e) refl

  pub ready_on : b ≡ false → (r : Set) → r ≡ row_of t g → (c : Bool) → c ≡ not (any 128 (λ w. holds r w && not (holds s w))) → c ≡ ready_by t s g
  unfolding ready_by calls
  ready_on e r f c q =
      let z : ready_by t s g ≡ not (any 128 (λ w. holds (row_of t g) w && not (holds s w))) = rw (← p, e) refl in
      q ∙ ap (λ (x : Set). not (any 128 (λ w. holds x w && not (holds s w)))) f ∙ sym z

-- ---- the places

-- m gates are placed
pub record Ordering (n : ℕ) (E : ℕ → ℕ → Bool) (list : List ℕ) (s : Set) (m : ℕ) : Type 0 where
  pub marks : Marks n list s
  pub rest : order_from n E (n - m) list ≡ order n E

pub ordering_none : (n : ℕ) (E : ℕ → ℕ → Bool) (list : List ℕ) (s : Set) → list ≡ [] → Marks n [] s → Ordering n E list s 0
unfolding order
ordering_none n E list s e M = record { marks = rw e M; rest = let q : n - 0 ≡ n = omega arith in rw e (ap (λ (k : ℕ). order_from n E k []) q) }

module _ (n : ℕ) (t : List Set) (small : n ≤ 128) (list : List ℕ) (s : Set) (m : ℕ) (h : m < n) (O : Ordering n (linked n t) list s m) where
  abbrev found : ℕ
  found = first n (ready_by t s)

  next : order_from n (linked n t) (n - m) list ≡ pick (ltb found n) (order_from n (linked n t) (n - (m + 1)) (list ++ (found ∷ []))) list
  unfolding order_from
  next =
      let q : n - m ≡ suc (n - (m + 1)) = omega arith in
      ap (λ (k : ℕ). order_from n (linked n t) k list) q
      ∙ ap (λ (x : ℕ). pick (ltb x n) (order_from n (linked n t) (n - (m + 1)) (list ++ (x ∷ []))) list) (sym (lowest_same n t list s small O.marks))

  pub ordering_more : (u : ℕ) → below n (first n (ready_by t s)) ≡ Some u → (list₁ : List ℕ) → list₁ ≡ list ++ (u ∷ []) → (r : Set) → ((v : ℕ) → v < 128 → holds r v ≡ (eqb u v || holds s v))
      → Ordering n (linked n t) list₁ r (m + 1)
  ordering_more u e list₁ f r g =
      let b = below_is n found u e in
      record {
        marks = rw f (marks_more n list u s r O.marks g);
        rest = ap (order_from n (linked n t) (n - (m + 1))) (f ∙ ap (λ (x : ℕ). list ++ (x ∷ [])) (sym b.0)) ∙ sym (next ∙ (rw (lt-ltb found n b.1) refl)) ∙ O.rest;
      }

  pub ordering_stop : below n (first n (ready_by t s)) ≡ None → list ≡ order n (linked n t)
  ordering_stop e = sym (next ∙ (rw (le-ltb found n (below_end n found e)) refl)) ∙ O.rest

pub ordering_all : (n : ℕ) (E : ℕ → ℕ → Bool) (list : List ℕ) (s : Set) (m : ℕ) → n ≤ m → Ordering n E list s m → list ≡ order n E
unfolding order_from
ordering_all n E list s m h O = let q : n - m ≡ 0 = omega arith in ap (λ (k : ℕ). order_from n E k list) (sym q) ∙ O.rest
