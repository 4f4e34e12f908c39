-- Who reaches whom, and the lowest gates of the groups.
use mathlib.Core.Path.{◌≡◌, refl, sym, ap, ap₂, ◌∙◌, subst}
use mathlib.Core.Logic.{◌⊎◌, inl, inr, ⊎_elim}
use mathlib.Core.Bool.{Bool, true, false, not, ◌&&◌, ◌||◌, or-false}
use mathlib.Core.List.{List, [], ◌∷◌, ◌++◌, append_assoc, append-nil}
use Prim.Native.Nat.{ℕ, zero, suc, ◌+◌, ◌-◌, ◌≤◌, ◌<◌}
use native.Mathlib.Nat.{not-suc-le-zero}
use native.Mathlib.Decide.{dec_lt, ℕ_discrete}
use native.Mathlib.Numerals.{add-one}
use native.Mathlib.Omega.{arith}
use borrow.Author.Tests.{lt-ltb}
use lib.Dec.{T, ltb, ltb→lt}
use lib.ListN.{length, set, length-set}
use lib.Seq.{get_or-set_other}
use Rattle.rules.specs.Basics.{pick, any}
use Rattle.rules.specs.Graph.{reaches, leads, those, leaders}
use Rattle.theorems.specs.Words.{Walk, Reach, Within}
use Rattle.theorems.specs.Search.{and_T, T_and, or_T, or_left, or_right}
use Rattle.theorems.specs.Walks.{reach_trans}
use Rattle.theorems.specs.Groups.{reaches_reach, reach_reaches}
use Rattle.graph.specs.declared.sets.Set.{Set}
use Rattle.graph.specs.Sets.{holds}
use Rattle.graph.specs.Rows.{row_of, calls, linked, Passed, Reached, lowest_by}
use Rattle.graph.proofs.Tests.{same_test, any_same}
use Rattle.graph.proofs.Rows.{row_put, calls_below}

-- ---- the graph of the first n gates

module _ (n : ℕ) (t : List Set) where
  pub linked_in : (u w : ℕ) → u < n → w < n → linked n t u w ≡ calls t u w
  unfolding linked
  linked_in u w h k = rw (lt-ltb u n h, lt-ltb w n k) refl

  pub linked_within : Within n (linked n t)
  unfolding linked
  linked_within u w s =
      let a = and_T (ltb u n) (ltb w n && calls t u w) s in
      let b = and_T (ltb w n) (calls t u w) a.1 in
      (ltb→lt u n a.0, ltb→lt w n b.0)

  pub linked_calls : (u w : ℕ) → T (linked n t u w) → T (calls t u w)
  linked_calls u w s = let b = linked_within u w s in subst T (linked_in u w b.0 b.1) s

  pub calls_linked : (u w : ℕ) → u < n → w < n → T (calls t u w) → T (linked n t u w)
  calls_linked u w h k s = subst T (sym (linked_in u w h k)) s

-- ---- one gate passed through

module _ (k i : ℕ) (t t₁ : List Set) (P : Passed k i t t₁) (s : Set) (e : s ≡ row_of t₁ i) where
  was : holds s k ≡ calls t i k
  unfolding calls
  was = ap (λ (z : Set). holds z k) (e ∙ P.kept i (omega arith))

  pub pass_on : (b : Bool) → b ≡ holds s k → b ≡ true → (through : Set) → through ≡ row_of t k → (r : Set) → ((x : ℕ) → holds r x ≡ (holds s x || holds through x))
      → i < 128 → Passed k (i + 1) t (set t₁ i r)
  unfolding calls
  pass_on b q on through f r g small = record {
    size = length-set t₁ i r ∙ P.size;
    done = λ a h x. elim (ℕ_discrete a i) [
      | yes z ↦
          let row : row_of (set t₁ i r) a ≡ r = ap (row_of (set t₁ i r)) z ∙ row_put t₁ P.size i r small in
          let old : row_of t₁ i ≡ row_of t a = P.kept i (omega arith) ∙ ap (row_of t) (sym z) in
          let hit : holds (row_of t a) k ≡ true = ap (λ (y : Set). holds y k) (sym (e ∙ old)) ∙ sym q ∙ on in
          ap (λ (y : Set). holds y x) row ∙ g x ∙ ap₂ (λ (y z : Set). holds y x || holds z x) (e ∙ old) f
          ∙ ap (λ (y : Bool). holds (row_of t a) x || (y && holds (row_of t k) x)) (sym hit)
      | no z ↦ ap (λ (y : Set). holds y x) (get_or-set_other t₁ i a r (record { gates = 0 }) z) ∙ P.done a (omega arith) x
    ];
    kept = λ a h. get_or-set_other t₁ i a r (record { gates = 0 }) (omega arith) ∙ P.kept a (omega arith);
  }

  pub pass_over : (b : Bool) → b ≡ holds s k → b ≡ false → Passed k (i + 1) t t₁
  unfolding calls
  pass_over b q off = record {
    size = P.size;
    done = λ a h x. elim (ℕ_discrete a i) [
      | yes z ↦
          let old : row_of t₁ a ≡ row_of t a = P.kept a (omega arith) in
          let miss : holds (row_of t a) k ≡ false = ap (λ (y : ℕ). holds (row_of t y) k) z ∙ sym was ∙ sym q ∙ off in
          ap (λ (y : Set). holds y x) old ∙ sym (or-false (holds (row_of t a) x)) ∙ ap (λ (y : Bool). holds (row_of t a) x || (y && holds (row_of t k) x)) (sym miss)
      | no z ↦ P.done a (omega arith) x
    ];
    kept = λ a h. P.kept a (omega arith);
  }

-- ---- all gates passed through

-- what t holds once the gates below k may be passed through
pub record Closing (n : ℕ) (E : ℕ → ℕ → Bool) (k : ℕ) (t : List Set) : Type 0 where
  pub size : length t ≡ 128
  pub edge : (i j : ℕ) → T (E i j) → T (calls t i j)
  pub sound : (i j : ℕ) → i < n → j < n → T (calls t i j) → Reach E i j
  pub closed : (p i j : ℕ) → p < k → i < n → j < n → T (calls t i p) → T (calls t p j) → T (calls t i j)

pub closing_none : (n : ℕ) (t : List Set) → length t ≡ 128 → Closing n (linked n t) 0 t
closing_none n t e = record {
  size = e;
  edge = linked_calls n t;
  sound = λ i j x y o. (0, (j, calls_linked n t i j x y o, refl));
  closed = λ p i j l. absurd (not-suc-le-zero l);
}

pub closing_more : (n : ℕ) (E : ℕ → ℕ → Bool) → Within n E → (k : ℕ) (t t' : List Set) → k < n → Closing n E k t → Passed k n t t' → Closing n E (k + 1) t'
closing_more n E within k t t' bk C P = record {
  size = P.size;
  edge = λ i j o. keep i j (within i j o).0 (C.edge i j o);
  sound = λ i j x y o. ⊎_elim (C.sound i j x y) (λ s. reach_trans E i k j (C.sound i k x bk s.0) (C.sound k j bk y s.1)) (split i j x o);
  closed = closed;
}
  where
    keep : (i j : ℕ) → i < n → T (calls t i j) → T (calls t' i j)
    keep i j x o = rw (P.done i x j) (or_left (calls t i j) (calls t i k && calls t k j) o)

    both : (i j : ℕ) → i < n → T (calls t i k) → T (calls t k j) → T (calls t' i j)
    both i j x o p = rw (P.done i x j) (or_right (calls t i j) (calls t i k && calls t k j) (T_and (calls t i k) (calls t k j) o p))

    split : (i j : ℕ) → i < n → T (calls t' i j) → T (calls t i j) ⊎ (T (calls t i k) × T (calls t k j))
    split i j x o =
        ⊎_elim inl (λ s. inr (and_T (calls t i k) (calls t k j) s))
        (or_T (calls t i j) (calls t i k && calls t k j) (rw (P.done i x j) at o))

    closed : (p i j : ℕ) → p < k + 1 → i < n → j < n → T (calls t' i p) → T (calls t' p j) → T (calls t' i j)
    closed p i j l x y s o = elim (dec_lt p k) [
      | yes c ↦
          ⊎_elim
          (λ a. ⊎_elim (λ b. keep i j x (C.closed p i j c x y a b)) (λ b. both i j x (C.closed p i k c x bk a b.0) b.1) (split p j (omega arith) o))
          (λ a. ⊎_elim (λ b. both i j x a.0 (C.closed p k j c bk y a.1 b)) (λ b. both i j x a.0 b.1) (split p j (omega arith) o))
          (split i p x s)
      | no c ↦
          let e : p ≡ k = omega arith in
          both i j x (⊎_elim (λ a. subst (λ (q : ℕ). T (calls t i q)) e a) (λ a. a.0) (split i p x s))
          (⊎_elim (λ a. subst (λ (q : ℕ). T (calls t q j)) e a) (λ a. a.1) (split p j (omega arith) o))
    ]

module _ (n : ℕ) (E : ℕ → ℕ → Bool) (within : Within n E) (k : ℕ) (t : List Set) (end : n ≤ k) (C : Closing n E k t) where
  far : (m i j : ℕ) → Walk E (suc m) i j → T (calls t i j) × (j < n)
  far zero i j p = (subst (λ (x : ℕ). T (calls t i x)) p.2 (C.edge i p.0 p.1), subst (λ (x : ℕ). x < n) p.2 (within i p.0 p.1).1)
  far (suc m) i j p =
      let q = far m p.0 j p.2 in
      let b = within i p.0 p.1 in
      (C.closed p.0 i j (omega (arith, b.1)) b.0 q.1 (C.edge i p.0 p.1) q.0, q.1)

  pub closing_all : Reached n E t
  closing_all = record {
    size = C.size;
    tells = λ i j x y. same_test (calls t i j) (reaches n E i j) (λ o. reach_reaches n E within i j (C.sound i j x y o)) (λ o.
        let r = reaches_reach n E i j o in (far r.0 i j r.1).0);
  }

-- ---- the lowest

-- h is in g's group
abbrev pub joins : List Set → ℕ → ℕ → Bool
joins t g h = calls t g h && calls t h g

module _ (t : List Set) (size : length t ≡ 128) (g h : ℕ) (a : Bool) (p : a ≡ (ltb g 128 && calls t g h)) where
  pub joins_off : a ≡ false → a ≡ joins t g h
  joins_off q = q ∙ (rw (sym (p ∙ calls_below t size g h) ∙ q) refl)

  pub joins_on : a ≡ true → (b : Bool) → b ≡ (ltb h 128 && calls t h g) → b ≡ joins t g h
  joins_on q b f = let z : joins t g h ≡ calls t h g = rw (sym (p ∙ calls_below t size g h) ∙ q) refl in f ∙ calls_below t size h g ∙ sym z

module _ (t : List Set) (g : ℕ) (size : length t ≡ 128) (a : Bool) (p : a ≡ (ltb g 128 && calls t g g)) where
  pub leads_off : a ≡ false → a ≡ lowest_by t g
  unfolding lowest_by
  leads_off q = q ∙ (rw (sym (p ∙ calls_below t size g g) ∙ q) refl)

  pub leads_on : a ≡ true → (r : Bool) → r ≡ any g (joins t g) → not r ≡ lowest_by t g
  unfolding lowest_by
  leads_on q r f = rw (sym (p ∙ calls_below t size g g) ∙ q, f) refl

pub leads_same : (n : ℕ) (E : ℕ → ℕ → Bool) (t : List Set) → Reached n E t → (g : ℕ) → g < n → lowest_by t g ≡ leads n E g
unfolding lowest_by leads
leads_same n E t R g h =
    ap₂ (λ (x y : Bool). x && not y) (R.tells g g h h)
    (any_same g (λ j. calls t g j && calls t j g) (λ j. reaches n E g j && reaches n E j g)
    (λ j l. ap₂ (λ (x y : Bool). x && y) (R.tells g j h (omega arith)) (R.tells j g (omega arith) h)))

-- ---- the leaders, one by one

-- u gates looked at, m of them listed
pub record Leading (n : ℕ) (E : ℕ → ℕ → Bool) (u m : ℕ) (list : List ℕ) : Type 0 where
  pub few : m ≤ u
  pub rest : list ++ those (n - u) u (leads n E) ≡ leaders n E

module _ (n : ℕ) (E : ℕ → ℕ → Bool) where
  pub leading_none : (m : ℕ) (list : List ℕ) → m ≡ 0 → list ≡ [] → Leading n E 0 m list
  unfolding leaders
  leading_none m list z e = record { few = omega arith; rest = let q : n - 0 ≡ n = omega arith in rw e (ap (λ (k : ℕ). those k 0 (leads n E)) q) }

  module _ (u m : ℕ) (list : List ℕ) (h : u < n) (L : Leading n E u m list) (b : Bool) (e : b ≡ leads n E u) where
    next : those (n - u) u (leads n E) ≡ pick b (u ∷ those (n - (u + 1)) (u + 1) (leads n E)) (those (n - (u + 1)) (u + 1) (leads n E))
    unfolding those
    next =
        let q : n - u ≡ suc (n - (u + 1)) = omega arith in
        ap (λ (k : ℕ). those k u (leads n E)) q ∙ (rw (e, add-one u) refl)

    pub leading_yes : b ≡ true → (m₁ : ℕ) (list₁ : List ℕ) → m₁ ≡ m + 1 → list₁ ≡ list ++ (u ∷ []) → Leading n E (u + 1) m₁ list₁
    leading_yes q m₁ list₁ c f = record {
      few = omega (arith, L.few);
      rest =
          ap (λ (l : List ℕ). l ++ those (n - (u + 1)) (u + 1) (leads n E)) f
          ∙ append_assoc list (u ∷ []) (those (n - (u + 1)) (u + 1) (leads n E))
          ∙ ap (λ (l : List ℕ). list ++ l) (sym (next ∙ (rw q refl))) ∙ L.rest;
    }

    pub leading_no : b ≡ false → Leading n E (u + 1) m list
    leading_no q = record {
      few = omega (arith, L.few);
      rest = ap (λ (l : List ℕ). list ++ l) (sym (next ∙ (rw q refl))) ∙ L.rest;
    }

  pub leading_all : (u m : ℕ) (list : List ℕ) → n ≤ u → Leading n E u m list → list ≡ leaders n E
  unfolding those
  leading_all u m list h L =
      let q : n - u ≡ 0 = omega arith in
      sym (append-nil list) ∙ ap (λ (k : ℕ). list ++ those k u (leads n E)) (sym q) ∙ L.rest
