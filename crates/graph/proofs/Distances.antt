-- The gates near g, one call further at each round.
use mathlib.Core.Path.{◌≡◌, refl, sym, ap, ◌∙◌, subst}
use mathlib.Core.Logic.{◌≢◌}
use mathlib.Core.Bool.{Bool, true, false, not, ◌&&◌, ◌||◌, or-false, and-false}
use mathlib.Core.List.{List}
use Prim.Native.Nat.{ℕ, suc, ◌+◌, ◌-◌, ◌≤◌, ◌<◌}
use native.Mathlib.Decide.{dec_lt, ℕ_discrete}
use native.Mathlib.Numerals.{add-one}
use native.Mathlib.Omega.{arith}
use borrow.Author.Tests.{lt-ltb, le-ltb, eq-eqb, ne_eqb, ltb-true}
use lib.Dec.{T, eqb, ltb, ltb→lt, lt→ltb}
use lib.ListN.{length, get_or, set, length-set, replicate, length-replicate, get_or-replicate}
use lib.Seq.{get_or-set_same, get_or-set_other}
use Rattle.rules.specs.Basics.{pick, first, any}
use Rattle.rules.specs.Graph.{walks, reaches}
use Rattle.theorems.specs.Words.{Walk, Within}
use Rattle.theorems.specs.Search.{and_T, T_and, first_true, first_hit, first_only, any_some, any_of}
use Rattle.theorems.specs.Groups.{walks_walk, walk_walks}
use Rattle.graph.specs.declared.sets.Set.{Set}
use Rattle.graph.specs.Sets.{holds}
use Rattle.graph.specs.Rows.{row_of, calls, linked, touches, Spread, dist, Distances, Lapped}
use Rattle.graph.proofs.Tests.{T_true, T_false, is_true, is_false, ltb_more}
use Rattle.graph.proofs.Holding.{holds_empty}
use Rattle.graph.proofs.Groups.{linked_within, linked_calls, calls_linked}

-- ---- one round, gate by gate

module _ (k : ℕ) (t : List Set) (near : Set) (d : List ℕ) where
  module _ (i : ℕ) (small : i < 128) (d₁ : List ℕ) (r₁ : Set) (S : Spread k t near i d d₁ r₁) where
    -- gate i leaves d₂ and r₂, and all others as they were
    turn : (d₂ : List ℕ) (r₂ : Set) → length d₂ ≡ 128 → ((v : ℕ) → v ≢ i → get_or d₂ v 0 ≡ get_or d₁ v 0) → ((v : ℕ) → v < 128 → v ≢ i → holds r₂ v ≡ holds r₁ v)
        → holds r₂ i ≡ (holds near i || touches t near i) → get_or d₂ i 0 ≡ pick (not (holds near i) && touches t near i) (k + 1) (get_or d i 0) → Spread k t near (i + 1) d d₂ r₂
    turn d₂ r₂ size old kept new fresh = record {
      size = size;
      set = λ v h. elim (ℕ_discrete v i) [
        | yes e ↦ subst (λ (x : ℕ). holds r₂ x ≡ (holds near x || (ltb x (i + 1) && touches t near x))) (sym e) (rw on new)
        | no e ↦ rw (ltb_more v i e) (kept v h e ∙ S.set v h)
      ];
      row = λ v. elim (ℕ_discrete v i) [
        | yes e ↦ subst (λ (x : ℕ). get_or d₂ x 0 ≡ pick (ltb x (i + 1) && (not (holds near x) && touches t near x)) (k + 1) (get_or d x 0)) (sym e) (rw on fresh)
        | no e ↦ rw (ltb_more v i e) (old v e ∙ S.row v)
      ];
    }
      where
        on : ltb i (i + 1) ≡ true
        on = lt-ltb i (i + 1) (omega arith)

    was_set : holds r₁ i ≡ holds near i
    was_set = let q : i ≤ i = omega arith in S.set i small ∙ (rw (le-ltb i i q) (or-false (holds near i)))

    was_row : get_or d₁ i 0 ≡ get_or d i 0
    was_row = let q : i ≤ i = omega arith in S.row i ∙ (rw (le-ltb i i q) refl)

    module _ (b : Bool) (p : b ≡ holds near i) where
      pub spread_near : b ≡ true → Spread k t near (i + 1) d d₁ r₁
      spread_near e = turn d₁ r₁ S.size (λ v n. refl) (λ v h n. refl) (was_set ∙ (rw (sym p ∙ e) refl)) (was_row ∙ (rw (sym p ∙ e) refl))

      module _ (far : b ≡ false) (s : Set) (f : s ≡ row_of t i) (c : Bool) (q : c ≡ any 128 (λ w. holds s w && holds near w)) where
        touch : touches t near i ≡ c
        unfolding touches calls
        touch = sym (q ∙ ap (λ (x : Set). any 128 (λ w. holds x w && holds near w)) f)

        pub spread_off : c ≡ false → Spread k t near (i + 1) d d₁ r₁
        spread_off e = turn d₁ r₁ S.size (λ v n. refl) (λ v h n. refl) (was_set ∙ (rw (touch ∙ e) (sym (or-false (holds near i))))) (was_row ∙ (rw (sym p ∙ far, touch ∙ e) refl))

        pub spread_on : c ≡ true → (r₂ : Set) → ((v : ℕ) → v < 128 → holds r₂ v ≡ (eqb i v || holds r₁ v)) → Spread k t near (i + 1) d (set d₁ i (k + 1)) r₂
        spread_on e r₂ g =
            turn (set d₁ i (k + 1)) r₂ (length-set d₁ i (k + 1) ∙ S.size) (λ v n. get_or-set_other d₁ i v (k + 1) 0 n)
            (λ v h n. g v h ∙ (rw (ne_eqb i v (λ x. n (sym x))) refl)) (g i small ∙ (rw (eq-eqb i i refl, sym p ∙ far, touch ∙ e) refl))
            (get_or-set_same d₁ i (k + 1) 0 (omega (arith, S.size)) ∙ (rw (sym p ∙ far, touch ∙ e) refl))

    -- of a row that meets nothing near, whether its gate is near
    pub spread_idle : (s : Set) → s ≡ row_of t i → (c : Bool) → c ≡ any 128 (λ w. holds s w && holds near w) → c ≡ false → Spread k t near (i + 1) d d₁ r₁
    spread_idle s f c q h = go (holds near i) refl
      where
        go : (b : Bool) → holds near i ≡ b → Spread k t near (i + 1) d d₁ r₁
        go true e = spread_near true (sym e) refl
        go false e = spread_off false (sym e) refl s f c q h

-- ---- distances

module _ (n : ℕ) (E : ℕ → ℕ → Bool) (within : Within n E) (g : ℕ) where
  pub dist_walk : (u : ℕ) → dist n E g u < n → Walk E (dist n E g u) u g
  unfolding dist
  dist_walk u h = walks_walk n E (dist n E g u) u g (first_true n (λ k. walks n E k u g) h)

  pub dist_le : (k u : ℕ) → Walk E k u g → dist n E g u ≤ k
  unfolding dist
  dist_le k u p = first_hit n (λ k. walks n E k u g) k (walk_walks n E within k u g p)

-- the gates nearer than k calls, as a set and as a row
pub record Near (n : ℕ) (E : ℕ → ℕ → Bool) (g k : ℕ) (s : Set) (d : List ℕ) : Type 0 where
  pub size : length d ≡ 128
  pub set : (u : ℕ) → u < 128 → holds s u ≡ (ltb u n && ltb (dist n E g u) k)
  pub row : Distances n E g k d

pub near_start : (n : ℕ) (E : ℕ → ℕ → Bool) → Within n E → (g : ℕ) (s : Set) (d : List ℕ) → n ≤ 128 → g < n → d ≡ replicate 128 0
    → ((v : ℕ) → v < 128 → holds s v ≡ (eqb g v || holds (record { gates = 0 }) v)) → Near n E g 1 s (set d g 1)
near_start n E within g s d small h e f = record { size = length-set d g 1 ∙ size; set = λ u b. f u b ∙ (rw (holds_empty u) (or-false (eqb g u) ∙ held u b)); row = row }
  where
    size : length d ≡ 128
    size = ap length e ∙ length-replicate {A = ℕ} 128 0

    here : ltb (dist n E g g) 1 ≡ true
    here = let q = dist_le n E within g 0 g refl in lt-ltb (dist n E g g) 1 (omega arith)

    away : (u : ℕ) → u ≢ g → ltb (dist n E g u) 1 ≡ false
    away u x = le-ltb (dist n E g u) 1 (elim (ℕ_discrete (dist n E g u) 0) [
      | yes q ↦ absurd (x (subst (λ (k : ℕ). Walk E k u g) q (dist_walk n E within g u (omega arith))))
      | no q ↦ omega arith
    ])

    held : (u : ℕ) → u < 128 → eqb g u ≡ (ltb u n && ltb (dist n E g u) 1)
    held u b = elim (ℕ_discrete u g) [
      | yes q ↦ subst (λ (x : ℕ). eqb g x ≡ (ltb x n && ltb (dist n E g x) 1)) (sym q) (rw (eq-eqb g g refl, lt-ltb g n h, here) refl)
      | no q ↦ rw (ne_eqb g u (λ z. q (sym z)), away u q) (sym (and-false (ltb u n)))
    ]

    row : Distances n E g 1 (set d g 1)
    row u b = elim (ℕ_discrete u g) [
      | yes q ↦
          let z : dist n E g g ≡ 0 = let l = ltb-true (dist n E g g) 1 here in omega arith in
          subst (λ (x : ℕ). get_or (set d g 1) x 0 ≡ pick (ltb (dist n E g x) 1) (suc (dist n E g x)) 0) (sym q) (rw (here, z) (get_or-set_same d g 1 0 (omega (arith, size))))
      | no q ↦ rw (away u q) (get_or-set_other d g u 1 0 q ∙ ap (λ (l : List ℕ). get_or l u 0) e ∙ get_or-replicate 128 u 0 0 (omega arith))
    ]

module _ (n : ℕ) (t : List Set) (small : n ≤ 128) (g k : ℕ) (s : Set) (d : List ℕ) (top : k ≤ n) (N : Near n (linked n t) g k s d) where
  abbrev E : ℕ → ℕ → Bool
  E = linked n t

  -- the calls to g
  abbrev D : ℕ → ℕ
  D = dist n (linked n t) g

  -- a gate touches those near g just where it calls one
  touch_near : (u : ℕ) → u < n → T (touches t s u) → (w : ℕ) × T (E u w) × (D w < k)
  unfolding touches
  touch_near u h o =
      let a = any_some 128 (λ w. calls t u w && holds s w) o in
      let b = and_T (calls t u a.0) (holds s a.0) a.2 in
      let c = and_T (ltb a.0 n) (ltb (D a.0) k) (subst T (N.set a.0 a.1) b.1) in
      (a.0, calls_linked n t u a.0 h (ltb→lt a.0 n c.0) b.0, ltb→lt (D a.0) k c.1)

  near_touch : (u w : ℕ) → T (E u w) → D w < k → T (touches t s u)
  unfolding touches
  near_touch u w o h =
      let b = linked_within n t u w o in
      any_of 128 (λ w. calls t u w && holds s w) w (omega arith)
      (T_and (calls t u w) (holds s w) (linked_calls n t u w o) (subst T (sym (N.set w (omega arith))) (T_and (ltb w n) (ltb (D w) k) (lt→ltb w n b.1) (lt→ltb (D w) k h))))

  -- so the gates at distance k do, and those further away do not
  touch_le : (u : ℕ) → u < n → T (touches t s u) → D u ≤ k
  touch_le u h o =
      let a = touch_near u h o in
      let p = dist_walk n E (linked_within n t) g a.0 (omega (arith, a.2)) in
      omega (arith, a.2, dist_le n E (linked_within n t) g (suc (D a.0)) u (a.0, a.1, p))

  touch_at : (u : ℕ) → 1 ≤ k → k < n → D u ≡ k → T (touches t s u)
  touch_at u low h e =
      let q : k ≡ suc (k - 1) = omega arith in
      let p : Walk E (suc (k - 1)) u g = subst (λ (x : ℕ). Walk E x u g) (e ∙ q) (dist_walk n E (linked_within n t) g u (omega arith)) in
      near_touch u p.0 p.1 (omega (arith, dist_le n E (linked_within n t) g (k - 1) p.0 p.2))

  pub near_more : 1 ≤ k → k < n → (d' : List ℕ) (r : Set) → Spread k t s n d d' r → Near n E g (k + 1) r d'
  near_more low h d' r S = record {
    size = S.size;
    set = λ u b. S.set u b ∙ ap (λ (x : Bool). x || (ltb u n && touches t s u)) (N.set u b) ∙ (elim (dec_lt u n) [
      | yes c ↦ rw (lt-ltb u n c) (three u (λ z. (ltb (D u) k || touches t s u) ≡ ltb (D u) (k + 1))
          (λ l. rw (lt-ltb (D u) k l, lt-ltb (D u) (k + 1) (omega arith)) refl)
          (λ e. rw (is_true (touches t s u) (touch_at u low h e), le-ltb (D u) k (omega arith), lt-ltb (D u) (k + 1) (omega arith)) refl)
          (λ m. rw (off u c m, le-ltb (D u) k (omega arith), le-ltb (D u) (k + 1) (omega arith)) refl))
      | no c ↦ rw (le-ltb u n (omega arith)) refl
    ]);
    row = λ u b. S.row u ∙ (rw (lt-ltb u n b, N.set u (omega arith), lt-ltb u n b, N.row u b) (three u
        (λ z. pick (not (ltb (D u) k) && touches t s u) (k + 1) (pick (ltb (D u) k) (suc (D u)) 0)
        ≡ pick (ltb (D u) (k + 1)) (suc (D u)) 0)
        (λ l. rw (lt-ltb (D u) k l, lt-ltb (D u) (k + 1) (omega arith)) refl)
        (λ e. rw (is_true (touches t s u) (touch_at u low h e), le-ltb (D u) k (omega arith), lt-ltb (D u) (k + 1) (omega arith)) (add-one k ∙ ap suc (sym e)))
        (λ m. rw (off u b m, le-ltb (D u) k (omega arith), le-ltb (D u) (k + 1) (omega arith)) refl)));
  }
    where
      three : (u : ℕ) (P : ℕ → Type 0) → (D u < k → P u) → (D u ≡ k → P u) → (k < D u → P u) → P u
      three u P a b c = elim (dec_lt (D u) k) [
        | yes l ↦ a l
        | no l ↦ elim (ℕ_discrete (D u) k) [ yes e ↦ b e | no e ↦ c (omega arith) ]
      ]

      off : (u : ℕ) → u < n → k < D u → touches t s u ≡ false
      off u b m = is_false (touches t s u) (λ o. let q = touch_le u b o in omega arith)

  -- ---- the shortest cycle

  module _ (b : Bool) (out : Set) (e : out ≡ row_of t g) (q : b ≡ any 128 (λ w. holds out w && holds s w)) where
    touch_g : b ≡ touches t s g
    unfolding touches calls
    touch_g = q ∙ ap (λ (x : Set). any 128 (λ w. holds x w && holds s w)) e

    pub unmet_more : b ≡ false → (w : ℕ) → T (E g w) → suc (D w) < k + 1 → ⊥
    unmet_more off w o h = T_false (touches t s g) (sym touch_g ∙ off) (near_touch g w o (omega arith))

    pub lap_met : b ≡ true → g < n → 1 ≤ k → ((w : ℕ) → T (E g w) → suc (D w) < k → ⊥) → Lapped n E g k d
    lap_met on h low unmet = record {
      low = low;
      high = top;
      row = N.row;
      long = λ r.
          let a = touch_near g h (T_true (touches t s g) (sym touch_g ∙ on)) in
          let x : ¬ (suc (D a.0) < k) = unmet a.0 a.1 in
          let z : k ≡ suc (D a.0) = omega (arith, a.2) in
          let p = dist_walk n E (linked_within n t) g a.0 (omega (arith, a.2)) in
          z ∙ ap suc (sym (first_only n (λ j. walks n E (suc j) g g) (D a.0) (omega (arith, a.2))
          (walk_walks n E (linked_within n t) (suc (D a.0)) g g (a.0, a.1, p)) (λ j l o. let y = no_less unmet j o in omega arith)));
    }
      where
        no_less : ((w : ℕ) → T (E g w) → suc (D w) < k → ⊥) → (j : ℕ) → T (walks n E (suc j) g g) → k ≤ suc j
        no_less unmet j o =
            let p = walks_walk n E (suc j) g g o in
            let l = dist_le n E (linked_within n t) g j p.0 p.2 in
            let x : ¬ (suc (D p.0) < k) = unmet p.0 p.1 in
            omega arith

  pub lap_end : n ≤ k → 1 ≤ k → ((w : ℕ) → T (E g w) → suc (D w) < k → ⊥) → Lapped n E g n d
  unfolding reaches any
  lap_end end low unmet = record {
    low = omega arith;
    high = omega arith;
    row = let e : k ≡ n = omega arith in subst (λ (x : ℕ). Distances n E g x d) e N.row;
    long = λ r.
        let q : ℕ → Bool = λ j. walks n E (suc j) g g in
        let h : first n q < n = ltb→lt (first n q) n r in
        let p = walks_walk n E (suc (first n q)) g g (first_true n q h) in
        let l = dist_le n E (linked_within n t) g (first n q) p.0 p.2 in
        let x : ¬ (suc (D p.0) < k) = unmet p.0 p.1 in
        omega arith;
  }
