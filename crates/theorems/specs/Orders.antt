-- The order: without cycles there is a ready gate for each place.
use Rattle.std.specs.Prelude.{◌≡◌, Bool, true, false, not, ◌&&◌, ltb, eqb, length, get_or}
use Rattle.std.proofs.Math.Path.{refl}
use Rattle.std.proofs.Common.{sym, ap, ◌∙◌, subst, not-suc-le-zero, arith, eqb→eq, ltb→lt, lt→ltb, T_not, length-append}
use mathlib.Core.List.{List, [], ◌∷◌, ◌++◌}
use Prim.Native.Nat.{ℕ, zero, suc, ◌+◌, ◌≤◌, ◌<◌}
use Rattle.std.proofs.Math.Decide.{dec_lt}
use Rattle.std.proofs.Math.Dec.{T, eqb_refl, not_T}
use Rattle.std.proofs.Math.ListN.{get_or-append}
use Rattle.std.proofs.lemmas.List.{get_or_at}
use Rattle.rules.specs.Basics.{pick, first, any}
use Rattle.rules.specs.Order.{has, ready, order_from, order}
use Rattle.theorems.specs.Words.{Walk, Within, Acyclic, Placed, CalleesFirst}
use Rattle.theorems.specs.Search.{test, and_T, T_and, first_true, first_hit, any_some, any_of, pigeonhole}
use Rattle.theorems.specs.Walks.{no_long}

-- ---- the places of a list

unfoldable pub pos : List ℕ → ℕ → ℕ
pos l g = first (length l) (λ i. eqb (get_or l i 0) g)

pub at_pos : (l : List ℕ) (g : ℕ) → T (has l g) → (pos l g < length l) × (get_or l (pos l g) 0 ≡ g)
unfolding has any pos
at_pos l g t =
    let h = ltb→lt (first (length l) (λ i. eqb (get_or l i 0) g)) (length l) t in
    (h, eqb→eq (get_or l (first (length l) (λ i. eqb (get_or l i 0) g)) 0) g (first_true (length l) (λ i. eqb (get_or l i 0) g) h))

pub at_has : (l : List ℕ) (g i : ℕ) → i < length l → get_or l i 0 ≡ g → T (has l g)
unfolding has
at_has l g i h e = any_of (length l) (λ i. eqb (get_or l i 0) g) i h (subst (λ (x : ℕ). T (eqb (get_or l i 0) x)) e (eqb_refl (get_or l i 0)))

-- a list that has every gate below n is not shorter than n
full : (n : ℕ) (l : List ℕ) → ((g : ℕ) → g < n → T (has l g)) → n ≤ length l
full n l f = elim (dec_lt (length l) n) [
  | yes h ↦
      let t = pigeonhole (length l) (pos l) (λ i b. (at_pos l i (f i (omega arith))).0) in
      let a : get_or l (pos l t.i) 0 ≡ t.i = (at_pos l t.i (f t.i (omega (arith, t.lt, t.le)))).1 in
      let b : get_or l (pos l t.j) 0 ≡ t.j = (at_pos l t.j (f t.j (omega (arith, t.le)))).1 in
      let e : t.i ≡ t.j = sym a ∙ ap (λ (x : ℕ). get_or l x 0) t.same ∙ b in
      absurd (omega (arith, t.lt))
  | no h ↦ omega arith
]

-- so a shorter one leaves one out
left_out : (n : ℕ) (l : List ℕ) → length l < n → (g : ℕ) × (g < n) × (T (has l g) → ⊥)
left_out n l h =
    let p : ℕ → Bool = λ g. not (has l g) in
    elim (dec_lt (first n p) n) [
      | yes a ↦ (first n p, a, λ t. T_not (has l (first n p)) (first_true n p a) t)
      | no a ↦
          let has_all : (g : ℕ) → g < n → T (has l g) = λ g b.
          test (has l g) (λ t. t) (λ t. let q = first_hit n p g (not_T (has l g) t) in absurd (omega arith)) in
          absurd (omega (arith, full n l has_all))
    ]

-- one gate more at the end
module _ (l : List ℕ) (g : ℕ) where
  abbrev more : List ℕ
  more = l ++ (g ∷ [])

  more_length : length more ≡ length l + 1
  more_length = length-append l (g ∷ [])

  more_old : (i : ℕ) → i < length l → get_or more i 0 ≡ get_or l i 0
  more_old i h = get_or-append l (g ∷ []) 0 i h

  more_new : (i : ℕ) → i ≡ length l → get_or more i 0 ≡ g
  more_new i e = get_or_at l g [] 0 i (sym e)

  -- each place is an old one or the last
  split : {X : Type 0} (i : ℕ) → i < length more → (i < length l → get_or more i 0 ≡ get_or l i 0 → X) → (i ≡ length l → get_or more i 0 ≡ g → X) → X
  split i b f k = elim (dec_lt i (length l)) [
    | yes c ↦ f c (more_old i c)
    | no c ↦ let e : i ≡ length l = omega (arith, more_length) in k e (more_new i e)
  ]

  below_more : (n : ℕ) → g < n → ((i : ℕ) → i < length l → get_or l i 0 < n) → (i : ℕ) → i < length more → get_or more i 0 < n
  below_more n h f i b = split i b (λ c e. rw e (f i c)) (λ c e. rw e h)

  once_more : (T (has l g) → ⊥) → ((i j : ℕ) → i < length l → j < length l → get_or l i 0 ≡ get_or l j 0 → i ≡ j)
      → (i j : ℕ) → i < length more → j < length more → get_or more i 0 ≡ get_or more j 0 → i ≡ j
  once_more fresh once i j b d q =
      split i b
      (λ c e. split j d (λ c' e'. once i j c c' (sym e ∙ q ∙ e')) (λ c' e'. absurd (fresh (at_has l g i c (sym e ∙ q ∙ e')))))
      (λ c e. split j d (λ c' e'. absurd (fresh (at_has l g j c' (sym e' ∙ sym q ∙ e)))) (λ c' e'. c ∙ sym c'))

-- ---- the order

module _ (n : ℕ) (E : ℕ → ℕ → Bool) (within : Within n E) where
  -- g calls w, which is not yet placed
  abbrev wants : List ℕ → ℕ → ℕ → Bool
  wants l g w = E g w && not (has l w)

  -- if no gate is ready, a gate that is not placed begins walks of any length
  on_and_on : (l : List ℕ) → ((g : ℕ) → g < n → T (ready n E l g) → ⊥) → (k g : ℕ) → g < n → (T (has l g) → ⊥) → (v : ℕ) × Walk E k g v
  unfolding ready
  on_and_on l none zero g h a = (g, refl)
  on_and_on l none (suc k) g h a =
      test (any n (wants l g))
      (λ t. let s = any_some n (wants l g) t in
      let q = and_T (E g s.0) (not (has l s.0)) s.2 in
      let r = on_and_on l none k s.0 s.1 (T_not (has l s.0) q.1) in
      (r.0, (s.0, q.0, r.1)))
      (λ t. absurd (none g h (T_and (not (has l g)) (not (any n (wants l g))) (not_T (has l g) a) (not_T (any n (wants l g)) t))))

  some_ready : Acyclic E → (l : List ℕ) → length l < n → first n (ready n E l) < n
  some_ready acyclic l h = elim (dec_lt (first n (ready n E l)) n) [
    | yes a ↦ a
    | no a ↦
        let m = left_out n l h in
        let w = on_and_on l (λ g b t. let q = first_hit n (ready n E l) g t in a (omega arith)) n m.0 m.1 m.2 in
        absurd (no_long E n within acyclic m.0 m.1 w.0 w.1)
  ]

  placed_none : Placed n E []
  placed_none = record { below = λ i h. absurd (not-suc-le-zero h); once = λ i j h. absurd (not-suc-le-zero h); after = λ i h. absurd (not-suc-le-zero h) }

  placed_more : (l : List ℕ) (g : ℕ) → Placed n E l → g < n → T (ready n E l g) → Placed n E (l ++ (g ∷ []))
  unfolding ready
  placed_more l g p h t = record { below = below_more l g n h p.below; once = once_more l g (T_not (has l g) r.0) p.once; after = after }
    where
      r : T (not (has l g)) × T (not (any n (wants l g)))
      r = and_T (not (has l g)) (not (any n (wants l g))) t

      called : (w : ℕ) → T (E g w) → T (has l w)
      called w e =
          test (has l w) (λ k. k) (λ k. absurd (T_not (any n (wants l g)) r.1
          (any_of n (wants l g) w (within g w e).1 (T_and (E g w) (not (has l w)) e (not_T (has l w) k)))))

      after : (i : ℕ) → i < length (more l g) → (w : ℕ) → T (E (get_or (more l g) i 0) w) → (j : ℕ) × (j < i) × (get_or (more l g) j 0 ≡ w)
      after i b w t =
          split l g i b
          (λ c e. let s = p.after i c w (subst (λ (x : ℕ). T (E x w)) e t) in (s.0, s.1, more_old l g s.0 (omega (arith, s.1)) ∙ s.2))
          (λ c e. let s = at_pos l w (called w (subst (λ (x : ℕ). T (E x w)) e t)) in (pos l w, omega (arith, s.0), more_old l g (pos l w) s.0 ∙ s.1))

  placed_all : Acyclic E → (k : ℕ) (l : List ℕ) → length l + k ≡ n → Placed n E l → Placed n E (order_from n E k l) × (length (order_from n E k l) ≡ n)
  unfolding order_from
  placed_all acyclic zero l e p = (p, omega arith)
  placed_all acyclic (suc k) l e p =
      go (ltb g n) refl (placed_all acyclic k (more l g) (omega (arith, more_length l g)) (placed_more l g p good (first_true n (ready n E l) good)))
    where
      g : ℕ
      g = first n (ready n E l)

      good : g < n
      good = some_ready acyclic l (omega arith)

      Goal : List ℕ → Type 0
      Goal r = Placed n E r × (length r ≡ n)

      go : (b : Bool) → ltb g n ≡ b → Goal (order_from n E k (more l g)) → Goal (pick b (order_from n E k (more l g)) l)
      go true q ih = ih
      go false q ih = absurd (subst T q (lt→ltb g n good))

  -- a list of n different gates below n has all of them
  all_placed : (l : List ℕ) → Placed n E l → length l ≡ n → (g : ℕ) → g < n → T (has l g)
  all_placed l p len g h = test (has l g) (λ t. t) (λ fresh.
      let t = pigeonhole n (λ i. get_or (more l g) i 0) (λ i b. below_more l g n h p.below i (omega (arith, more_length l g))) in
      let e = once_more l g fresh p.once t.i t.j (omega (arith, more_length l g, t.lt, t.le)) (omega (arith, more_length l g, t.le)) t.same in
      absurd (omega (arith, t.lt)))

  pub order_placed : Acyclic E → CalleesFirst n E (order n E)
  unfolding order
  order_placed acyclic =
      let a = placed_all acyclic n [] (omega arith) placed_none in
      let l : List ℕ = order_from n E n [] in
      record { placed = a.0; count = a.1; every = λ g h. let s = at_pos l g (all_placed l a.0 a.1 g h) in (pos l g, omega (arith, s.0, a.1), s.1) }
