-- Walks: joined, cut in two, and cut short.
use Rattle.std.specs.Prelude.{◌≡◌, Bool}
use Rattle.std.proofs.Math.Path.{refl, subst}
use Rattle.std.proofs.Common.{sym, ap, ◌∙◌, le_refl, le_of_suc-le-suc, not-suc-le-zero}
use Prim.Native.Nat.{ℕ, zero, suc, pred, ◌+◌, ◌-◌, ◌≤◌, ◌<◌, zero-le}
use Rattle.std.proofs.Math.Nat.{zero-add, suc-add}
use Rattle.std.proofs.Math.Decide.{dec_lt}
use native.Mathlib.Omega.{arith}
use Rattle.theorems.specs.Words.{Walk, Within, Reach, Acyclic, NoWalk}
use Rattle.theorems.specs.Search.{pigeonhole}

module _ (E : ℕ → ℕ → Bool) where
  pub join : (i j u v w : ℕ) → Walk E i u v → Walk E j v w → Walk E (i + j) u w
  join zero j u v w p q = rw zero-add (subst (λ (x : ℕ). Walk E j x w) (sym p) q)
  join (suc i) j u v w p q = rw suc-add (p.0, p.1, join i j p.0 v w p.2 q)

  pub reach_trans : (u v w : ℕ) → Reach E u v → Reach E v w → Reach E u w
  reach_trans u v w a b =
      let p = join (suc a.0) (suc b.0) u v w a.1 b.1 in
      let e : suc a.0 + suc b.0 ≡ suc (suc (a.0 + b.0)) = omega arith in
      (suc (a.0 + b.0), subst (λ (x : ℕ). Walk E x u w) e p)

  -- the gate after i steps, and the last one from the end on
  unfoldable at : (k u v : ℕ) → Walk E k u v → ℕ → ℕ
  at zero u v p i = u
  at (suc k) u v p zero = u
  at (suc k) u v p (suc i) = at k p.0 v p.2 i

  -- the first i steps, the last j, and d from place i on
  front : (k u v : ℕ) (p : Walk E k u v) (i : ℕ) → i ≤ k → Walk E i u (at k u v p i)
  unfolding at
  front zero u v p zero h = refl
  front zero u v p (suc i) h = absurd (not-suc-le-zero h)
  front (suc k) u v p zero h = refl
  front (suc k) u v p (suc i) h = (p.0, p.1, front k p.0 v p.2 i (le_of_suc-le-suc h))

  back : (k u v : ℕ) (p : Walk E k u v) (i j : ℕ) → i + j ≡ k → Walk E j (at k u v p i) v
  unfolding at
  back zero u v p i zero e = p
  back zero u v p i (suc j) e = absurd (omega arith)
  back (suc k) u v p zero j e = let q : suc k ≡ j = omega arith in subst (λ (x : ℕ). Walk E x u v) q p
  back (suc k) u v p (suc i) j e = back k p.0 v p.2 i j (omega arith)

  middle : (k u v : ℕ) (p : Walk E k u v) (i d : ℕ) → i + d ≤ k → Walk E d (at k u v p i) (at k u v p (i + d))
  unfolding at
  middle zero u v p i zero h = refl
  middle zero u v p i (suc d) h = absurd (omega arith)
  middle (suc k) u v p zero d h = rw zero-add (front (suc k) u v p d (omega arith))
  middle (suc k) u v p (suc i) d h = rw suc-add (middle k p.0 v p.2 i d (omega arith))

  -- from a gate that reaches one that reaches itself, k steps can be gone for every k: round and round
  laps : (g h : ℕ) → Reach E g h → Reach E h h → (m : ℕ) → (k : ℕ) × (m ≤ k) × Walk E k g h
  laps g h a r zero = (suc a.0, zero-le, a.1)
  laps g h a r (suc m) = let l = laps g h a r m in (l.0 + suc r.0, omega (arith, l.1), join l.0 (suc r.0) g h h l.2 r.1)

  pub endless : (g h : ℕ) → Reach E g h → Reach E h h → (k : ℕ) → NoWalk E k g → ⊥
  endless g h a r k few = let l = laps g h a r k in few (at l.0 g h l.2 k) (front l.0 g h l.2 k l.1)

  module _ (n : ℕ) (within : Within n E) where
    at_lt : (k u v : ℕ) (p : Walk E k u v) (i : ℕ) → u < n → at k u v p i < n
    unfolding at
    at_lt zero u v p i h = h
    at_lt (suc k) u v p zero h = h
    at_lt (suc k) u v p (suc i) h = at_lt k p.0 v p.2 i (within u p.0 p.1).1

    -- a walk of n steps comes twice to one gate, so without cycles there is none
    pub no_long : Acyclic E → (u : ℕ) → u < n → NoWalk E n u
    no_long acyclic u h v p =
        let t = pigeonhole n (at n u v p) (λ i l. at_lt n u v p i h) in
        let d : ℕ = pred (t.j - t.i) in
        let e : t.i + suc d ≡ t.j = omega (arith, t.lt) in
        let q = middle n u v p t.i (suc d) (omega (arith, t.le)) in
        acyclic (at n u v p t.i) (d, subst (λ (x : ℕ). Walk E (suc d) (at n u v p t.i) x) (ap (at n u v p) e ∙ sym t.same) q)

    -- a walk of n steps or more has a shorter one between the same ends
    cut : (k u v : ℕ) → u < n → n ≤ k → Walk E k u v → (k' : ℕ) × (k' < k) × Walk E k' u v
    cut k u v h l p =
        let t = pigeonhole n (at k u v p) (λ i _. at_lt k u v p i h) in
        let e : t.j + (k - t.j) ≡ k = omega (arith, t.le) in
        let a = front k u v p t.i (omega (arith, t.lt, t.le)) in
        let b = subst (λ (x : ℕ). Walk E (k - t.j) x v) (sym t.same) (back k u v p t.j (k - t.j) e) in
        (t.i + (k - t.j), omega (arith, t.lt, t.le), join t.i (k - t.j) u (at k u v p t.i) v a b)

    -- f bounds the number of cuts
    shorten : (f k u v : ℕ) → k ≤ f → u < n → Walk E k u v → (k' : ℕ) × (k' < n) × Walk E k' u v
    shorten zero k u v l h p = (k, omega arith, p)
    shorten (suc f) k u v l h p = elim (dec_lt k n) [
      | yes a ↦ (k, a, p)
      | no a ↦ let c = cut k u v h (omega arith) p in shorten f c.0 u v (omega (arith, c.1)) h c.2
    ]

    -- every walk has one of fewer than n steps, and every walk of a step or more one of 1 to n
    pub short : (k u v : ℕ) → u < n → Walk E k u v → (k' : ℕ) × (k' < n) × Walk E k' u v
    short k u v h p = shorten k k u v (le_refl k) h p

    pub short_reach : (u v : ℕ) → Reach E u v → (k : ℕ) × (k < n) × Walk E (suc k) u v
    short_reach u v (k, p) = let s = short k p.0 v (within u p.0 p.1).1 p.2 in (s.0, s.1, (p.0, p.1, s.2))
