-- The laws of a search below a bound (`first`, `any`, `those` of the rules), of tests, and the pigeonhole.
use Rattle.std.specs.Prelude.{◌≡◌, refl, ◌⊎◌, ◌≢◌, Bool, true, false, ◌&&◌, ◌||◌, ℕ, zero, suc, pred, ◌+◌, ◌≤◌, ◌<◌, T, ltb, length}
use Rattle.std.proofs.Common.{sym, ap, ◌∙◌, subst, inl, inr, ⊎_elim, zero-le, le_refl, not-suc-le-zero, lt_of_not-le, arith, ltb→lt, lt→ltb}
use mathlib.Core.List.{List, [], ◌∷◌, ◌++◌, cons≢nil}
use Rattle.std.proofs.Math.Decide.{ℕ_discrete, dec_le}
use Rattle.rules.specs.Basics.{pick, first_from, first, any}
use Rattle.rules.specs.Graph.{those}
use Rattle.theorems.specs.Words.{In, Rising}

-- ---- tests

-- the two cases of a test, with the fact of each
pub test {ℓ} : {X : Type ℓ} (b : Bool) → (T b → X) → ((T b → ⊥) → X) → X
test true f g = f tt
test false f g = g (λ t. t)

pub and_T : (a b : Bool) → T (a && b) → T a × T b
and_T true b t = (tt, t)
and_T false b t = absurd t

pub T_and : (a b : Bool) → T a → T b → T (a && b)
T_and true b s t = t
T_and false b s t = absurd s

pub or_T : (a b : Bool) → T (a || b) → T a ⊎ T b
or_T true b t = inl tt
or_T false b t = inr t

pub or_left : (a b : Bool) → T a → T (a || b)
or_left true b t = tt
or_left false b t = absurd t

pub or_right : (a b : Bool) → T b → T (a || b)
or_right true b t = tt
or_right false b t = t

pub pick_same : (b : Bool) (n : ℕ) → pick b n n ≡ n
pick_same true n = refl
pick_same false n = refl

pub nil_parts : {A : Type 0} (xs ys : List A) → xs ++ ys ≡ [] → (xs ≡ []) × (ys ≡ [])
nil_parts [] ys e = (refl, e)
nil_parts (x ∷ xs) ys e = absurd (cons≢nil e)

-- ---- `first`

record Found (k i : ℕ) (p : ℕ → Bool) (r : ℕ) : Type 0 where
  low : i ≤ r
  high : r ≤ i + k
  passes : r < i + k → T (p r)
  least : (j : ℕ) → i ≤ j → j < r → T (p j) → ⊥

found : (k i : ℕ) (p : ℕ → Bool) → Found k i p (first_from k i p)
unfolding first_from
found zero i p = record { low = le_refl i; high = omega arith; passes = λ h. absurd (omega arith); least = λ j a b t. omega arith }
found (suc k) i p = go (p i) refl (found k (suc i) p)
  where
    go : (b : Bool) → p i ≡ b → Found k (suc i) p (first_from k (suc i) p) → Found (suc k) i p (pick b i (first_from k (suc i) p))
    go true e f = record { low = le_refl i; high = omega arith; passes = λ h. subst T (sym e) tt; least = λ j a b t. omega arith }
    go false e f = record {
      low = omega (arith, f.low);
      high = omega (arith, f.high);
      passes = λ h. f.passes (omega arith);
      least = λ j a b t. elim (ℕ_discrete i j) [ yes q ↦ subst T (ap p (sym q) ∙ e) t | no q ↦ f.least j (omega arith) b t ];
    }

pub first_le : (n : ℕ) (p : ℕ → Bool) → first n p ≤ n
unfolding first
first_le n p = omega (arith, (found n 0 p).high)

pub first_true : (n : ℕ) (p : ℕ → Bool) → first n p < n → T (p (first n p))
unfolding first
first_true n p h = (found n 0 p).passes (omega arith)

pub first_least : (n : ℕ) (p : ℕ → Bool) (j : ℕ) → j < first n p → T (p j) → ⊥
unfolding first
first_least n p j h t = (found n 0 p).least j zero-le h t

pub first_hit : (n : ℕ) (p : ℕ → Bool) (j : ℕ) → T (p j) → first n p ≤ j
first_hit n p j t = elim (dec_le (first n p) j) [ yes h ↦ h | no h ↦ absurd (first_least n p j (lt_of_not-le h) t) ]

-- it is the only such number
pub first_only : (n : ℕ) (p : ℕ → Bool) (r : ℕ) → r < n → T (p r) → ((j : ℕ) → j < r → T (p j) → ⊥) → first n p ≡ r
first_only n p r h t l =
    let a : first n p ≤ r = first_hit n p r t in
    elim (dec_le r (first n p)) [ yes b ↦ omega arith | no b ↦ absurd (l (first n p) (lt_of_not-le b) (first_true n p (omega arith))) ]

pub any_some : (n : ℕ) (p : ℕ → Bool) → T (any n p) → (i : ℕ) × (i < n) × T (p i)
unfolding any
any_some n p t = let h : first n p < n = ltb→lt (first n p) n t in (first n p, h, first_true n p h)

pub any_of : (n : ℕ) (p : ℕ → Bool) (i : ℕ) → i < n → T (p i) → T (any n p)
unfolding any
any_of n p i h t = let l = first_hit n p i t in lt→ltb (first n p) n (omega arith)

-- ---- `those`: in rising order, just those that pass

rising_less : (i j : ℕ) (l : List ℕ) → i ≤ j → Rising j l → Rising i l
rising_less i j [] h r = tt
rising_less i j (x ∷ xs) h r = (omega (arith, r.0), r.1)

pub those_rising : (k i : ℕ) (p : ℕ → Bool) → Rising i (those k i p)
unfolding those
those_rising zero i p = tt
those_rising (suc k) i p = go (p i) (those_rising k (suc i) p)
  where
    go : (b : Bool) → Rising (suc i) (those k (suc i) p) → Rising i (pick b (i ∷ those k (suc i) p) (those k (suc i) p))
    go true r = (le_refl i, r)
    go false r = rising_less i (suc i) (those k (suc i) p) (omega arith) r

pub those_length : (k i : ℕ) (p : ℕ → Bool) → length (those k i p) ≤ k
unfolding those
those_length zero i p = zero-le
those_length (suc k) i p = go (p i) (those_length k (suc i) p)
  where
    go : (b : Bool) → length (those k (suc i) p) ≤ k → length (pick b (i ∷ those k (suc i) p) (those k (suc i) p)) ≤ suc k
    go true h = omega arith
    go false h = omega arith

pub those_pass : (k i : ℕ) (p : ℕ → Bool) (g : ℕ) → In g (those k i p) → (i ≤ g) × (g < i + k) × T (p g)
unfolding those
those_pass zero i p g m = absurd m
those_pass (suc k) i p g m = go (p i) refl (those_pass k (suc i) p g) m
  where
    go : (b : Bool) → p i ≡ b → (In g (those k (suc i) p) → (suc i ≤ g) × (g < suc i + k) × T (p g))
        → In g (pick b (i ∷ those k (suc i) p) (those k (suc i) p)) → (i ≤ g) × (g < i + suc k) × T (p g)
    go true e ih (inl q) = (omega arith, omega arith, subst T (sym (ap p q ∙ e)) tt)
    go true e ih (inr q) = let a = ih q in (omega arith, omega arith, a.2)
    go false e ih q = let a = ih q in (omega arith, omega arith, a.2)

pub pass_those : (k i : ℕ) (p : ℕ → Bool) (g : ℕ) → i ≤ g → g < i + k → T (p g) → In g (those k i p)
unfolding those
pass_those zero i p g l h t = absurd (omega arith)
pass_those (suc k) i p g l h t = go (p i) refl (λ l'. pass_those k (suc i) p g l' (omega arith) t)
  where
    go : (b : Bool) → p i ≡ b → (suc i ≤ g → In g (those k (suc i) p)) → In g (pick b (i ∷ those k (suc i) p) (those k (suc i) p))
    go true e ih = elim (ℕ_discrete g i) [ yes q ↦ inl q | no q ↦ inr (ih (omega arith)) ]
    go false e ih = elim (ℕ_discrete g i) [ yes q ↦ absurd (subst T (ap p q ∙ e) t) | no q ↦ ih (omega arith) ]

-- ---- the pigeonhole: n + 1 numbers below n are not all different

pub record Twice (n : ℕ) (f : ℕ → ℕ) : Type 0 where
  pub i : ℕ
  pub j : ℕ
  pub lt : i < j
  pub le : j ≤ n
  pub same : f i ≡ f j

find : (m v : ℕ) (f : ℕ → ℕ) → ((i : ℕ) × (i < m) × (f i ≡ v)) ⊎ ((i : ℕ) → i < m → f i ≢ v)
find zero v f = inr (λ i h. absurd (not-suc-le-zero h))
find (suc m) v f = elim (ℕ_discrete (f m) v) [
  | yes e ↦ inl (m, le_refl (suc m), e)
  | no e ↦
      ⊎_elim
      (λ t. inl (t.0, omega arith, t.2))
      (λ g. inr (λ i h. elim (ℕ_discrete i m) [ yes q ↦ λ r. e (ap f (sym q) ∙ r) | no q ↦ g i (omega arith) ]))
      (find m v f)
]

-- the numbers other than v, with the gap at v closed
unfoldable squeeze : ℕ → ℕ → ℕ
squeeze v x = pick (ltb v x) (pred x) x

squeezed : (v x : ℕ) → ((v < x) × (squeeze v x ≡ pred x)) ⊎ ((x ≤ v) × (squeeze v x ≡ x))
unfolding squeeze
squeezed v x = go (ltb v x) refl
  where
    go : (b : Bool) → ltb v x ≡ b → ((v < x) × (◌≡◌ {A = ℕ} (pick b (pred x) x) (pred x))) ⊎ ((x ≤ v) × (◌≡◌ {A = ℕ} (pick b (pred x) x) x))
    go true e = inl (ltb→lt v x (subst T (sym e) tt), refl)
    go false e = let l : ¬ (v < x) = λ h. subst T e (lt→ltb v x h) in inr (omega arith, refl)

squeeze_lt : (m v x : ℕ) → v ≢ x → v < suc m → x < suc m → squeeze v x < m
squeeze_lt m v x ne hv hx = ⊎_elim (λ a. omega arith) (λ a. omega arith) (squeezed v x)

squeeze_inj : (v x y : ℕ) → v ≢ x → v ≢ y → squeeze v x ≡ squeeze v y → x ≡ y
squeeze_inj v x y nx ny q =
    ⊎_elim
    (λ a. ⊎_elim (λ b. omega arith) (λ b. omega arith) (squeezed v y))
    (λ a. ⊎_elim (λ b. omega arith) (λ b. omega arith) (squeezed v y))
    (squeezed v x)

pub pigeonhole : (n : ℕ) (f : ℕ → ℕ) → ((i : ℕ) → i ≤ n → f i < n) → Twice n f
pigeonhole zero f h = absurd (not-suc-le-zero (h zero zero-le))
pigeonhole (suc m) f h =
    ⊎_elim
    (λ t. record { i = t.0; j = suc m; lt = t.1; le = le_refl (suc m); same = t.2 })
    (λ ne. wider ne (pigeonhole m (λ i. squeeze (f (suc m)) (f i)) (λ i l.
    squeeze_lt m (f (suc m)) (f i) (λ e. ne i (omega arith) (sym e)) (h (suc m) (le_refl (suc m))) (h i (omega arith)))))
    (find (suc m) (f (suc m)) f)
  where
    wider : ((i : ℕ) → i < suc m → f i ≢ f (suc m)) → Twice m (λ i. squeeze (f (suc m)) (f i)) → Twice (suc m) f
    wider ne t =
        let a : f (suc m) ≢ f t.i = λ e. ne t.i (omega (arith, t.lt, t.le)) (sym e) in
        let b : f (suc m) ≢ f t.j = λ e. ne t.j (omega (arith, t.le)) (sym e) in
        record { i = t.i; j = t.j; lt = t.lt; le = omega (arith, t.le); same = squeeze_inj (f (suc m)) (f t.i) (f t.j) a b t.same }
