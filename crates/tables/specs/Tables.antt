-- Tables by name number: four words a name, 512 names. What stands in one is what a name means, for any words.
use Rattle.std.specs.Prelude.{◌≡◌, Bool, true, false, ◌⊎◌, length, get_or, set, eqb, ltb, Option, Some, None}
use Rattle.std.proofs.Math.Path.{refl}
use Rattle.std.proofs.Common.{ap, ◌∙◌, ⊎_elim, add-zero, length-set, lit<, lit≤}
use mathlib.Core.List.{List, [], ◌∷◌}
use Rattle.std.proofs.Math.Logic.{inl, inr}
use Prim.Native.Nat.{ℕ, zero, suc, ◌+◌, ◌-◌, ◌*◌, ◌<◌, ◌≤◌}
use native.Mathlib.Omega.{arith}
use Rattle.std.proofs.Math.Decide.{ℕ_discrete, dec_lt}
use borrow.Author.Tests.{eq-eqb, ne_eqb, lt-ltb}
use Rattle.std.proofs.lemmas.List.Edits.{sets}
use Rattle.std.proofs.Math.Seq.{length-sets, get_or-set_same, get_or-set_other}
use Rattle.rules.specs.declared.Header.{Header}
use Rattle.rules.specs.declared.Reg.{Reg}
use Rattle.rules.specs.Basics.{pick}
use Rattle.rules.specs.Checking.{Scope}

-- the word j of a name
abbrev pub word : List ℕ → ℕ → ℕ → ℕ
word t x j = get_or t (4 * x + j) 0

-- ---- gates: the number and one more, the counts of parameters and arguments, the declaration span

abbrev pub gate_row : List ℕ → ℕ → Header
gate_row t x = record { number = word t x 0 - 1; params = word t x 1; args = word t x 2; decl = word t x 3 }

unfoldable pub gate_in : List ℕ → ℕ → Option Header
gate_in t x = pick (ltb x 512) (pick (eqb (word t x 0) 0) None (Some (gate_row t x))) None

-- ---- registers or arguments: 1 quantum or 2 classical, the span, the size; and a parameter: 1 in the last word

abbrev pub reg_row : List ℕ → ℕ → Reg
reg_row t x = record { name = x; span = word t x 1; classical = eqb (word t x 0) 2; size = word t x 2 }

unfoldable pub reg_in : List ℕ → ℕ → Option Reg
reg_in t x = pick (ltb x 512) (pick (eqb (word t x 0) 0) None (Some (reg_row t x))) None

unfoldable pub param_in : List ℕ → ℕ → Bool
param_in t x = pick (ltb x 512) (eqb (word t x 3) 1) false

-- what names mean by a table of gates and one of registers
unfoldable pub scope_in : (gates regs : List ℕ) → Scope
scope_in gates regs = record { gates = gate_in gates; regs = reg_in regs; params = param_in regs }

-- ---- a row set

unfoldable pub row_set : List ℕ → ℕ → List ℕ → List ℕ
row_set t x ws = pick (ltb x 512) (sets t (4 * x) ws) t

unfoldable pub param_set : List ℕ → ℕ → List ℕ
param_set t x = pick (ltb x 512) (set t (4 * x + 3) 1) t

-- stored one by one from i on
sets_out : (ws t : List ℕ) (i k : ℕ) → (k < i) ⊎ (i + length ws ≤ k) → get_or (sets t i ws) k 0 ≡ get_or t k 0
sets_out [] t i k h = refl
sets_out (w ∷ ws) t i k h =
    sets_out ws (set t i w) (suc i) k (⊎_elim (λ a. inl (omega arith)) (λ a. inr (omega arith)) h)
    ∙ get_or-set_other t i k w 0 (⊎_elim (λ a e. omega arith) (λ a e. omega arith) h)

sets_in : (ws t : List ℕ) (i j : ℕ) → j < length ws → i + length ws ≤ length t → get_or (sets t i ws) (i + j) 0 ≡ get_or ws j 0
sets_in [] t i j h l = absurd (omega arith)
sets_in (w ∷ ws) t i zero h l = rw add-zero (sets_out ws (set t i w) (suc i) i (inl (omega arith)) ∙ get_or-set_same t i w 0 (omega arith))
sets_in (w ∷ ws) t i (suc j) h l =
    let e : i + suc j ≡ suc i + j = omega arith in
    ap (λ (k : ℕ). get_or (sets (set t i w) (suc i) ws) k 0) e ∙ sets_in ws (set t i w) (suc i) j (omega arith) (omega (arith, length-set t i w))

pub row_set_length : (t : List ℕ) (x : ℕ) (ws : List ℕ) → length (row_set t x ws) ≡ length t
unfolding row_set
row_set_length t x ws = go (ltb x 512)
  where
    go : (b : Bool) → length (pick b (sets t (4 * x) ws) t) ≡ length t
    go true = length-sets t (4 * x) ws
    go false = refl

-- a table of 512 names, and a row of it with at most four words
module _ (t : List ℕ) (full : length t ≡ 2048) (x : ℕ) (h : x < 512) (ws : List ℕ) (few : length ws ≤ 4) where
  word_same : (j : ℕ) → j < length ws → word (row_set t x ws) x j ≡ get_or ws j 0
  unfolding row_set
  word_same j l = rw (lt-ltb x 512 h) (sets_in ws t (4 * x) j l (omega arith))

  word_kept : (j : ℕ) → length ws ≤ j → word (row_set t x ws) x j ≡ word t x j
  unfolding row_set
  word_kept j l = rw (lt-ltb x 512 h) (sets_out ws t (4 * x) (4 * x + j) (inr (omega arith)))

  word_other : (y j : ℕ) → j < 4 → (x ≡ y → ⊥) → word (row_set t x ws) y j ≡ word t y j
  unfolding row_set
  word_other y j l n = rw (lt-ltb x 512 h) (sets_out ws t (4 * x) (4 * y + j) (elim (dec_lt y x) [ yes a ↦ inl (omega arith) | no a ↦ inr (omega arith) ]))

module _ (t : List ℕ) (full : length t ≡ 2048) (x : ℕ) (h : x < 512) where
  -- a gate's row
  pub gate_set : (n a c d y : ℕ) → gate_in (row_set t x (suc n ∷ a ∷ c ∷ d ∷ [])) y ≡ pick (eqb x y) (Some (record { number = n; params = a; args = c; decl = d })) (gate_in t y)
  unfolding gate_in
  gate_set n a c d y = elim (ℕ_discrete x y) [
    | yes e ↦
        let ws : List ℕ = suc n ∷ a ∷ c ∷ d ∷ [] in
        let w = word_same t full x h ws (lit≤ tt) in
        let z : (suc n ≡ 0 → ⊥) = λ q. omega arith in
        let m : suc n - 1 ≡ n = omega arith in
        rw (← e, eq-eqb x x refl, lt-ltb x 512 h, w 0 (lit< tt), w 1 (lit< tt), w 2 (lit< tt), w 3 (lit< tt), ne_eqb (suc n) 0 z, m) refl
    | no e ↦
        let w = word_other t full x h (suc n ∷ a ∷ c ∷ d ∷ []) (lit≤ tt) y in
        rw (ne_eqb x y e, w 0 (lit< tt) e, w 1 (lit< tt) e, w 2 (lit< tt) e, w 3 (lit< tt) e) refl
  ]

  -- a register's or an argument's
  pub reg_set : (k sp n y : ℕ) → (k ≡ 0 → ⊥) → reg_in (row_set t x (k ∷ sp ∷ n ∷ [])) y ≡ pick (eqb x y) (Some (record { name = x; span = sp; classical = eqb k 2; size = n })) (reg_in t y)
  unfolding reg_in
  reg_set k sp n y some = elim (ℕ_discrete x y) [
    | yes e ↦
        let w = word_same t full x h (k ∷ sp ∷ n ∷ []) (lit≤ tt) in
        rw (← e, eq-eqb x x refl, lt-ltb x 512 h, w 0 (lit< tt), w 1 (lit< tt), w 2 (lit< tt), ne_eqb k 0 some) refl
    | no e ↦
        let w = word_other t full x h (k ∷ sp ∷ n ∷ []) (lit≤ tt) y in
        rw (ne_eqb x y e, w 0 (lit< tt) e, w 1 (lit< tt) e, w 2 (lit< tt) e) refl
  ]

  pub reg_set_param : (k sp n y : ℕ) → param_in (row_set t x (k ∷ sp ∷ n ∷ [])) y ≡ param_in t y
  unfolding param_in
  reg_set_param k sp n y = elim (ℕ_discrete x y) [
    | yes e ↦ rw (← e, word_kept t full x h (k ∷ sp ∷ n ∷ []) (lit≤ tt) 3 (lit≤ tt)) refl
    | no e ↦ rw (word_other t full x h (k ∷ sp ∷ n ∷ []) (lit≤ tt) y 3 (lit< tt) e) refl
  ]

  -- a parameter: the last word
  pub param_set_lem : (y : ℕ) → param_in (param_set t x) y ≡ pick (eqb x y) true (param_in t y)
  unfolding param_in param_set
  param_set_lem y = elim (ℕ_discrete x y) [
    | yes e ↦ rw (← e, eq-eqb x x refl, lt-ltb x 512 h, get_or-set_same t (4 * x + 3) 1 0 (omega arith)) refl
    | no e ↦ rw (ne_eqb x y e, lt-ltb x 512 h, get_or-set_other t (4 * x + 3) (4 * y + 3) 1 0 (λ q. e (omega arith))) refl
  ]

  pub param_set_reg : (y : ℕ) → reg_in (param_set t x) y ≡ reg_in t y
  unfolding reg_in param_set
  param_set_reg y =
      let w : (j : ℕ) → j < 3 → word (set t (4 * x + 3) 1) y j ≡ word t y j = λ j l. get_or-set_other t (4 * x + 3) (4 * y + j) 1 0 (λ q. omega arith) in
      rw (lt-ltb x 512 h, w 0 (lit< tt), w 1 (lit< tt), w 2 (lit< tt)) refl

pub param_set_length : (t : List ℕ) (x : ℕ) → length (param_set t x) ≡ length t
unfolding param_set
param_set_length t x = go (ltb x 512)
  where
    go : (b : Bool) → length (pick b (set t (4 * x + 3) 1) t) ≡ length t
    go true = length-set t (4 * x + 3) 1
    go false = refl
