-- What each way out of a look-up gives.
use Rattle.std.specs.Prelude.{Some, None}
use mathlib.Core.Path.{◌≡◌, refl, sym, ◌∙◌}
use mathlib.Core.List.{List, [], ◌∷◌}
use mathlib.Core.Bool.{Bool, false}
use Prim.Native.Nat.{ℕ, suc, ◌+◌, ◌-◌, ◌*◌, ◌<◌, ◌≤◌}
use native.Mathlib.Omega.{arith}
use native.Mathlib.Numerals.{add-one}
use borrow.Author.Tests.{eq-eqb, ne_eqb, lt-ltb, le-ltb}
use lib.ListN.{length, set}
use lib.Seq.{sets, set_out}
use lib.Dec.{eqb}
use Rattle.tables.specs.Tables.{word, gate_in, reg_in, param_in, row_set, param_set}

module _ (t : List ℕ) (x : ℕ) (h : 512 ≤ x) where
  pub gate_far : None ≡ gate_in t x
  unfolding gate_in
  gate_far = rw (le-ltb x 512 h) refl

  pub reg_far : None ≡ reg_in t x
  unfolding reg_in
  reg_far = rw (le-ltb x 512 h) refl

  pub param_far : false ≡ param_in t x
  unfolding param_in
  param_far = rw (le-ltb x 512 h) refl

module _ (t : List ℕ) (x n : ℕ) (h : x < 512) (e : n ≡ word t x 0) where
  pub gate_none : n ≡ 0 → None ≡ gate_in t x
  unfolding gate_in
  gate_none z = rw (lt-ltb x 512 h, eq-eqb (word t x 0) 0 (sym e ∙ z)) refl

  pub reg_none : n ≡ 0 → None ≡ reg_in t x
  unfolding reg_in
  reg_none z = rw (lt-ltb x 512 h, eq-eqb (word t x 0) 0 (sym e ∙ z)) refl

  pub gate_row_lem : (n ≡ 0 → ⊥) → (a b d : ℕ) → a ≡ word t x 1 → b ≡ word t x 2 → d ≡ word t x 3
      → Some (record { number = n - 1; params = a; args = b; decl = d }) ≡ gate_in t x
  unfolding gate_in
  gate_row_lem z a b d ea eb ed = rw (lt-ltb x 512 h, ne_eqb (word t x 0) 0 (λ q. z (e ∙ q)), e, ea, eb, ed) refl

  pub reg_row_lem : (n ≡ 0 → ⊥) → (sp m : ℕ) (c : Bool) → sp ≡ word t x 1 → m ≡ word t x 2 → c ≡ eqb n 2
      → Some (record { name = x; span = sp; classical = c; size = m }) ≡ reg_in t x
  unfolding reg_in
  reg_row_lem z sp m c es em ec = rw (lt-ltb x 512 h, ne_eqb (word t x 0) 0 (λ q. z (e ∙ q)), ec, e, es, em) refl

pub param_row : (t : List ℕ) (x n : ℕ) → x < 512 → n ≡ word t x 3 → eqb n 1 ≡ param_in t x
unfolding param_in
param_row t x n h e = rw (lt-ltb x 512 h, e) refl

pub ruleset find_laws = (gate_far, reg_far, param_far, gate_none, reg_none, gate_row_lem, reg_row_lem, param_row)

-- ---- rows set

two_more : (n : ℕ) → n + 2 ≡ suc (suc n)
two_more n = omega arith

three_more : (n : ℕ) → n + 3 ≡ suc (suc (suc n))
three_more n = omega arith

module _ (t : List ℕ) (x : ℕ) where
  pub row_far : 512 ≤ x → (ws : List ℕ) → t ≡ row_set t x ws
  unfolding row_set
  row_far h ws = rw (le-ltb x 512 h) refl

  pub param_none : 512 ≤ x → t ≡ param_set t x
  unfolding param_set
  param_none h = rw (le-ltb x 512 h) refl

  pub param_there : x < 512 → (i : ℕ) → i ≡ 4 * x → (t₁ : List ℕ) → t₁ ≡ set t (i + 3) 1 → t₁ ≡ param_set t x
  unfolding param_set
  param_there h i e t₁ q = rw (lt-ltb x 512 h, q, e) refl

  module _ (h : x < 512) (i : ℕ) (e : i ≡ 4 * x) (a b c : ℕ) (t₁ t₂ t₃ : List ℕ) (q₁ : t₁ ≡ set t i a) (q₂ : t₂ ≡ set t₁ (i + 1) b) (q₃ : t₃ ≡ set t₂ (i + 2) c) where
    three : t₃ ≡ sets t (4 * x) (a ∷ b ∷ c ∷ [])
    three = rw (q₃, q₂, q₁, e, add-one (4 * x), two_more (4 * x)) refl

    pub row_three : t₃ ≡ row_set t x (a ∷ b ∷ c ∷ [])
    unfolding row_set
    row_three = rw (lt-ltb x 512 h) three

    pub row_four : (d : ℕ) (t₄ : List ℕ) → t₄ ≡ set t₃ (i + 3) d → t₄ ≡ row_set t x (a ∷ b ∷ c ∷ d ∷ [])
    unfolding row_set
    row_four d t₄ q₄ = rw (lt-ltb x 512 h, q₄, three, e, three_more (4 * x)) refl

pub store_out : (t : List ℕ) (i v : ℕ) → length t ≤ i → t ≡ set t i v
store_out t i v h = sym (set_out t i v h)
