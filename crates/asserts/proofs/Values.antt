-- Values and expressions: what each way out and each turn gives.
use Rattle.std.specs.Prelude.{Option, Some, None}
use mathlib.Core.Path.{◌≡◌, refl, ap, ◌∙◌}
use mathlib.Core.List.{List, [], ◌∷◌, ◌++◌}
use mathlib.Core.Bool.{Bool, true, false}
use Prim.Native.Nat.{ℕ, zero, suc, ◌-◌, ◌+◌, ◌*◌, ◌%◌, ◌^◌, ◌<◌, ◌≤◌}
use borrow.Author.Tests.{lt-ltb, le-ltb, le-leb, lt-leb, ne_eqb}
use native.Mathlib.Omega.{arith}
use native.Mathlib.Nat.{one-mul, mod-eq_of_lt, pow-suc}
use native.Mathlib.Numerals.{sub-one}
use native.Mathlib.Decide.{ℕ_discrete, dec_lt}
use Rattle.std.specs.Int.{IsNextPowerOfTwo}
use lib.ListN.{length, get_or}
use lib.Dec.{ltb, leb, eqb, lit≤}
use lib.Pow.{pow-lt, pow_mono}
use Rattle.rules.specs.declared.Operand.{Operand}
use Rattle.rules.specs.Basics.{pick, first, first_from}
use Rattle.rules.specs.Errors.{error_field, undefined_parameter}
use Rattle.rules.specs.Items.{le2, le4}
use Rattle.rules.specs.Checking.{size, value_size, compare_errors, expr_errors, exprs_errors}
use Rattle.items.specs.declared.nodes.Node.{Node}
use Rattle.items.specs.declared.nodes.Node.TheVariants.{Var}
use Rattle.items.specs.Node.{operator, node_of, node_at, node_length}
use Rattle.rules.specs.Syntax.{one, two}
use Rattle.views.specs.View.{on, name_in, leaf_in, leaf_past, expr_in, expr_past, exprs_in}
use Rattle.views.specs.Rows.{name_on}
use Rattle.output.specs.declared.Writer.{Writer}
use Rattle.output.specs.Writers.{Says, puts_none}
use Rattle.tables.specs.Tables.{param_in}
use Rattle.asserts.specs.Sizes.{leaf_errors}

-- ---- values

pub shifted : (e : ℕ) → e < 64 → (1 * 2 ^ e) % 18446744073709551616 ≡ 2 ^ e
shifted e h = rw one-mul (mod-eq_of_lt (pow-lt h))

-- m is the first that passes, where all before it fail, and it passes or is the end
first_is : (k i m : ℕ) (p : ℕ → Bool) → i ≤ m → m ≤ i + k → ((e : ℕ) → e < m → p e ≡ false) → (m < i + k → p m ≡ true) → m ≡ first_from k i p
unfolding first_from
first_is zero i m p l h low hit = omega arith
first_is (suc k) i m p l h low hit = elim (dec_lt i m) [
  | yes a ↦ rw (low i a) (first_is k (suc i) m p (omega arith) (omega arith) low (λ b. hit (omega arith)))
  | no a ↦ let e : m ≡ i = omega arith in rw (e, rw e at hit (omega arith)) refl
]

doubled : (e m : ℕ) → e < m → 2 * 2 ^ e ≤ 2 ^ m
doubled e m h = let q = pow_mono {i = suc e} {j = m} (omega arith) in omega (arith, q, pow-suc 2 e)

module _ (v : ℕ) where
  pub value_far : 9223372036854775808 < v → 64 ≡ value_size v
  unfolding value_size first
  value_far h = first_is 64 0 64 (λ e. leb v (2 ^ e)) (lit≤ tt) (lit≤ tt) (λ e l. lt-leb v (2 ^ e) (let q = doubled e 64 l in omega arith)) (λ l. absurd (omega arith))

  pub value_near : (p k : ℕ) → IsNextPowerOfTwo v p → 2 ^ k ≤ p → p < 2 * 2 ^ k → k < 64 → k ≡ value_size v
  unfolding value_size first
  value_near p k n low high h =
      first_is 64 0 k (λ e. leb v (2 ^ e)) (omega arith) (omega arith)
      (λ e l. lt-leb v (2 ^ e) (let q = doubled e k l in let r = pow_mono {i = 0} {j = e} (omega arith) in omega (arith, n.2)))
      (λ l. le-leb v (2 ^ k) (elim (dec_lt k n.0.0) [
        | yes a ↦ let q = doubled k n.0.0 a in absurd (omega (arith, n.0.1))
        | no a ↦ let q = pow_mono {i = n.0.0} {j = k} (omega arith) in omega (arith, n.0.1, n.1)
      ]))

module _ (n stmt : ℕ) (o : Operand) (sp v : ℕ) (w : Writer) where
  pub value_low : v < 2 ^ n → Says w (compare_errors (size n) stmt o sp v) w
  unfolding compare_errors
  value_low h = rw (lt-leb (2 ^ n) v h) (puts_none error_field w)

  pub value_wide : 64 ≤ n → v < 18446744073709551616 → Says w (compare_errors (size n) stmt o sp v) w
  value_wide h l = let q = pow_mono {i = 64} {j = n} h in value_low (omega arith)

-- ---- expressions

-- the name of a Var
abbrev name_of : Node → Option ℕ
name_of (Var x) = Some x
name_of _ = None

either_none : (b : Bool) (x y : Node) → name_of x ≡ None → name_of y ≡ None → name_of (pick b x y) ≡ None
either_none true x y h g = h
either_none false x y h g = g

operator_none : (o : ℕ) → name_of (operator o) ≡ None
unfolding operator
operator_none o =
    let e = either_none in
    e (eqb o 4) _ _ refl (e (eqb o 5) _ _ refl (e (eqb o 6) _ _ refl (e (eqb o 7) _ _ refl (e (eqb o 8) _ _ refl (e (eqb o 9) _ _ refl
    (e (eqb o 10) _ _ refl (e (eqb o 11) _ _ refl (e (eqb o 12) _ _ refl (e (eqb o 13) _ _ refl (e (eqb o 14) _ _ refl refl))))))))))

is_var : (s : List ℕ) (at : ℕ) → get_or s at 0 ≡ 3 → node_at s at ≡ Var (le2 s (at + 5))
unfolding node_at node_of
is_var s at e = rw e refl

not_var : (s : List ℕ) (at : ℕ) → (get_or s at 0 ≡ 3 → ⊥) → name_of (node_at s at) ≡ None
unfolding node_at node_of
not_var s at e =
    either_none (eqb (get_or s at 0) 0) _ _ refl
    (either_none (eqb (get_or s at 0) 1) _ _ refl (either_none (eqb (get_or s at 0) 2) _ _ refl (rw (ne_eqb (get_or s at 0) 3 e) (operator_none (get_or s at 0)))))

module _ (t : List ℕ) (stmt : ℕ) (p : List ℕ) (at : ℕ) where
  pub leaf_var : (x n : ℕ) → Var x ≡ node_at p at → n ≡ x → leaf_errors (param_in t) stmt p at ≡ pick (param_in t (n % 512)) [] (undefined_parameter (n % 512) stmt (le4 p (at + 1)) ∷ [])
  unfolding leaf_errors
  leaf_var x n e f = elim (ℕ_discrete (get_or p at 0) 3) [
    | yes q ↦ let z : Some x ≡ Some (le2 p (at + 5)) = ap name_of (e ∙ is_var p at q) in let y : n ≡ le2 p (at + 5) = cc in rw (q, y) refl
    | no q ↦ let z : Some x ≡ None = ap name_of e ∙ not_var p at q in let y : ◌≡◌ {A = ℕ} 0 1 = cc in absurd (omega arith)
  ]

  pub leaf_other : ((x : ℕ) → node_at p at ≡ Var x → ⊥) → leaf_errors (param_in t) stmt p at ≡ []
  unfolding leaf_errors
  leaf_other none = elim (ℕ_discrete (get_or p at 0) 3) [
    | yes q ↦ absurd (none _ (is_var p at q))
    | no q ↦ rw (ne_eqb (get_or p at 0) 3 q) refl
  ]

-- ---- what an expression's view is, by its opcode

-- the errors of a leaf by its opcode
leaf_cases : (o : ℕ) (p : List ℕ) (at sp : ℕ) (t : List ℕ) (stmt : ℕ) → o < 4
    → expr_errors (param_in t) stmt (leaf_in o p at sp) ≡ pick (eqb o 3) (pick (param_in t (name_in p at)) [] (undefined_parameter (name_in p at) stmt sp ∷ [])) []
unfolding expr_errors leaf_in
leaf_cases zero p at sp t stmt h = refl
leaf_cases (suc zero) p at sp t stmt h = refl
leaf_cases (suc (suc zero)) p at sp t stmt h = refl
leaf_cases (suc (suc (suc zero))) p at sp t stmt h = refl
leaf_cases (suc (suc (suc (suc o)))) p at sp t stmt h = absurd (omega arith)

leaf_places : (o : ℕ) (p : List ℕ) (at : ℕ) → o < 4 → leaf_past o p (on p at 5) ≡ on p at (node_length o)
unfolding leaf_past node_length
leaf_places zero p at h = refl
leaf_places (suc zero) p at h = omega arith
leaf_places (suc (suc zero)) p at h = omega arith
leaf_places (suc (suc (suc zero))) p at h = omega arith
leaf_places (suc (suc (suc (suc o)))) p at h = absurd (omega arith)

-- no depth left, or no byte
module _ (t : List ℕ) (stmt d : ℕ) (p : List ℕ) (at : ℕ) where
  pub errors_deep : d ≡ 0 → expr_errors (param_in t) stmt (expr_in d p at) ≡ []
  unfolding expr_in expr_errors
  errors_deep e = rw e refl

  pub errors_far : length p ≤ at → expr_errors (param_in t) stmt (expr_in d p at) ≡ []
  unfolding expr_in expr_errors
  errors_far h = go d
    where
      go : (d : ℕ) → expr_errors (param_in t) stmt (expr_in d p at) ≡ []
      go zero = refl
      go (suc d) = rw (le-ltb at (length p) h) refl

  pub past_deep : d ≡ 0 → at ≡ expr_past d p at
  unfolding expr_past
  past_deep e = rw e refl

  pub past_far : length p ≤ at → at ≡ expr_past d p at
  unfolding expr_past
  past_far h = go d
    where
      go : (d : ℕ) → at ≡ expr_past d p at
      go zero = refl
      go (suc d) = rw (le-ltb at (length p) h) refl

-- a node before the end, with a depth left
open_expr : (d : ℕ) (p : List ℕ) (at : ℕ) → (d ≡ 0 → ⊥) → at < length p → expr_in d p at
    ≡ pick (ltb (get_or p at 0) 4) (leaf_in (get_or p at 0) p (on p at 5) (le4 p (at + 1)))
    (pick (ltb (get_or p at 0) 9)
    (two (get_or p at 0) (le4 p (at + 1)) (expr_in (d - 1) p (on p at 5)) (expr_in (d - 1) p (expr_past (d - 1) p (on p at 5))))
    (one (get_or p at 0) (le4 p (at + 1)) (expr_in (d - 1) p (on p at 5))))
unfolding expr_in
open_expr zero p at deep h = absurd (deep refl)
open_expr (suc d) p at deep h = rw (lt-ltb at (length p) h, sub-one) refl

open_past : (d : ℕ) (p : List ℕ) (at : ℕ) → (d ≡ 0 → ⊥) → at < length p → expr_past d p at
    ≡ pick (ltb (get_or p at 0) 4) (leaf_past (get_or p at 0) p (on p at 5))
    (pick (ltb (get_or p at 0) 9) (expr_past (d - 1) p (expr_past (d - 1) p (on p at 5))) (expr_past (d - 1) p (on p at 5)))
unfolding expr_past
open_past zero p at deep h = absurd (deep refl)
open_past (suc d) p at deep h = rw (lt-ltb at (length p) h, sub-one) refl

module _ (t : List ℕ) (stmt d : ℕ) (p : List ℕ) (at : ℕ) (deep : d ≡ 0 → ⊥) (h : at < length p) (o : ℕ) (eo : o ≡ get_or p at 0) where
  pub errors_leaf : o < 4 → expr_errors (param_in t) stmt (expr_in d p at) ≡ leaf_errors (param_in t) stmt p at
  unfolding leaf_errors
  errors_leaf low = rw (open_expr d p at deep h, ← eo, lt-ltb o 4 low, leaf_cases o p (on p at 5) (le4 p (at + 1)) t stmt low, name_on p at 5) refl

  pub past_leaf : o < 4 → expr_past d p at ≡ on p at (node_length o)
  past_leaf low = rw (open_past d p at deep h, ← eo, lt-ltb o 4 low) (leaf_places o p at low)

  module _ (high : 4 ≤ o) where
    pub errors_one : 9 ≤ o → expr_errors (param_in t) stmt (expr_in d p at) ≡ expr_errors (param_in t) stmt (expr_in (d - 1) p (on p at 5))
    unfolding expr_errors
    errors_one k = rw (open_expr d p at deep h, ← eo, le-ltb o 4 high, le-ltb o 9 k) refl

    pub past_one : 9 ≤ o → expr_past d p at ≡ expr_past (d - 1) p (on p at 5)
    past_one k = rw (open_past d p at deep h, ← eo, le-ltb o 4 high, le-ltb o 9 k) refl

    pub errors_two : o < 9 → expr_errors (param_in t) stmt (expr_in d p at)
        ≡ expr_errors (param_in t) stmt (expr_in (d - 1) p (on p at 5)) ++ expr_errors (param_in t) stmt (expr_in (d - 1) p (expr_past (d - 1) p (on p at 5)))
    unfolding expr_errors
    errors_two k = rw (open_expr d p at deep h, ← eo, le-ltb o 4 high, lt-ltb o 9 k) refl

    pub past_two : o < 9 → expr_past d p at ≡ expr_past (d - 1) p (expr_past (d - 1) p (on p at 5))
    past_two k = rw (open_past d p at deep h, ← eo, le-ltb o 4 high, lt-ltb o 9 k) refl

-- ---- expressions in a row, i of k behind

module _ (t : List ℕ) (stmt k i : ℕ) (p : List ℕ) (at : ℕ) where
  pub exprs_none : k ≤ i → exprs_errors (param_in t) stmt (exprs_in (k - i) p at) ≡ []
  unfolding exprs_in exprs_errors
  exprs_none h = let e : k - i ≡ 0 = omega arith in rw e refl

  pub exprs_more : i < k → (n : ℕ) → n ≡ expr_past 64 p at
      → exprs_errors (param_in t) stmt (exprs_in (k - i) p at) ≡ expr_errors (param_in t) stmt (expr_in 64 p at) ++ exprs_errors (param_in t) stmt (exprs_in (k - (i + 1)) p n)
  unfolding exprs_in exprs_errors
  exprs_more h n e = let z : k - i ≡ suc (k - (i + 1)) = omega arith in rw (z, e) refl
