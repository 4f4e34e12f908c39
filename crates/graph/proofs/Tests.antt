-- Tests that say the same, and searches below a bound.
use mathlib.Core.Path.{◌≡◌, refl, sym, ap, ◌∙◌, subst}
use mathlib.Core.Bool.{Bool, true, false}
use mathlib.Core.Logic.{◌≢◌}
use Prim.Native.Nat.{ℕ, ◌+◌, ◌≤◌, ◌<◌}
use native.Mathlib.Decide.{dec_lt}
use native.Mathlib.Omega.{arith}
use borrow.Author.Tests.{lt-ltb, le-ltb}
use lib.Dec.{T, ltb}
use Rattle.rules.specs.Basics.{first, any}
use Rattle.theorems.specs.Search.{first_le, first_true, first_least, first_only, any_some, any_of}

-- two tests that imply each other are one
pub same_test : (a b : Bool) → (T a → T b) → (T b → T a) → a ≡ b
same_test true true f g = refl
same_test true false f g = absurd (f tt)
same_test false true f g = absurd (g tt)
same_test false false f g = refl

pub T_true : (a : Bool) → a ≡ true → T a
T_true a e = subst T (sym e) tt

pub T_false : (a : Bool) → a ≡ false → T a → ⊥
T_false a e t = subst T e t

pub is_true : (a : Bool) → T a → a ≡ true
is_true true t = refl
is_true false t = absurd t

pub is_false : (a : Bool) → (T a → ⊥) → a ≡ false
is_false true f = absurd (f tt)
is_false false f = refl

pub ltb_more : (v i : ℕ) → v ≢ i → ltb v (i + 1) ≡ ltb v i
ltb_more v i n = elim (dec_lt v i) [
  | yes h ↦ lt-ltb v (i + 1) (omega arith) ∙ sym (lt-ltb v i h)
  | no h ↦ le-ltb v (i + 1) (omega arith) ∙ sym (le-ltb v i (omega arith))
]

pub any_yes : (n : ℕ) (p : ℕ → Bool) (i : ℕ) → i < n → T (p i) → any n p ≡ true
any_yes n p i h t = is_true (any n p) (any_of n p i h t)

pub any_no : (n : ℕ) (p : ℕ → Bool) → ((i : ℕ) → i < n → T (p i) → ⊥) → any n p ≡ false
any_no n p f = is_false (any n p) (λ t. let s = any_some n p t in f s.0 s.1 s.2)

-- ---- searches

pub search_hit : (n : ℕ) (p : ℕ → Bool) (i : ℕ) → i < n → ((j : ℕ) → j < i → T (p j) → ⊥) → T (p i) → i ≡ first n p
search_hit n p i h none t = sym (first_only n p i h t none)

pub search_end : (n : ℕ) (p : ℕ → Bool) (i : ℕ) → n ≤ i → ((j : ℕ) → j < i → T (p j) → ⊥) → n ≡ first n p
search_end n p i h none = elim (dec_lt (first n p) n) [ yes a ↦ absurd (none (first n p) (omega arith) (first_true n p a)) | no a ↦ omega (arith, first_le n p) ]

-- two tests that agree below n have one first
pub first_same : (n : ℕ) (p q : ℕ → Bool) → ((i : ℕ) → i < n → p i ≡ q i) → first n p ≡ first n q
first_same n p q e = elim (dec_lt (first n p) n) [
  | yes a ↦
      search_hit n q (first n p) a (λ j l t. first_least n p j l (subst T (sym (e j (omega arith))) t)) (subst T (e (first n p) a) (first_true n p a))
  | no a ↦
      let b : first n p ≡ n = omega (arith, first_le n p) in
      b ∙ search_end n q n (omega arith) (λ j l t. first_least n p j (omega arith) (subst T (sym (e j l)) t))
]

pub any_same : (n : ℕ) (p q : ℕ → Bool) → ((i : ℕ) → i < n → p i ≡ q i) → any n p ≡ any n q
unfolding any
any_same n p q e = ap (λ (x : ℕ). ltb x n) (first_same n p q e)
