-- The binary digits of words: of a union, of a power, of words with a digit in common; then of sets.
use mathlib.Core.Path.{◌≡◌, refl, sym, ap, ◌∙◌, subst}
use mathlib.Core.Bool.{Bool, false, ◌||◌}
use Prim.Native.Nat.{ℕ, zero, suc, ◌/◌, ◌%◌, ◌^◌, ◌<◌, max}
use native.Mathlib.Nat.{pow-suc, div-one}
use native.Mathlib.Decide.{ℕ_discrete}
use native.Mathlib.Numerals.{one-add}
use native.Mathlib.Omega.{arith}
use borrow.Author.Tests.{eq-eqb, ne_eqb}
use lib.Bits.{bit_and, bit_or, and_step, or_step}
use lib.Pow.{shr-shr}
use lib.Dec.{T, eqb, eqb→eq, eqb-zero-suc, eqb-suc-zero, eqb-suc-suc}
use Rattle.theorems.specs.Search.{test, or_left}
use Rattle.graph.specs.Sets.{digit}
use Rattle.graph.proofs.Tests.{T_true}

-- ---- one word

pub digit_shr : (x j : ℕ) → digit x j ≡ eqb (x / 2 ^ j % 2) 1
unfolding digit
digit_shr x zero = ap (λ (y : ℕ). eqb (y % 2) 1) (sym (div-one x))
digit_shr x (suc j) = digit_shr (x / 2) j ∙ ap (λ (y : ℕ). eqb (y % 2) 1) (shr-shr x 1 j ∙ ap (λ (k : ℕ). x / 2 ^ k) (one-add j))

pub zero_digit : (j : ℕ) → digit 0 j ≡ false
unfolding digit
zero_digit zero = refl
zero_digit (suc j) = zero_digit j

pub one_digit : (e j : ℕ) → digit (2 ^ e) j ≡ eqb e j
unfolding digit
one_digit zero zero = refl
one_digit zero (suc j) = zero_digit j ∙ sym (eqb-zero-suc j)
one_digit (suc e) zero =
    let q : 2 ^ suc e % 2 ≡ 0 = omega (arith, pow-suc 2 e) in
    ap (λ (x : ℕ). eqb x 1) q ∙ sym (eqb-suc-zero e)
one_digit (suc e) (suc j) =
    let q : 2 ^ suc e / 2 ≡ 2 ^ e = omega (arith, pow-suc 2 e) in
    ap (λ (x : ℕ). digit x j) q ∙ one_digit e j ∙ sym (eqb-suc-suc e j)

-- the lowest digits
low_or : (x y : ℕ) → x < 2 → y < 2 → eqb (max x y) 1 ≡ (eqb x 1 || eqb y 1)
low_or x y h k = elim (ℕ_discrete x 1) [
  | yes e ↦ let q : max x y ≡ 1 = omega arith in eq-eqb (max x y) 1 q ∙ sym (ap (λ (b : Bool). b || eqb y 1) (eq-eqb x 1 e))
  | no e ↦ let q : max x y ≡ y = omega arith in ap (λ (z : ℕ). eqb z 1) q ∙ sym (ap (λ (b : Bool). b || eqb y 1) (ne_eqb x 1 e))
]

pub or_digit : (a b j : ℕ) → digit (bit_or a b) j ≡ (digit a j || digit b j)
unfolding digit
or_digit a b zero =
    let q : bit_or a b % 2 ≡ max (a % 2) (b % 2) = omega (arith, or_step a b) in
    ap (λ (x : ℕ). eqb x 1) q ∙ low_or (a % 2) (b % 2) (omega arith) (omega arith)
or_digit a b (suc j) =
    let q : bit_or a b / 2 ≡ bit_or (a / 2) (b / 2) = omega (arith, or_step a b) in
    ap (λ (x : ℕ). digit x j) q ∙ or_digit (a / 2) (b / 2) j

-- a digit in common, or none
pub and_none : (j a b : ℕ) → bit_and a b ≡ 0 → T (digit a j) → T (digit b j) → ⊥
unfolding digit
and_none zero a b e s t =
    let p = eqb→eq (a % 2) 1 s in
    let q = eqb→eq (b % 2) 1 t in
    omega (arith, and_step a b)
and_none (suc j) a b e s t = and_none j (a / 2) (b / 2) (omega (arith, and_step a b)) s t

low_zero : (x : ℕ) → (T (eqb (x % 2) 1) → ⊥) → x % 2 ≡ 0
low_zero x f = let g : ¬ (x % 2 ≡ 1) = λ e. f (T_true (eqb (x % 2) 1) (eq-eqb (x % 2) 1 e)) in omega arith

pub and_some : (k a b : ℕ) → a < 2 ^ k → (bit_and a b ≡ 0 → ⊥) → (j : ℕ) × (j < k) × T (digit a j) × T (digit b j)
unfolding digit
and_some zero a b h n = let z : a ≡ 0 = omega arith in absurd (n (ap (λ (x : ℕ). bit_and x b) z))
and_some (suc k) a b h n =
    let deeper : (bit_and (a / 2) (b / 2) ≡ 0 → ⊥) → (j : ℕ) × (j < suc k) × T (digit a j) × T (digit b j) = λ f.
    let r = and_some k (a / 2) (b / 2) (omega (arith, pow-suc 2 k)) f in (suc r.0, omega (arith, r.1), r.2, r.3) in
    test (eqb (a % 2) 1)
    (λ s. test (eqb (b % 2) 1)
    (λ t. (0, omega arith, s, t))
    (λ t. deeper (λ e. n (omega (arith, low_zero b t, and_step a b)))))
    (λ s. deeper (λ e. n (omega (arith, low_zero a s, and_step a b))))

-- each digit of a is one of b, or one is not
pub or_in : (j a b : ℕ) → bit_or a b ≡ b → T (digit a j) → T (digit b j)
or_in j a b e t = subst T (sym (or_digit a b j) ∙ ap (λ (x : ℕ). digit x j) e) (or_left (digit a j) (digit b j) t)

pub or_out : (k a b : ℕ) → a < 2 ^ k → (bit_or a b ≡ b → ⊥) → (j : ℕ) × (j < k) × T (digit a j) × (T (digit b j) → ⊥)
unfolding digit
or_out zero a b h n = let z : a ≡ 0 = omega arith in absurd (n (ap (λ (x : ℕ). bit_or x b) z))
or_out (suc k) a b h n =
    let deeper : (bit_or (a / 2) (b / 2) ≡ b / 2 → ⊥) → (j : ℕ) × (j < suc k) × T (digit a j) × (T (digit b j) → ⊥) = λ f.
    let r = or_out k (a / 2) (b / 2) (omega (arith, pow-suc 2 k)) f in (suc r.0, omega (arith, r.1), r.2, r.3) in
    test (eqb (b % 2) 1)
    (λ t. deeper (λ e. n (omega (arith, eqb→eq (b % 2) 1 t, or_step a b))))
    (λ t. test (eqb (a % 2) 1)
    (λ s. (0, omega arith, s, t))
    (λ s. deeper (λ e. n (omega (arith, low_zero a s, or_step a b)))))
