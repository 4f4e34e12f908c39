-- What each method of a set leaves, gate by gate.
use mathlib.Core.Path.{◌≡◌, refl, sym, ap, ap₂, ◌∙◌}
use mathlib.Core.Bool.{Bool, false, not, ◌&&◌, ◌||◌, or_comm}
use Prim.Native.Nat.{ℕ, ◌+◌, ◌-◌, ◌*◌, ◌/◌, ◌%◌, ◌^◌, ◌≤◌, ◌<◌}
use native.Mathlib.Nat.{one-mul, mod-eq_of_lt}
use native.Mathlib.Decide.{ℕ_discrete, dec_lt}
use native.Mathlib.Omega.{arith}
use borrow.Author.Tests.{lt-ltb, le-ltb, eq-eqb, ne_eqb}
use lib.Bits.{bit_and, bit_or}
use lib.Pow.{pow-lt, pow-add, shr-shr, field, mod-mod-pow}
use lib.Dec.{eqb, ltb, not_T, T_not}
use Rattle.rules.specs.Basics.{any}
use Rattle.theorems.specs.Search.{and_T, T_and}
use Rattle.graph.specs.declared.sets.Set.{Set}
use Rattle.graph.specs.Sets.{digit, holds}
use Rattle.graph.proofs.Tests.{any_yes, any_no}
use Rattle.graph.proofs.Digits.{digit_shr, zero_digit, one_digit, or_digit, and_none, and_some, or_in, or_out}

pub holds_in : (s : Set) (j : ℕ) → j < 128 → holds s j ≡ digit s.gates j
unfolding holds
holds_in s j h = rw (lt-ltb j 128 h) refl

pub holds_out : (s : Set) (j : ℕ) → 128 ≤ j → holds s j ≡ false
unfolding holds
holds_out s j h = rw (le-ltb j 128 h) refl

pub holds_empty : (j : ℕ) → holds (record { gates = 0 }) j ≡ false
holds_empty j = elim (dec_lt j 128) [ yes h ↦ holds_in (record { gates = 0 }) j h ∙ zero_digit j | no h ↦ holds_out (record { gates = 0 }) j (omega arith) ]

-- a power as the shift of one within its half
pub power_low : (j : ℕ) → j < 64 → 1 * 2 ^ j % 18446744073709551616 ≡ 2 ^ j
power_low j h = rw one-mul (mod-eq_of_lt (pow-lt h))

pub power_high : (j : ℕ) → 64 ≤ j → j < 128 → (1 * 2 ^ (j - 64) % 18446744073709551616) * 2 ^ 64 % 340282366920938463463374607431768211456 ≡ 2 ^ j
power_high j l h =
    let k : j - 64 < 64 = omega arith in
    let q : j - 64 + 64 ≡ j = omega arith in
    let p : 2 ^ (j - 64) * 2 ^ 64 ≡ 2 ^ j = sym (pow-add 2 (j - 64) 64) ∙ ap (λ (x : ℕ). 2 ^ x) q in
    ap (λ (x : ℕ). x * 2 ^ 64 % 340282366920938463463374607431768211456) (power_low (j - 64) k)
    ∙ ap (λ (x : ℕ). x % 340282366920938463463374607431768211456) p
    ∙ mod-eq_of_lt (pow-lt h)

module _ (s : Set) (j : ℕ) where
  contains_in : j < 128 → eqb (s.gates / 2 ^ j % 2) 1 ≡ holds s j
  contains_in h = sym (holds_in s j h ∙ digit_shr s.gates j)

  -- in the half that has digit j
  pub contains_low : j < 64 → eqb (s.gates % 18446744073709551616 / 2 ^ j % 2) 1 ≡ holds s j
  contains_low h =
      let w : 63 - j + 1 + j ≡ 64 = omega arith in
      ap (λ (k : ℕ). eqb (s.gates % 2 ^ k / 2 ^ j % 2) 1) (sym w)
      ∙ ap (λ (x : ℕ). eqb (x % 2) 1) (field s.gates (63 - j + 1) j)
      ∙ ap (λ (x : ℕ). eqb x 1) (mod-mod-pow (s.gates / 2 ^ j) (63 - j) 1)
      ∙ contains_in (omega arith)

  pub contains_high : 64 ≤ j → j < 128 → eqb (s.gates / 2 ^ 64 / 2 ^ (j - 64) % 2) 1 ≡ holds s j
  contains_high l h =
      let q : 64 + (j - 64) ≡ j = omega arith in
      ap (λ (x : ℕ). eqb (x % 2) 1) (shr-shr s.gates 64 (j - 64) ∙ ap (λ (k : ℕ). s.gates / 2 ^ k) q) ∙ contains_in h

  pub contains_out : 128 ≤ j → ltb j 128 ≡ holds s j
  contains_out h = le-ltb j 128 h ∙ sym (holds_out s j h)

  pub with_in : j < 128 → (p : ℕ) → p ≡ 2 ^ j → (k : ℕ) → k < 128 → holds (record { gates = bit_or s.gates p }) k ≡ (eqb j k || holds s k)
  with_in h p e k l =
      holds_in (record { gates = bit_or s.gates p }) k l
      ∙ or_digit s.gates p k
      ∙ or_comm (digit s.gates k) (digit p k)
      ∙ ap₂ (λ (x y : Bool). x || y) (ap (λ (x : ℕ). digit x k) e ∙ one_digit j k) (sym (holds_in s k l))

module _ (a b : Set) where
  abbrev both : ℕ → Bool
  both k = holds a k && holds b k

  abbrev alone : ℕ → Bool
  alone k = holds a k && not (holds b k)

  pub holds_union : (k : ℕ) → holds (record { gates = bit_or a.gates b.gates }) k ≡ (holds a k || holds b k)
  unfolding holds
  holds_union k = elim (dec_lt k 128) [ yes h ↦ rw (lt-ltb k 128 h) (or_digit a.gates b.gates k) | no h ↦ rw (le-ltb k 128 (omega arith)) refl ]

  pub meets_is : a.gates < 340282366920938463463374607431768211456 → not (eqb (bit_and a.gates b.gates) 0) ≡ any 128 both
  meets_is h = elim (ℕ_discrete (bit_and a.gates b.gates) 0) [
    | yes q ↦
        ap not (eq-eqb (bit_and a.gates b.gates) 0 q)
        ∙ sym (any_no 128 both (λ k m t. let x = and_T (holds a k) (holds b k) t in and_none k a.gates b.gates q (rw (holds_in a k m) at x.0) (rw (holds_in b k m) at x.1)))
    | no q ↦
        let s = and_some 128 a.gates b.gates h q in
        ap not (ne_eqb (bit_and a.gates b.gates) 0 q)
        ∙ sym (any_yes 128 both s.0 s.1 (rw (holds_in a s.0 s.1, holds_in b s.0 s.1) (T_and (digit a.gates s.0) (digit b.gates s.0) s.2 s.3)))
  ]

  pub inside_is : a.gates < 340282366920938463463374607431768211456 → eqb (bit_or a.gates b.gates) b.gates ≡ not (any 128 alone)
  inside_is h = elim (ℕ_discrete (bit_or a.gates b.gates) b.gates) [
    | yes q ↦
        eq-eqb (bit_or a.gates b.gates) b.gates q
        ∙ sym (ap not (any_no 128 alone (λ k m t. let x = and_T (holds a k) (not (holds b k)) t in
        T_not (holds b k) x.1 (rw (holds_in b k m) (or_in k a.gates b.gates q (rw (holds_in a k m) at x.0))))))
    | no q ↦
        let s = or_out 128 a.gates b.gates h q in
        ne_eqb (bit_or a.gates b.gates) b.gates q
        ∙ sym (ap not (any_yes 128 alone s.0 s.1
        (rw (holds_in a s.0 s.1, holds_in b s.0 s.1) (T_and (digit a.gates s.0) (not (digit b.gates s.0)) s.2 (not_T (digit b.gates s.0) s.3)))))
  ]
