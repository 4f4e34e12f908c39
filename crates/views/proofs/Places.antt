-- Reading at a place that stopped at the end.
use Prim.Native.Nat.{ℕ, ◌+◌, ◌-◌, ◌%◌, ◌<◌, ◌≤◌, min}
use native.Mathlib.Omega.{arith}
use native.Mathlib.Decide.{dec_le}
use mathlib.Core.Path.{◌≡◌, refl, sym, ap, ◌∙◌}
use mathlib.Core.List.{List, []}
use mathlib.Core.Bool.{Bool}
use lib.ListN.{length, get_or, take, drop, drop_of_length-le, length-drop, get_or-eq_default}
use lib.Seq.{take_all, take-nil}
use lib.Dec.{eqb}
use Rattle.rules.specs.Items.{le2, le4, le8}
use Rattle.rules.specs.Reading.{load_at, len_at}
use Rattle.views.specs.View.{name_in, operand_in, past, next_in}

pub byte_past : (s : List ℕ) (at : ℕ) → length s ≤ at → ◌≡◌ {A = ℕ} 0 (get_or s at 0)
byte_past s at h = sym (get_or-eq_default s 0 h)

module _ (s : List ℕ) (at k r : ℕ) (e : r ≡ min (at + k) (length s)) where
  -- what reads the same at all places past the end reads the same at the two
  at_step : {A : Type 0} (f : ℕ → A) → ((i j : ℕ) → length s ≤ i → length s ≤ j → f i ≡ f j) → f r ≡ f (at + k)
  at_step f same = elim (dec_le (at + k) (length s)) [
    | yes l ↦ let q : r ≡ at + k = omega arith in ap f q
    | no l ↦ same r (at + k) (omega arith) (omega arith)
  ]

  pub byte_step : get_or s r 0 ≡ get_or s (at + k) 0
  byte_step = at_step (λ i. get_or s i 0) (λ i j a b. sym (byte_past s i a) ∙ byte_past s j b)

  pub two_step : le2 s r ≡ le2 s (at + k)
  two_step = at_step (le2 s) (λ i j a b. two_past i a ∙ sym (two_past j b))
    where
      two_past : (i : ℕ) → length s ≤ i → le2 s i ≡ 0
      two_past i a = omega (arith, byte_past s i a, byte_past s (i + 1) (omega arith))

  pub eight_step : le8 s r ≡ le8 s (at + k)
  eight_step = at_step (le8 s) (λ i j a b. eight_past i a ∙ sym (eight_past j b))
    where
      four_past : (i : ℕ) → length s ≤ i → le4 s i ≡ 0
      four_past i a = omega (arith, byte_past s i a, byte_past s (i + 1) (omega arith), byte_past s (i + 2) (omega arith), byte_past s (i + 2 + 1) (omega arith))

      eight_past : (i : ℕ) → length s ≤ i → le8 s i ≡ 0
      eight_past i a = omega (arith, four_past i a, four_past (i + 4) (omega arith))

pub operand_made : (s : List ℕ) (at r₄ r₆ r₇ x y w : ℕ) (z : Bool) → r₄ ≡ min (at + 4) (length s) → r₆ ≡ min (at + 6) (length s) → r₇ ≡ min (at + 7) (length s)
    → (x ≡ le4 s at) × (x < 4294967296) → (y ≡ name_in s r₄) × (y < 512) → z ≡ eqb (get_or s r₆ 0) 1 → w ≡ le8 s r₇
    → record { span = x; name = y; indexed = z; index = w } ≡ operand_in s at
unfolding operand_in
operand_made s at r₄ r₆ r₇ x y w z e₄ e₆ e₇ ex ey ez ew =
    rw (ex.0, ey.0, ez, ew, two_step s at 4 r₄ e₄, byte_step s at 6 r₆ e₆, eight_step s at 7 r₇ e₇) refl

pub operand_whole : (s : List ℕ) (at x y w : ℕ) (z : Bool) → (x ≡ le4 s at) × (x < 4294967296) → (y ≡ le2 s (at + 4)) × (y < 65536) → z ≡ eqb (get_or s (at + 6) 0) 1
    → w ≡ le8 s (at + 7) → record { span = x; name = y % 512; indexed = z; index = w } ≡ operand_in s at
unfolding operand_in
operand_whole s at x y w z ex ey ez ew = rw (ex.0, ey.0, ez, ew) refl

-- the payload
load_none : (img : List ℕ) (at : ℕ) → length img - at < 3 → [] ≡ load_at img at
load_none img at h = let g : length img ≤ at + 3 = omega arith in rw (drop_of_length-le img g) (sym (take-nil (len_at img at)))

load_part : (img : List ℕ) (at end : ℕ) → end ≡ next_in img at → 3 ≤ length img - at → take (end - (at + 3)) (drop (at + 3) img) ≡ load_at img at
load_part img at end e h = elim (dec_le (past img at) (length img)) [
  | yes l ↦ let q : end - (at + 3) ≡ len_at img at = omega arith in ap (λ n. take n (drop (at + 3) img)) q
  | no l ↦
      let d : length (drop (at + 3) img) ≡ length img - (at + 3) = length-drop (at + 3) img in
      let q : end ≡ length img = omega arith in
      take_all (end - (at + 3)) (drop (at + 3) img) (omega arith) ∙ sym (take_all (len_at img at) (drop (at + 3) img) (omega arith))
]

pub load_between : (img : List ℕ) (at from end : ℕ) → from ≡ min (at + 3) (length img) → end ≡ next_in img at → take (end - from) (drop from img) ≡ load_at img at
load_between img at from end f e = elim (dec_le 3 (length img - at)) [
  | yes l ↦ let q : from ≡ at + 3 = omega arith in rw q (load_part img at end e l)
  | no l ↦
      let g : length img ≤ from = omega arith in
      rw (drop_of_length-le img g) (take-nil (end - from) ∙ load_none img at (omega arith))
]
