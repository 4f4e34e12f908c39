-- Items in a row, one at a time; past the end every place reads the same, so that a place may stop there.
use Prim.Native.Nat.{ℕ, zero, suc, ◌+◌, ◌-◌, ◌*◌, ◌%◌, ◌<◌, ◌≤◌}
use Rattle.std.proofs.Common.{arith, sub-one, sym, ap, ◌∙◌}
use Rattle.std.proofs.Math.Decide.{dec_le}
use Rattle.std.specs.Prelude.{◌≡◌, List, [], ◌∷◌, length, get_or, take}
use Rattle.std.proofs.Math.Path.{refl}
use native.Mathlib.Nat.{mul-suc, mod-lt}
use lib.Dec.{lit<}
use Rattle.std.proofs.Math.ListN.{get_or-eq_default}
use Rattle.rules.specs.declared.Named.{Named}
use Rattle.rules.specs.Items.{le2, le4, le8}
use Rattle.views.specs.View.{on, name_in, operand_in, named_in, row_in, row_past}

-- reads the same at all places past the end
abbrev pub Ends : {A : Type 0} → (List ℕ → ℕ → A) → Type 0
Ends v = (s : List ℕ) (i j : ℕ) → length s ≤ i → length s ≤ j → v s i ≡ v s j

byte_far : (s : List ℕ) (i : ℕ) → length s ≤ i → get_or s i 0 ≡ 0
byte_far s i h = get_or-eq_default s 0 h

le2_far : (s : List ℕ) (i : ℕ) → length s ≤ i → le2 s i ≡ 0
le2_far s i h = omega (arith, byte_far s i h, byte_far s (i + 1) (omega arith))

le4_far : (s : List ℕ) (i : ℕ) → length s ≤ i → le4 s i ≡ 0
le4_far s i h = omega (arith, le2_far s i h, le2_far s (i + 2) (omega arith))

le8_far : (s : List ℕ) (i : ℕ) → length s ≤ i → le8 s i ≡ 0
le8_far s i h = omega (arith, le4_far s i h, le4_far s (i + 4) (omega arith))

module _ (s : List ℕ) (i j : ℕ) (h : length s ≤ i) (k : length s ≤ j) where
  four_same : le4 s i ≡ le4 s j
  four_same = le4_far s i h ∙ sym (le4_far s j k)

  name_same : name_in s (i + 4) ≡ name_in s (j + 4)
  name_same = ap (λ (n : ℕ). n % 512) (le2_far s (i + 4) (omega arith) ∙ sym (le2_far s (j + 4) (omega arith)))

pub le4_on : (s : List ℕ) (at k : ℕ) → le4 s (on s at k) ≡ le4 s (at + k)
le4_on s at k = elim (dec_le (at + k) (length s)) [
  | yes l ↦ let e : on s at k ≡ at + k = omega arith in ap (le4 s) e
  | no l ↦ four_same s (on s at k) (at + k) (omega arith) (omega arith)
]

pub name_on : (s : List ℕ) (at k : ℕ) → name_in s (on s at k) ≡ name_in s (at + k)
name_on s at k = elim (dec_le (at + k) (length s)) [
  | yes l ↦ let e : on s at k ≡ at + k = omega arith in ap (name_in s) e
  | no l ↦ ap (λ (n : ℕ). n % 512) (le2_far s (on s at k) (omega arith) ∙ sym (le2_far s (at + k) (omega arith)))
]

pub operand_ends : Ends operand_in
unfolding operand_in
operand_ends s i j h k =
    let f = byte_far s (i + 6) (omega arith) ∙ sym (byte_far s (j + 6) (omega arith)) in
    let x = le8_far s (i + 7) (omega arith) ∙ sym (le8_far s (j + 7) (omega arith)) in
    rw (four_same s i j h k, name_same s i j h k, f, x) refl

pub named_ends : Ends named_in
unfolding named_in
named_ends s i j h k = rw (four_same s i j h k, name_same s i j h k) refl

module _ {A : Type 0} (v : List ℕ → ℕ → A) (w : ℕ) (ends : Ends v) where
  row_far : (k : ℕ) → Ends (row_in v w k)
  unfolding row_in
  row_far zero s i j h g = refl
  row_far (suc k) s i j h g = rw (ends s i j h g, row_far k s (i + w) (j + w) (omega arith) (omega arith)) refl

  pub row_on : (k : ℕ) (s : List ℕ) (at : ℕ) → row_in v w k s (on s at w) ≡ row_in v w k s (at + w)
  row_on k s at = elim (dec_le (at + w) (length s)) [
    | yes l ↦ let e : on s at w ≡ at + w = omega arith in ap (row_in v w k s) e
    | no l ↦ row_far k s (on s at w) (at + w) (omega arith) (omega arith)
  ]

  pub row_more : (k : ℕ) (s : List ℕ) (at : ℕ) → 0 < k → row_in v w k s at ≡ v s at ∷ row_in v w (k - 1) s (on s at w)
  unfolding row_in
  row_more zero s at h = absurd (omega arith)
  row_more (suc k) s at h = rw (sub-one, row_on k s at) refl

  pub row_none : (k : ℕ) (s : List ℕ) (at : ℕ) → k ≤ 0 → row_in v w k s at ≡ []
  unfolding row_in
  row_none zero s at h = refl
  row_none (suc k) s at h = absurd (omega arith)

  pub row_length : (k : ℕ) (s : List ℕ) (at : ℕ) → length (row_in v w k s at) ≡ k
  unfolding row_in
  row_length zero s at = refl
  row_length (suc k) s at = ap suc (row_length k s (at + w))

  -- a row that stops early
  pub row_take : (j k : ℕ) (s : List ℕ) (at : ℕ) → j ≤ k → row_in v w j s at ≡ take j (row_in v w k s at)
  unfolding row_in
  row_take zero k s at h = refl
  row_take (suc j) zero s at h = absurd (omega arith)
  row_take (suc j) (suc k) s at h = ap (λ l. v s at ∷ l) (row_take j k s (at + w) (omega arith))

-- six bytes a name
pub past_names : (k at : ℕ) → row_past 6 k at ≡ at + 6 * k
unfolding row_past
past_names zero at = omega arith
past_names (suc k) at = past_names k (at + 6) ∙ (let e : at + 6 + 6 * k ≡ at + 6 * suc k = omega (arith, mul-suc 6 k) in e)

-- a name of a row is below 512
pub named_small : (k : ℕ) (s : List ℕ) (at : ℕ) (n : Named) (l : List Named) → row_in named_in 6 k s at ≡ n ∷ l → n.name < 512
unfolding row_in named_in
named_small zero s at n l e = absurd (let z : length {A = Named} [] ≡ length (n ∷ l) = ap length e in omega arith)
named_small (suc k) s at n l e = let h : name_in s (at + 4) ≡ n.name = ap (λ l. (get_or l 0 n).name) e in rw (← h) (mod-lt (le2 s (at + 4)) (lit< tt))
