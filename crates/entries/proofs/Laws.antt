-- A row of bits, and the length of a call's field.
use mathlib.Core.Path.{◌≡◌, refl, sym, ap, ◌∙◌}
use mathlib.Core.List.{List, [], ◌∷◌, ◌++◌, append_assoc}
use Prim.Native.Nat.{ℕ, ◌+◌, ◌*◌, ◌/◌, ◌%◌, ◌<◌}
use native.Mathlib.Nat.{add-mul-mod_self_left}
use native.Mathlib.Omega.{arith}
use lib.ListN.{length, get_or, take}
use Rattle.std.proofs.lemmas.List.{take_more}
use Rattle.rules.specs.Errors.{bytes2, bytes4}
use Rattle.rules.specs.Run.{opaque_e, bits_bytes, entry_field}
use Rattle.output.specs.declared.Writer.{Writer}
use Rattle.output.specs.Writers.{Writes, writes_none, writes_then, writes_same}

-- ---- a row

row_append : (a b : List ℕ) → bits_bytes (a ++ b) ≡ bits_bytes a ++ bits_bytes b
unfolding bits_bytes
row_append [] b = refl
row_append (x ∷ a) b = ap (λ (l : List ℕ). bytes4 x ++ l) (row_append a b) ∙ sym (append_assoc (bytes4 x) (bits_bytes a) (bits_bytes b))

pub row_none : (w : Writer) → Writes w (bits_bytes []) w
unfolding bits_bytes
row_none w = writes_none w

-- one bit more
pub row_more : {w w₁ w₂ : Writer} (bits : List ℕ) (i : ℕ) → i < length bits → Writes w (bits_bytes (take i bits)) w₁ → Writes w₁ (bytes4 (get_or bits i 0)) w₂
    → Writes w (bits_bytes (take (i + 1) bits)) w₂
unfolding bits_bytes
row_more bits i h a b =
    writes_same (writes_then a b) (sym (ap bits_bytes (take_more bits i 0 h) ∙ row_append (take i bits) (get_or bits i 0 ∷ [])))

row_length : (bits : List ℕ) → length (bits_bytes bits) ≡ 4 * length bits
unfolding bits_bytes
row_length [] = omega arith
row_length (b ∷ bits) = omega (arith, row_length bits)

-- ---- a call

-- two bytes of a length do not show the rest of it
low : (n : ℕ) → bytes2 (2 + 4 * (n % 16384)) ≡ bytes2 (2 + 4 * n)
low n =
    let r : ℕ = n % 16384 in
    let a : (2 + 4 * r) % 256 ≡ (2 + 4 * n) % 256 = omega arith in
    let w : (2 + 4 * n) / 256 ≡ (2 + 4 * r) / 256 + 256 * (n / 16384) = omega arith in
    let b : (2 + 4 * n) / 256 % 256 ≡ (2 + 4 * r) / 256 % 256 = ap (λ (k : ℕ). k % 256) w ∙ add-mul-mod_self_left ((2 + 4 * r) / 256) 256 (n / 16384) in
    rw (a, b) refl

pub opaque_field : (x : ℕ) (qs : List ℕ) → 38 ∷ (bytes2 (2 + 4 * (length qs % 16384)) ++ (bytes2 x ++ bits_bytes qs)) ≡ entry_field (opaque_e x qs)
unfolding entry_field
opaque_field x qs =
    let l : length (bytes2 x ++ bits_bytes qs) ≡ 2 + 4 * length qs = omega (arith, row_length qs) in
    let h : bytes2 (2 + 4 * (length qs % 16384)) ≡ bytes2 (length (bytes2 x ++ bits_bytes qs)) = low (length qs) ∙ sym (ap bytes2 l) in
    ap (λ (z : List ℕ). 38 ∷ (z ++ (bytes2 x ++ bits_bytes qs))) h
