-- Numbers whose upper bytes lie past the end.
use Prim.Native.Nat.{ℕ, ◌+◌, ◌≤◌}
use native.Mathlib.Omega.{arith}
use mathlib.Core.Path.{◌≡◌}
use mathlib.Core.List.{List}
use lib.ListN.{length, get_or, get_or-eq_default}
use Rattle.rules.specs.Items.{le2, le4, le8}

pub zero_1 : (s : List ℕ) (at : ℕ) → length s ≤ at → get_or s at 0 ≡ 0
zero_1 s at h = get_or-eq_default s 0 h

pub zero_2 : (s : List ℕ) (at : ℕ) → length s ≤ at → le2 s at ≡ 0
zero_2 s at h = omega (arith, zero_1 s at h, zero_1 s (at + 1) (omega arith))

pub zero_4 : (s : List ℕ) (at : ℕ) → length s ≤ at → le4 s at ≡ 0
zero_4 s at h = omega (arith, zero_2 s at h, zero_2 s (at + 2) (omega arith))

pub zero_8 : (s : List ℕ) (at : ℕ) → length s ≤ at → le8 s at ≡ 0
zero_8 s at h = omega (arith, zero_4 s at h, zero_4 s (at + 4) (omega arith))
