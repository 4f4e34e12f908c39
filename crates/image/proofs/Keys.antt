-- The key of a name, word by word; and that of a field.
use Prim.Native.Nat.{ℕ, suc, ◌+◌, ◌-◌, ◌*◌, ◌/◌, ◌%◌, ◌<◌, ◌≤◌, min}
use native.Mathlib.Omega.{arith}
use mathlib.Core.Path.{◌≡◌, refl, subst}
use mathlib.Core.List.{List}
use borrow.Author.Tests.{ne_eqb}
use lib.ListN.{length, get_or}
use Rattle.rules.specs.Items.{le8}
use Rattle.rules.specs.Reading.{load_at}
use Rattle.image.specs.Table.{stirred, folded, key_of, key_at, slot_of}

-- ---- a key

pub folded_start : (s : List ℕ) → folded (length s / 8 + 1) s 0 0 0 ≡ key_of s
unfolding key_of
folded_start s = refl

pub folded_turn : (s : List ℕ) (k i at a b w v at' a' b' : ℕ) → i < k → v ≡ le8 s at → a' ≡ stirred a (v % 4294967296)
    → b' ≡ stirred b (v / 4294967296) → at' ≡ min (at + 8) (length s) → folded (k - i) s at a b ≡ w → folded (k - (i + 1)) s at' a' b' ≡ w
unfolding folded
folded_turn s k i at a b w v at' a' b' h ev ea eb et inv =
    let one_less : k - i ≡ suc (k - (i + 1)) = omega arith in
    rw (ea, eb, et, ev) (subst (λ (n : ℕ). folded n s at a b ≡ w) one_less inv)

pub folded_end : (s : List ℕ) (k i at a b w : ℕ) → k ≤ i → folded (k - i) s at a b ≡ w → a + 4294967296 * b ≡ w
unfolding folded
folded_end s k i at a b w h inv = let none : k - i ≡ 0 = omega arith in subst (λ (n : ℕ). folded n s at a b ≡ w) none inv

pub slot_is : (k x y : ℕ) → x ≡ stirred (k % 4294967296) (k / 4294967296) → y ≡ stirred x 0 → y / 524288 ≡ slot_of k
unfolding slot_of
slot_is k x y e f = rw (f, e)

-- ---- the key of a field

module _ (img : List ℕ) (at t k : ℕ) (p : List ℕ) (et : t ≡ get_or img at 0) (ep : p ≡ load_at img at) where
  pub key_there : t ≡ 1 → k ≡ key_of p → k ≡ key_at img at
  unfolding key_at
  key_there h e = rw (← et, h, ← ep) e

  pub key_told : k ≡ key_at img at → t ≡ 1 → k ≡ key_of p
  unfolding key_at
  key_told e h = rw (← et, h, ← ep) at e

pub key_none : (img : List ℕ) (at t : ℕ) → t ≡ get_or img at 0 → (t ≡ 1 → ⊥) → 0 ≡ key_at img at
unfolding key_at
key_none img at t et h = rw (← et, ne_eqb t 1 h)
