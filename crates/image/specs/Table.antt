-- The table of names: the places of the NAME fields, in a row of 512; the key of each, and the marks of the keys.
use Rattle.std.specs.Prelude.{ℕ, zero, suc, ◌+◌, ◌-◌, ◌*◌, ◌/◌, ◌%◌, ◌<◌, ◌≤◌, min, ◌≡◌, List, [], ◌∷◌, ◌++◌, map, length, take, set, get_or, replicate, eqb, ltb}
use Rattle.rules.specs.Basics.{pick}
use Rattle.rules.specs.Items.{le8}
use Rattle.rules.specs.Reading.{len_at, load_at}
use Rattle.image.specs.declared.Names.{Names}

-- the payloads at its places
unfoldable pub names_of : List ℕ → Names → List (List ℕ)
names_of img t = map (load_at img) (take t.count t.at)

abbrev pub tabled : (places : List ℕ) (n : ℕ) → Names
tabled places n = record { at = places; count = n }

-- the table after a field with the tag at a place
unfoldable pub noted_of : Names → (tag at : ℕ) → Names
noted_of t tag at = pick (eqb tag 1) (pick (ltb t.count 512) (record { at = set t.at t.count at; count = t.count + 1 }) t) t

-- where k fields begin that stand in a row from a place on, and the place after them
unfoldable pub starts : (k : ℕ) → List ℕ → (at : ℕ) → List ℕ
starts zero img at = []
starts (suc k) img at = at ∷ starts k img (at + 3 + len_at img at)

unfoldable pub stop : (k : ℕ) → List ℕ → (at : ℕ) → ℕ
stop zero img at = at
stop (suc k) img at = stop k img (at + 3 + len_at img at)

-- the table that holds the places, and zeros after them
unfoldable pub table : List ℕ → Names
table places = record { at = places ++ replicate (512 - length places) 0; count = length places }

-- ---- keys

-- one step of a key: a number below 2^32 takes in another
unfoldable pub stirred : (h w : ℕ) → ℕ
stirred h w = (h * 2654435761 + w) % 4294967296

-- k words of eight bytes from a place on, each in two halves
unfoldable pub folded : (k : ℕ) → List ℕ → (at a b : ℕ) → ℕ
folded zero s at a b = a + 4294967296 * b
folded (suc k) s at a b =
    folded k s (min (at + 8) (length s)) (stirred a (le8 s at % 4294967296)) (stirred b (le8 s at / 4294967296))

-- The key of a name. The proofs use only that it is settled by the name's bytes.
unfoldable pub key_of : List ℕ → ℕ
key_of s = folded (length s / 8 + 1) s 0 0 0

unfoldable pub key_at : List ℕ → (at : ℕ) → ℕ
key_at img at = pick (eqb (get_or img at 0) 1) (key_of (load_at img at)) 0

unfoldable pub slot_of : (k : ℕ) → ℕ
slot_of k = stirred (stirred (k % 4294967296) (k / 4294967296)) 0 / 524288

-- the keys are those of the n names
pub record Keyed (img places keys : List ℕ) (n : ℕ) : Type 0 where
  pub few : n ≤ 512
  pub long : length places ≡ 512
  pub rows : length keys ≡ 512
  pub keyed : (i : ℕ) → i < n → get_or keys i 0 ≡ key_of (load_at img (get_or places i 0))

-- the slots of the n keys have a mark
pub record Marked (keys marks : List ℕ) (n : ℕ) : Type 0 where
  pub slots : length marks ≡ 8192
  pub marked : (i : ℕ) → i < n → get_or marks (slot_of (get_or keys i 0)) 0 ≡ 1

-- what one more NAME at a place, with the key k, adds to them: nothing else is keyed, and nothing else is marked
pub record Notes (at k : ℕ) (t : Names) (keys marks : List ℕ) (t' : Names) (keys' marks' : List ℕ) : Type 0 where
  pub place : t' ≡ noted_of t 1 at
  pub key : keys' ≡ pick (ltb t.count 512) (set keys t.count k) keys
  pub mark : marks' ≡ pick (ltb t.count 512) (set marks (slot_of k) 1) marks
