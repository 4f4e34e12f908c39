-- What stands in a text, a list of bytes: each by the place where it begins and the number of bytes that it has.
use Rattle.std.specs.Prelude.{ℕ, zero, suc, ◌+◌, ◌-◌, ◌*◌, List, [], ◌∷◌, get_or, ltb, leb, eqb}
use Rattle.std.specs.Prelude.{length}
use Rattle.std.specs.List.{before_first, after_first}
use Rattle.rules.specs.Basics.{pick, first_from}

-- the place of the next b among so many, and the place after them where there is none
abbrev pub place_of : List ℕ → (b : ℕ) → (many : ℕ) → ℕ → ℕ
place_of s b k i = first_from k i (λ j. eqb (get_or s j 0) b)

-- a number with one decimal digit more, 48 to 57; one of seven digits stays as it is
unfoldable pub push : ℕ → ℕ → ℕ
push n d = pick (ltb d 48) n (pick (ltb 57 d) n (pick (leb 1000000 n) n (n * 10 + (d - 48))))

-- the number n with the digits of so many bytes behind it
unfoldable pub number_in : List ℕ → (many : ℕ) → ℕ → (n : ℕ) → ℕ
number_in s zero i n = n
number_in s (suc k) i n = number_in s k (suc i) (push n (get_or s i 0))

-- a hex digit, 48 to 57 or 97 to 102
unfoldable pub nibble_of : ℕ → ℕ
nibble_of c = pick (ltb c 48) 0 (pick (leb c 57) (c - 48) (pick (ltb c 97) 0 (pick (leb c 102) (c - 87) 0)))

abbrev pub byte_of : ℕ → ℕ → ℕ
byte_of high low = nibble_of high * 16 + nibble_of low

-- the bytes of so many hex digits
unfoldable pub hex_in : (many : ℕ) → List ℕ → ℕ → List ℕ
hex_in zero s i = []
hex_in (suc zero) s i = []
hex_in (suc (suc k)) s i = byte_of (get_or s i 0) (get_or s (i + 1) 0) ∷ hex_in k s (i + 2)

-- the first so many lines, each without the byte 10 that ends it; where nothing stands there is no line
unfoldable pub lines_below : (many : ℕ) → List ℕ → List (List ℕ)
lines_below zero s = []
lines_below (suc k) [] = []
lines_below (suc k) (x ∷ s) = before_first (λ c. eqb c 10) (x ∷ s) ∷ lines_below k (after_first (λ c. eqb c 10) (x ∷ s))

abbrev pub lines_of : List ℕ → List (List ℕ)
lines_of s = lines_below (length s) s
