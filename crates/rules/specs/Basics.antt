-- What the other pages are written with: a choice by a test, and a search below a bound.
use Rattle.std.specs.Prelude.{ℕ, zero, suc, Bool, true, false, ltb}

abbrev pub pick {ℓ} : {A : Type ℓ} → Bool → A → A → A
pick true a b = a
pick false a b = b

-- the least of i, i + 1, .. (k of them) that passes the test, and i + k where none does
unfoldable pub first_from : ℕ → ℕ → (ℕ → Bool) → ℕ
first_from zero i p = i
first_from (suc k) i p = pick (p i) i (first_from k (suc i) p)

-- the least number below n that passes the test, and n where none does
unfoldable pub first : ℕ → (ℕ → Bool) → ℕ
first n p = first_from n 0 p

-- some number below n passes the test
unfoldable pub any : ℕ → (ℕ → Bool) → Bool
any n p = ltb (first n p) n
