-- What a call at the boundary leaves.
use Rattle.std.specs.Prelude.{◌≡◌, List, ◌++◌, ℕ, ◌<◌, ◌≤◌, length, drop}
use Rattle.rules.specs.Answers.{Result, answer_bytes}

-- A slice of fewer than 24 bytes: the call changes nothing at all. Else the result's buffer and its answer's bytes; those past 24 stay.
pub record Called (x : Result) (out answer out' answer' : List ℕ) : Type 0 where
  pub short : length answer < 24 → (out' ≡ out) × (answer' ≡ answer)
  pub long : 24 ≤ length answer → (out' ≡ x.buffer) × (answer' ≡ answer_bytes x.answer ++ drop 24 answer)
