-- A table that is all zeros: no name means anything.
use Rattle.std.specs.Prelude.{◌≡◌, List, Bool, ℕ, ◌+◌, ◌*◌, length, get_or, replicate, ltb, None}
use Rattle.std.proofs.Math.Path.{refl}
use Rattle.std.proofs.Math.Bool.{true, false}
use Rattle.std.proofs.Common.{arith}
use Rattle.std.proofs.Math.Decide.{dec_lt}
use Rattle.std.proofs.lemmas.List.{length-replicate, get_or-replicate}
use Rattle.std.proofs.Math.ListN.{get_or-eq_default}
use Rattle.rules.specs.Basics.{pick}
use Rattle.tables.specs.Tables.{gate_in, reg_in, param_in}

pick_same : {A : Type 0} (b : Bool) (x : A) → pick b x x ≡ x
pick_same true x = refl
pick_same false x = refl

abbrev pub zeros : ℕ → List ℕ
zeros n = replicate n 0

pub zeros_length : (n : ℕ) → length (zeros n) ≡ n
zeros_length n = length-replicate n 0

pub zeros_word : (n i : ℕ) → get_or (zeros n) i 0 ≡ 0
zeros_word n i = elim (dec_lt i n) [
  | yes h ↦ get_or-replicate n i 0 0 h
  | no h ↦ get_or-eq_default (zeros n) 0 (let e : length (zeros n) ≡ n = length-replicate n 0 in omega arith)
]

module _ (t : List ℕ) (zero_all : (i : ℕ) → get_or t i 0 ≡ 0) where
  pub zeros_reg : (x : ℕ) → reg_in t x ≡ None
  unfolding reg_in
  zeros_reg x = rw (zero_all (4 * x + 0)) (pick_same (ltb x 512) None)

  pub zeros_param : (x : ℕ) → param_in t x ≡ false
  unfolding param_in
  zeros_param x = rw (zero_all (4 * x + 3)) (pick_same (ltb x 512) false)

  pub zeros_gate : (x : ℕ) → gate_in t x ≡ None
  unfolding gate_in
  zeros_gate x = rw (zero_all (4 * x + 0)) (pick_same (ltb x 512) None)
