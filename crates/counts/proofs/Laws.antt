-- Sizes: where there is none, and in common.
use Rattle.std.specs.Prelude.{Option}
use Rattle.std.specs.Option.{unwrap_or}
use mathlib.Core.Path.{◌≡◌, refl, sym, ap}
use mathlib.Core.List.{List, [], ◌∷◌}
use mathlib.Core.Bool.{Bool, true, false}
use Prim.Native.Nat.{ℕ}
use borrow.Author.Tests.{eqb-true}
use lib.Dec.{eqb}
use Rattle.rules.specs.declared.Operand.{Operand}
use Rattle.rules.specs.Basics.{pick}
use Rattle.rules.specs.Checking.{Sized, size, bad, assert_reg}
use Rattle.rules.specs.Run.{size_only, common}
use Rattle.tables.specs.Tables.{reg_in}
use Rattle.asserts.specs.Sizes.{asked, size_left}
use Rattle.counts.specs.Sums.{or_one, size_in}

pub size_or_one : (regs : List ℕ) (c : Bool) (o : Operand) (z : Option ℕ) → ((stmt : ℕ) → z ≡ size_left (assert_reg (reg_in regs) stmt (asked c o)))
    → unwrap_or z 1 ≡ size_in regs (asked c o)
unfolding size_in
size_or_one regs c o z h = rw (h 0) (go (assert_reg (reg_in regs) 0 (asked c o)))
  where
    go : (s : Sized) → unwrap_or (size_left s) 1 ≡ or_one (size_only s)
    go (size m) = refl
    go (bad x) = refl

common_last : (n : ℕ) → pick (eqb n 1) 1 n ≡ n
common_last n = go (eqb n 1) refl
  where
    go : (b : Bool) → eqb n 1 ≡ b → pick b 1 n ≡ n
    go true e = sym (eqb-true n 1 e)
    go false e = refl

pub common_one : (n : ℕ) → common (n ∷ []) ≡ n
unfolding common
common_one n = common_last n

pub common_two : (m n : ℕ) → common (m ∷ n ∷ []) ≡ pick (eqb m 1) n m
unfolding common
common_two m n = ap (λ (k : ℕ). pick (eqb m 1) k m) (common_last n)
