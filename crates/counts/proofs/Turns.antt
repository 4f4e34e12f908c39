-- What a turn over a row of operands gives, and a turn over a list of gates.
use mathlib.Core.Path.{◌≡◌, refl, sym}
use mathlib.Core.List.{List, [], ◌∷◌, map}
use mathlib.Core.Bool.{Bool, true, false}
use Prim.Native.Nat.{ℕ, ◌+◌, ◌<◌, ◌≤◌, min}
use native.Mathlib.Omega.{arith}
use native.Mathlib.Numerals.{add-one}
use borrow.Author.Tests.{eqb-true}
use lib.Dec.{eqb}
use lib.ListN.{length, get_or, set, drop, drop_of_length-le}
use lib.Seq.{drop-cons}
use Rattle.rules.specs.declared.Operand.{Operand}
use Rattle.rules.specs.Basics.{pick}
use Rattle.rules.specs.Checking.{quantum}
use Rattle.rules.specs.Run.{common}
use Rattle.theorems.specs.Count.{sum, at}
use Rattle.asserts.specs.Sizes.{asked}
use Rattle.counts.specs.Sums.{size_in, sizes_in, gate_sum, sum_fill}

-- a count that goes on
pub capped_turn : (n f c n' x y a : ℕ) → min 4097 (n + x) ≡ min 4097 a → c ≡ min 4097 f → n' ≡ min 4097 (n + c) → x ≡ f + y → min 4097 (n' + y) ≡ min 4097 a
capped_turn n f c n' x y a h ec en ex = omega arith

pub capped_end : (n x a : ℕ) → n ≤ 4097 → min 4097 (n + x) ≡ min 4097 a → x ≡ 0 → n ≡ min 4097 a
capped_end n x a l h e = omega arith

-- the sizes of operands, all quantum
abbrev pub widths : (regs : List ℕ) → List Operand → List ℕ
widths regs os = sizes_in regs (map quantum os)

pub common_over : (regs : List ℕ) (c : ℕ) → pick (eqb c 1) (common (widths regs [])) c ≡ c
unfolding common sizes_in
common_over regs c = go (eqb c 1) refl
  where
    go : (b : Bool) → eqb c 1 ≡ b → pick b 1 c ≡ c
    go true e = sym (eqb-true c 1 e)
    go false e = refl

pub sum_over : (regs : List ℕ) → sum (widths regs []) ≡ 0
unfolding sum sizes_in
sum_over regs = refl

module _ (regs : List ℕ) (o : Operand) (os : List Operand) where
  pub common_turn : (c : ℕ) → pick (eqb (pick (eqb c 1) (size_in regs (asked false o)) c) 1) (common (widths regs os)) (pick (eqb c 1) (size_in regs (asked false o)) c)
      ≡ pick (eqb c 1) (common (widths regs (o ∷ os))) c
  unfolding common sizes_in
  common_turn c = go (eqb c 1) refl
    where
      go : (b : Bool) → eqb c 1 ≡ b → pick (eqb (pick b (size_in regs (asked false o)) c) 1) (common (widths regs os)) (pick b (size_in regs (asked false o)) c)
          ≡ pick b (common (widths regs (o ∷ os))) c
      go true f = refl
      go false f = rw f refl

  pub sum_turn : sum (widths regs (o ∷ os)) ≡ size_in regs (asked false o) + sum (widths regs os)
  unfolding sum sizes_in
  sum_turn = refl

-- a count that goes on by a number that is no sum
pub plain_turn : (n c n' x y a : ℕ) → min 4097 (n + x) ≡ min 4097 a → n' ≡ min 4097 (n + c) → x ≡ c + y → min 4097 (n' + y) ≡ min 4097 a
plain_turn n c n' x y a h en ex = omega arith

-- ---- the gates of an order

module _ (img gates places order : List ℕ) (i : ℕ) (t all : List ℕ) (h : sum_fill img gates places (drop i order) t ≡ all) where
  pub fill_turn : i < length order → (g place n : ℕ) → g ≡ get_or order i 0 → place ≡ get_or places g 0 → n ≡ min 4097 (gate_sum img gates (at t) place) → (t' : List ℕ) → t' ≡ set t g n
      → sum_fill img gates places (drop (i + 1) order) t' ≡ all
  unfolding sum_fill
  fill_turn l g place n eg ep en t' e = rw (e, en, ep, eg, add-one i) (rw (drop-cons order i 0 l) at h)

  pub fill_over : length order ≤ i → t ≡ all
  unfolding sum_fill
  fill_over l = rw (drop_of_length-le order {i = i} l) at h
