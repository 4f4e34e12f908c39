-- The registers that fields declare, and where their bits begin.
use Rattle.std.specs.Prelude.{◌≡◌, Bool, true, false, List, [], ◌∷◌, ℕ, ◌+◌, min, eqb, set, Option, Some, None}
use Rattle.rules.specs.declared.Reg.{Reg}
use Rattle.rules.specs.Basics.{pick}
use Rattle.rules.specs.Checking.{register}
use Rattle.views.specs.View.{operand_in}
use Rattle.counts.specs.declared.Ends.{Ends}

-- the register that a field declares, where no body is open
unfoldable pub reg_here : (inside : Bool) → (tag : ℕ) → List ℕ → Option Reg
reg_here inside tag p =
    pick inside None
    (pick (eqb tag 3) (Some (register false (operand_in p 4))) (pick (eqb tag 4) (Some (register true (operand_in p 4))) None))

abbrev pub rows_of : Option Reg → List Reg
rows_of None = []
rows_of (Some r) = r ∷ []

-- the first bit of each register by its name, where q quantum and c classical bits are before; no further than to 4,097
unfoldable pub start_fill : (q c : ℕ) → List Reg → (t : List ℕ) → List ℕ
start_fill q c [] t = t
start_fill q c (r ∷ rs) t =
    pick r.classical (start_fill q (min 4097 (c + r.size)) rs (set t r.name c)) (start_fill (min 4097 (q + r.size)) c rs (set t r.name q))

-- a register that is entered leaves the others to enter
pub record Enters (t : List ℕ) (e : Ends) (r : Reg) (t' : List ℕ) (e' : Ends) : Type 0 where
  pub fill : (rs : List Reg) → start_fill e.quantum e.classical (r ∷ rs) t ≡ start_fill e'.quantum e'.classical rs t'
