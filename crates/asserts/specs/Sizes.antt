-- What the operand rule leaves: a size, or none after an error.
use Rattle.std.specs.Prelude.{Bool, List, [], ◌∷◌, ℕ, ◌+◌, get_or, eqb, Option, Some, None}
use Rattle.rules.specs.declared.Operand.{Operand}
use Rattle.rules.specs.Basics.{pick}
use Rattle.rules.specs.Errors.{Error, undefined_parameter}
use Rattle.rules.specs.Items.{le4}
use Rattle.views.specs.View.{name_in}
use Rattle.rules.specs.Checking.{Asked, Sized, size, bad}

abbrev pub asked : Bool → Operand → Asked
asked c o = record { classical = c; operand = o }

abbrev pub size_left : Sized → Option ℕ
size_left (size n) = Some n
size_left (bad e) = None

-- the errors of a node without operands
unfoldable pub leaf_errors : (ℕ → Bool) → (stmt : ℕ) → List ℕ → ℕ → List Error
leaf_errors param stmt s at = pick (eqb (get_or s at 0) 3) (pick (param (name_in s (at + 5))) [] (undefined_parameter (name_in s (at + 5)) stmt (le4 s (at + 1)) ∷ [])) []
