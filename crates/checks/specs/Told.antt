-- What a check of a whole image tells.
use Rattle.std.specs.Prelude.{◌≡◌, List, ℕ, length}
use Rattle.rules.specs.Syntax.{Program}
use Rattle.rules.specs.Grouping.{program, read}
use Rattle.rules.specs.Checking.{gates_of, local_errors}
use Rattle.rules.specs.Calls.{errors}
use Rattle.views.specs.View.{program_in}
use Rattle.output.specs.declared.Writer.{Writer}
use Rattle.output.specs.Writers.{Says}
use Rattle.collect.specs.declared.Gates.{Gates}
use Rattle.collect.specs.Collected.{Holds}

-- the errors up to recursion of the program that the bytes are taken for, and the tables of its gates
pub record Local (img : List ℕ) (w w' : Writer) (r : Gates) : Type 0 where
  pub said : Says w (local_errors (program_in img)) w'
  pub holds : Holds (gates_of (program_in img)) r.rows r.defs
  pub count : r.count ≡ length (gates_of (program_in img))
  pub spans : length r.defs ≡ 128

-- an image that is read: all its errors, and the tables of its gates
pub record All (img : List ℕ) (w w' : Writer) (r : Gates) : Type 0 where
  pub same : w'.out.ghost_name ≡ w.out.ghost_name
  pub said : (p : Program) → read img ≡ program p → Says w (errors p) w'
  pub holds : (p : Program) → read img ≡ program p → Holds (gates_of p) r.rows r.defs
  pub count : (p : Program) → read img ≡ program p → r.count ≡ length (gates_of p)
