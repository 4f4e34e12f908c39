-- What a check of a statement at a place leaves.
use Rattle.std.specs.Prelude.{◌≡◌, List, ℕ, ◌<◌, ◌≤◌, true, length, get_or}
use Rattle.rules.specs.Reading.{is_stmt}
use Rattle.rules.specs.Checking.{stmt_errors}
use Rattle.rules.specs.Grouping.{stmt}
use Rattle.views.specs.View.{rest}
use Rattle.views.specs.Steps.{after}
use Rattle.output.specs.declared.Writer.{Writer}
use Rattle.output.specs.Writers.{Says}
use Rattle.tables.specs.Tables.{scope_in}

-- the errors of the statement that the fields at the place begin with, and the place after it
pub record Done (gates regs img : List ℕ) (at : ℕ) (w w' : Writer) (next : ℕ) : Type 0 where
  pub said : Says w (stmt_errors (scope_in gates regs) (stmt (rest img at))) w'
  pub left : rest img next ≡ after (rest img at)
  pub inside : next ≤ length img
  pub on : at ≤ length img → at ≤ next
  pub past : at < length img → is_stmt (get_or img at 0) ≡ true → at < next
