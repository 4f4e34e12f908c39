use mathlib.Core.Path.{sym, ◌∙◌}
use Rattle.rules.specs.Errors.{error_field}
use Rattle.rules.specs.Checking.{compare_errors}
use Rattle.output.specs.Writers.{puts_none}
use Rattle.asserts.proofs.Matching.{left_bad}
use Rattle.asserts.proofs.assert_scalar_size.Goals as goal

pub returns-in_default : goal.returns-in_default
unfolding compare_errors
returns-in_default c = rw (left_bad _ (sym c.in_default.is ∙ c.size_of.ensures c.args.stmt)).1 (puts_none error_field _)
