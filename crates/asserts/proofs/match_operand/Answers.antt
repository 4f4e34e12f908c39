use mathlib.Core.Path.{sym, ◌∙◌}
use Rattle.rules.specs.Errors.{error_field}
use Rattle.output.specs.Writers.{puts_none}
use Rattle.asserts.proofs.Matching.{left_bad}
use Rattle.asserts.proofs.match_operand.Goals as goal

pub returns-in_default-clause-said : goal.returns-in_default-clause-said
returns-in_default-clause-said c = rw (left_bad _ (sym c.in_default.is ∙ c.size_of.ensures c.args.stmt)).1 (puts_none error_field _)
