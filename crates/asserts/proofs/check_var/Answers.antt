use Rattle.rules.specs.Errors.{error_field}
use Rattle.output.specs.Writers.{puts_none}
use Rattle.asserts.proofs.check_var.Goals as goal

pub returns-else-not-is_param : goal.returns-else-not-is_param
returns-else-not-is_param c = rw (← c.is_param.ensures, c.if-not-is_param.false) (puts_none error_field _)
