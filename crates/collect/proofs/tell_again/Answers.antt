use Rattle.rules.specs.Errors.{error_field}
use Rattle.output.specs.Writers.{puts_none}
use Rattle.collect.proofs.tell_again.Goals as goal

pub returns-in_default : goal.returns-in_default
returns-in_default c = rw c.in_default.is (puts_none error_field _)
