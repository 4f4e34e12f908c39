use Rattle.checks.proofs.Passes.{all_said}
use Rattle.checks.proofs.tell_errors.Goals as goal

pub returns : goal.returns
returns c = all_said _ _ _ _ _ c.check_local-gates.ensures c.check_recursion.ensures.same c.check_recursion.ensures.says
