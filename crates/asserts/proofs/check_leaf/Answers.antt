use Rattle.rules.specs.Errors.{error_field}
use Rattle.output.specs.Writers.{puts_none}
use Rattle.asserts.proofs.Values.{leaf_var, leaf_other}
use Rattle.asserts.proofs.check_leaf.Goals as goal

pub returns-in-Var : goal.returns-in-Var
returns-in-Var c = rw (leaf_var _ _ _ _ _ _ c.in-Var.ensures c.from.ensures) c.check_var.ensures

pub returns-in_default : goal.returns-in_default
returns-in_default c = rw (leaf_other _ _ _ _ (rw c.node_at.ensures at c.in_default.not-Var)) (puts_none error_field _)
