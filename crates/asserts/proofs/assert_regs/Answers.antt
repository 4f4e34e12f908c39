use mathlib.Core.Path.{refl}
use Rattle.rules.specs.Errors.{error_field}
use Rattle.rules.specs.Checking.{operand_errors}
use Rattle.output.specs.Writers.{owes_less, owes_none}
use Rattle.asserts.proofs.assert_regs.Goals as goal

pub loop-o-preserved : goal.loop-o-preserved
unfolding operand_errors
loop-o-preserved c = owes_less error_field c.loop-o.invariant (rw c.in-Some.ensures.steps refl) c.assert_reg.ensures

pub returns : goal.returns
unfolding operand_errors
returns c = owes_none error_field c.loop-o.invariant (rw c.in-None.ensures.steps.0 refl)
