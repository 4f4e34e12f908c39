use mathlib.Core.Path.{refl}
use Rattle.rules.specs.Errors.{error_field}
use Rattle.rules.specs.Checking.{match_errors}
use Rattle.output.specs.Writers.{owes_less, owes_none}
use Rattle.asserts.proofs.match_row.Goals as goal

pub loop-o-preserved : goal.loop-o-preserved
unfolding match_errors
loop-o-preserved c =
    owes_less error_field c.loop-o.invariant (rw (c.in-Some.ensures.steps, c.match_operand-m.ensures.now) refl) c.match_operand-m.ensures.said

pub returns : goal.returns
unfolding match_errors
returns c = owes_none error_field c.loop-o.invariant (rw c.in-None.ensures.steps.0 refl)
