use Rattle.rules.specs.Errors.{error_field}
use Rattle.output.specs.Writers.{owes_less, owes_none}
use Rattle.asserts.proofs.Values.{exprs_none, exprs_more}
use Rattle.asserts.proofs.check_exprs.Goals as goal

pub loop-preserved : goal.loop-preserved
loop-preserved c = owes_less error_field c.loop.invariant (exprs_more _ _ _ _ _ _ c.loop-test.true _ c.check_expr-at.ensures.past) c.check_expr-at.ensures.said

pub returns : goal.returns
returns c = owes_none error_field c.loop.invariant (exprs_none _ _ _ _ _ _ c.loop-test.false)
