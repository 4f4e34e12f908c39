use Rattle.rules.specs.Checking.{quantum}
use Rattle.asserts.specs.Sizes.{asked}
use Rattle.typing.proofs.Statements.{pair_said}
use Rattle.typing.proofs.check_pair.Goals as goal

pub returns : goal.returns
returns c =
    rw (← c.four_at-span.ensures.0, ← c.operand-a.ensures, ← c.operand-b.ensures)
    (pair_said _ _ (quantum c.operand-a.result) (asked c.args.classical c.operand-b.result) c.assert_reg.ensures c.assert_reg-2.ensures c.match_two.ensures)
