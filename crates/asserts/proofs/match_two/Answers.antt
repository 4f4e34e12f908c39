use Rattle.asserts.proofs.Matching.{match_pair}
use Rattle.asserts.proofs.match_two.Goals as goal

pub returns : goal.returns
returns c = match_pair _ _ _ _ c.match_operand-m.ensures.now c.match_operand-m.ensures.said c.match_operand.ensures.now c.match_operand.ensures.said
