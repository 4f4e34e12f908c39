use Rattle.views.proofs.Places.{operand_made, operand_whole}
use Rattle.views.proofs.operand.Goals as goal

pub returns-then-left-ge15 : goal.returns-then-left-ge15
returns-then-left-ge15 c = operand_whole _ _ _ _ _ _ c.get4.ensures c.get2.ensures c.is_one.ensures c.get8.ensures

pub returns : goal.returns
returns c =
    operand_made c.args.s.now c.args.at _ _ _ _ _ _ _ c.along.ensures c.along-2.ensures c.along-3.ensures c.four_at.ensures c.name.ensures c.is_one-2.ensures c.eight_at.ensures
