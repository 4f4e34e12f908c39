-- the answer slice's length is a number of 64 bits
use borrow.Author.Rules.{rules}
use native.Mathlib.Omega.{arith}
use Rattle.pesukoymi.proofs.Laying.{called_long}
use Rattle.pesukoymi.proofs.pesukoymi_order.Goals as goal

pub returns-then-answer-ge24 : goal.returns-then-answer-ge24
returns-then-answer-ge24 c =
    called_long _ _ _ _ _ _ _ c.if-answer-ge24.true (omega arith) c.order.ensures c.on.ensures.held c.on.ensures.none c.put_answer.ensures _ (search rules)
