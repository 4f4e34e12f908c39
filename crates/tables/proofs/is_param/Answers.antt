use borrow.Author.Tests.{le-ltb}
use Rattle.tables.proofs.Words.{find_laws, param_far}
use Rattle.tables.proofs.is_param.Goals as goal

pub returns-then-x-lt512 : goal.returns-then-x-lt512
returns-then-x-lt512 c = search find_laws

pub returns-else-x-lt512 : goal.returns-else-x-lt512
returns-else-x-lt512 c = rw (le-ltb _ _ c.if-x-lt512.false) (param_far _ _ c.if-x-lt512.false)
