use borrow.Author.Tests.{ne_eqb}
use Rattle.image.proofs.ifs_then.Goals as goal

pub returns-then-tag-eq22 : goal.returns-then-tag-eq22
returns-then-tag-eq22 c = rw c.if-tag-eq22.true

pub returns-else-tag-eq22 : goal.returns-else-tag-eq22
returns-else-tag-eq22 c = rw (ne_eqb _ _ c.if-tag-eq22.false)
