use borrow.Author.Tests.{lt-ltb, le-ltb, eq-eqb}
use Rattle.rules.specs.Errors.{error_field}
use Rattle.output.specs.Writers.{puts_none}
use Rattle.asserts.proofs.differ.Goals as goal
use Rattle.asserts.proofs.differ.Goals.{else-n-gt1-via-then-n-gt1+else-n-m, else-n-gt1-via-else-n-gt1}

pub returns-else-n-gt1 : goal.returns-else-n-gt1
returns-else-n-gt1 c =
    elim c.else-n-gt1.branch [
      | else-n-gt1-via-then-n-gt1+else-n-m v ↦ rw (lt-ltb _ _ v.if-n-gt1.true, eq-eqb _ _ v.if-n-m.false) (puts_none error_field _)
      | else-n-gt1-via-else-n-gt1 v ↦ rw (le-ltb _ _ v.if-n-gt1.false) (puts_none error_field _)
    ]
