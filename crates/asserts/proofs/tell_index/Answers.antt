use borrow.Author.Tests.{lt-ltb}
use Rattle.rules.specs.Errors.{error_field}
use Rattle.output.specs.Writers.{puts_none}
use Rattle.asserts.proofs.tell_index.Goals as goal
use Rattle.asserts.proofs.tell_index.Goals.{else-o-via-then-o+else-r-o, else-o-via-else-o}

pub returns-else-o : goal.returns-else-o
returns-else-o c =
    elim c.else-o.branch [
      | else-o-via-then-o+else-r-o v ↦ rw (v.if-o.true, lt-ltb _ _ v.if-r-o.false) (puts_none error_field _)
      | else-o-via-else-o v ↦ rw v.if-o.false (puts_none error_field _)
    ]
