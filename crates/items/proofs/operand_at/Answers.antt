use Rattle.items.specs.Ends.{read_laws}
use Rattle.rules.specs.Items.{operand}
use Rattle.items.proofs.operand_at.Goals as goal

pub returns-in_err-span : goal.returns-in_err-span
unfolding operand
returns-in_err-span c = search (read_laws, c.in_err-span.was)

pub returns-in_err-name : goal.returns-in_err-name
unfolding operand
returns-in_err-name c = search (read_laws, c.in_ok-span.was, c.in_err-name.was)

pub returns-in_err-flag : goal.returns-in_err-flag
unfolding operand
returns-in_err-flag c = search (read_laws, c.in_ok-span.was, c.in_ok-name.was, c.in_err-flag.was)

pub returns-in_err-index : goal.returns-in_err-index
unfolding operand
returns-in_err-index c = search (read_laws, c.in_ok-span.was, c.in_ok-name.was, c.in_ok-flag.was, c.in_err-index.was)

pub returns-then-not-allows : goal.returns-then-not-allows
unfolding operand
returns-then-not-allows c = search (read_laws, c.in_ok-span.was, c.in_ok-name.was, c.in_ok-flag.was, c.in_ok-index.was)

pub returns : goal.returns
unfolding operand
returns c = search (read_laws, c.in_ok-span.was, c.in_ok-name.was, c.in_ok-flag.was, c.in_ok-index.was)
