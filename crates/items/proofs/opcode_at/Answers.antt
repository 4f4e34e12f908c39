use Rattle.items.specs.Ends.{read_laws}
use Rattle.rules.specs.Items.{opcode}
use Rattle.items.proofs.opcode_at.Goals as goal

pub returns-in_err-one : goal.returns-in_err-one
unfolding opcode
returns-in_err-one c = search (read_laws, c.in_err-one.was)

pub returns : goal.returns
unfolding opcode
returns c = search (read_laws, c.in_ok-one.was)
