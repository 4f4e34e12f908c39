use Rattle.items.specs.Ends.{read_laws}
use Rattle.rules.specs.Items.{name}
use Rattle.items.proofs.name_at.Goals as goal

pub returns-in_err-two : goal.returns-in_err-two
unfolding name
returns-in_err-two c = search (read_laws, c.in_err-two.was)

pub returns : goal.returns
unfolding name
returns c = search (read_laws, c.in_ok-two.was)
