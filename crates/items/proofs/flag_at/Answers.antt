use Rattle.items.specs.Ends.{read_laws}
use Rattle.rules.specs.Items.{flag}
use Rattle.items.proofs.flag_at.Goals as goal

pub returns-in_err-one : goal.returns-in_err-one
unfolding flag
returns-in_err-one c = search (read_laws, c.in_err-one.was)

pub returns : goal.returns
unfolding flag
returns c = search (read_laws, c.in_ok-one.was)
