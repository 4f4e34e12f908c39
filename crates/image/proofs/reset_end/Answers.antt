use Rattle.rules.specs.Reading.{reset_field}
use Rattle.items.specs.Ends.{read_laws}
use Rattle.image.proofs.reset_end.Goals as goal

pub returns-in_err-at : goal.returns-in_err-at
unfolding reset_field
returns-in_err-at c = search (read_laws, c.in_err-at.was)

pub returns : goal.returns
unfolding reset_field
returns c = search (read_laws, c.in_ok-at.was)
