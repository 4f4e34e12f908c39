use Rattle.rules.specs.Reading.{call_field}
use Rattle.items.specs.Ends.{read_laws}
use Rattle.image.proofs.call_end.Goals as goal

pub returns-in_err-at : goal.returns-in_err-at
unfolding call_field
returns-in_err-at c = search (read_laws, c.in_err-at.was)

pub returns-in_err-at-2 : goal.returns-in_err-at-2
unfolding call_field
returns-in_err-at-2 c = search (read_laws, c.in_ok-at.was, c.in_err-at-2.was)

pub returns-in_err-at-3 : goal.returns-in_err-at-3
unfolding call_field
returns-in_err-at-3 c = search (read_laws, c.in_ok-at.was, c.in_ok-at-2.was, c.in_err-at-3.was)

pub returns : goal.returns
unfolding call_field
returns c = search (read_laws, c.in_ok-at.was, c.in_ok-at-2.was, c.in_ok-at-3.was)
