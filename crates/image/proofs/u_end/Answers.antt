use Rattle.rules.specs.Reading.{u_field}
use Rattle.items.specs.Ends.{read_laws}
use Rattle.image.proofs.u_end.Goals as goal

pub returns-in_err-at : goal.returns-in_err-at
unfolding u_field
returns-in_err-at c = search (read_laws, c.in_err-at.was)

pub returns-in_err-at-2 : goal.returns-in_err-at-2
unfolding u_field
returns-in_err-at-2 c = search (read_laws, c.in_ok-at.was, c.in_err-at-2.was)

pub returns-in_err-at-3 : goal.returns-in_err-at-3
unfolding u_field
returns-in_err-at-3 c = search (read_laws, c.in_ok-at.was, c.in_ok-at-2.was, c.in_err-at-3.was)

pub returns-in_err-at-4 : goal.returns-in_err-at-4
unfolding u_field
returns-in_err-at-4 c = search (read_laws, c.in_ok-at.was, c.in_ok-at-2.was, c.in_ok-at-3.was, c.in_err-at-4.was)

pub returns : goal.returns
unfolding u_field
returns c = search (read_laws, c.in_ok-at.was, c.in_ok-at-2.was, c.in_ok-at-3.was, c.in_ok-at-4.was)
