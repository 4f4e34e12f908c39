use Rattle.items.proofs.Laws.{fit_laws}
use Rattle.rules.specs.Items.{word8}
use Rattle.items.proofs.eight.Goals as goal

pub returns-in_err-next : goal.returns-in_err-next
unfolding word8
returns-in_err-next c = search (fit_laws, c.in_err-next.was)

pub returns : goal.returns
unfolding word8
returns c = search (fit_laws, c.in_ok-next.was)
