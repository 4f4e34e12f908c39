use Rattle.items.proofs.Laws.{fit_laws}
use Rattle.rules.specs.Items.{byte}
use Rattle.items.proofs.one.Goals as goal

pub returns-in_err-next : goal.returns-in_err-next
unfolding byte
returns-in_err-next c = search (fit_laws, c.in_err-next.was)

pub returns : goal.returns
unfolding byte
returns c = search (fit_laws, c.in_ok-next.was)
