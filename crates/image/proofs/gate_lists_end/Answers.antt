use Rattle.rules.specs.Reading.{gate_lists}
use Rattle.items.specs.Ends.{read_laws}
use Rattle.image.proofs.gate_lists_end.Goals as goal

pub returns-in_err-params : goal.returns-in_err-params
unfolding gate_lists
returns-in_err-params c = search (read_laws, c.in_err-params.was)

pub returns-in_err-args : goal.returns-in_err-args
unfolding gate_lists
returns-in_err-args c = search (read_laws, c.in_ok-params.was, c.in_err-args.was)

pub returns-in_err-at : goal.returns-in_err-at
unfolding gate_lists
returns-in_err-at c = search (read_laws, c.in_ok-params.was, c.in_ok-args.was, c.in_err-at.was)

pub returns : goal.returns
unfolding gate_lists
returns c = search (read_laws, c.in_ok-params.was, c.in_ok-args.was, c.in_ok-at.was)
