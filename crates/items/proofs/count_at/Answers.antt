use Rattle.std.proofs.Common.{◌∙◌}
use Rattle.items.specs.Ends.{bind_got, read_laws}
use Rattle.items.proofs.Laws.{at_most_32}
use Rattle.rules.specs.Items.{count}
use Rattle.items.proofs.count_at.Goals as goal

pub returns-in_err-one : goal.returns-in_err-one
unfolding count
returns-in_err-one c = search (read_laws, c.in_err-one.was)

pub returns : goal.returns
unfolding count
returns c = bind_got _ _ _ c.one.ensures _ _ c.in_ok-one.was (c.below.ensures ∙ at_most_32 _)
