use Rattle.rules.specs.Items.{span}
use Rattle.items.proofs.span_at.Goals as goal

pub returns : goal.returns
unfolding span
returns c = c.four.ensures
