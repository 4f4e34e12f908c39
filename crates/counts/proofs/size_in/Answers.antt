use mathlib.Core.Path.{◌∙◌}
use Rattle.counts.proofs.Laws.{size_or_one}
use Rattle.counts.proofs.size_in.Goals as goal

pub returns : goal.returns
returns c = c.unwrap_or.ensures ∙ size_or_one _ _ _ _ c.size_of.ensures
