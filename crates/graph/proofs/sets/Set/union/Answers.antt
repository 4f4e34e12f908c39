use Rattle.graph.proofs.Holding.{holds_union}
use Rattle.graph.proofs.sets.Set.union.Goals as goal

pub returns : goal.returns
returns c = holds_union _ _
