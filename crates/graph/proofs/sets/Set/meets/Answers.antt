use borrow.Author.Rules.{rules}
use Rattle.graph.proofs.Holding.{meets_is}
use Rattle.graph.proofs.sets.Set.meets.Goals as goal

pub returns : goal.returns
returns c = meets_is _ _ (search rules)
