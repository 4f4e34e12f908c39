use borrow.Author.Rules.{rules}
use Rattle.graph.proofs.Holding.{inside_is}
use Rattle.graph.proofs.sets.Set.is_inside.Goals as goal

pub returns : goal.returns
returns c = inside_is _ _ (search rules)
