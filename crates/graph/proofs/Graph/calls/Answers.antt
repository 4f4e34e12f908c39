use borrow.Author.Rules.{rules}
use Rattle.graph.proofs.Rows.{calls_is}
use Rattle.graph.proofs.Graph.calls.Goals as goal

pub returns : goal.returns
returns c = calls_is _ (search rules) _ _ _ c.row.ensures _ c.contains.ensures
