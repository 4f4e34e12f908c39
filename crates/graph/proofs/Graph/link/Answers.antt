use borrow.Author.Rules.{rules}
use Rattle.graph.proofs.Rows.{link_in}
use Rattle.graph.proofs.Graph.link.Goals as goal

pub returns-then-u-lt128 : goal.returns-then-u-lt128
returns-then-u-lt128 c = link_in _ (search rules) _ _ c.if-u-lt128.true _ _ c.row.ensures c.with.ensures
