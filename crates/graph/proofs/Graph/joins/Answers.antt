use borrow.Author.Rules.{rules}
use Rattle.graph.proofs.Groups.{joins_on, joins_off}
use Rattle.graph.proofs.Graph.joins.Goals as goal

pub returns-then-calls : goal.returns-then-calls
returns-then-calls c = joins_on _ (search rules) _ _ _ c.calls.ensures c.if-calls.true _ c.calls-then-calls.ensures

pub returns-else-calls : goal.returns-else-calls
returns-else-calls c = joins_off _ (search rules) _ _ _ c.calls.ensures c.if-calls.false
