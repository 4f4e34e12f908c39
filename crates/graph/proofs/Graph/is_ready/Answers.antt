use Rattle.graph.proofs.Placing.{ready_on, ready_off}
use Rattle.graph.proofs.Graph.is_ready.Goals as goal

pub returns-then-not-contains : goal.returns-then-not-contains
returns-then-not-contains c = ready_on _ _ _ _ c.contains.ensures c.if-not-contains.true _ c.row.ensures _ c.is_inside.ensures

pub returns-else-not-contains : goal.returns-else-not-contains
returns-else-not-contains c = ready_off _ _ _ _ c.contains.ensures c.if-not-contains.false
