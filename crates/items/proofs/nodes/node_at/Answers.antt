use Rattle.items.proofs.NodeLaws.{node_cut}
use Rattle.items.proofs.nodes.node_at.Goals as goal

pub returns : goal.returns
returns c = search node_cut
