use Rattle.graph.proofs.Rows.{no_calls}
use Rattle.graph.proofs.Graph.new.Goals as goal

pub returns : goal.returns
returns c = no_calls
