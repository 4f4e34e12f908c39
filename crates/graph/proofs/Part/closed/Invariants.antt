use Rattle.graph.specs.Rows.{linked}
use Rattle.graph.proofs.Groups.{Closing}
use Rattle.graph.proofs.Part.closed.Given as goal

abbrev pub invariant-loop-k : goal.invariant-loop-k
invariant-loop-k l = Closing l.self.n (linked l.self.n l.fn.self.graph.now.rows) l.k l.reach.rows
