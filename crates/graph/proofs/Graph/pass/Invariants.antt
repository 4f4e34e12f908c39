use Rattle.graph.specs.Rows.{Passed}
use Rattle.graph.proofs.Graph.pass.Given as goal

abbrev pub invariant-loop-i : goal.invariant-loop-i
invariant-loop-i l = Passed l.k l.i l.initial.self.rows l.self.rows
