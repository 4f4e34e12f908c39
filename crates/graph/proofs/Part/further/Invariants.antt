use Rattle.graph.specs.Rows.{Spread}
use Rattle.graph.proofs.Part.further.Given as goal

abbrev pub invariant-loop-u : goal.invariant-loop-u
invariant-loop-u l = Spread l.k l.self.graph.now.rows l.near l.u l.initial.away l.away l.r
