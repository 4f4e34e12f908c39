use Rattle.graph.proofs.Placing.{Beyond}
use Rattle.graph.proofs.from_on.Given as goal

abbrev pub invariant-loop-u : goal.invariant-loop-u
invariant-loop-u l = Beyond l.n l.u l.r
