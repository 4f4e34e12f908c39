use Rattle.collect.proofs.Headers.{DeclsOwed}
use Rattle.collect.proofs.collect_decls.Given as goal

abbrev pub invariant-loop-f : goal.invariant-loop-f
invariant-loop-f l = DeclsOwed l.img l.initial.w l.f-iterator l.w l.gates
