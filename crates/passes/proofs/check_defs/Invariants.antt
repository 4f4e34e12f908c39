use Rattle.passes.proofs.Turns.{DefsOwed}
use Rattle.passes.proofs.check_defs.Given as goal

abbrev pub invariant-loop-f : goal.invariant-loop-f
invariant-loop-f l = DefsOwed l.gates l.img l.initial.w l.f-iterator l.w
