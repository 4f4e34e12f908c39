use Rattle.collect.proofs.Registers.{RegsOwed}
use Rattle.collect.proofs.collect_regs.Given as goal

abbrev pub invariant-loop-f : goal.invariant-loop-f
invariant-loop-f l = RegsOwed l.img l.initial.w l.f-iterator l.w l.regs
