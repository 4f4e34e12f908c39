use Rattle.tables.specs.Tables.{scope_in}
use Rattle.passes.proofs.Turns.{TopsOwed}
use Rattle.passes.proofs.check_gates.Given as goal

abbrev pub invariant-loop-f : goal.invariant-loop-f
invariant-loop-f l = TopsOwed (scope_in l.scope.gates.now l.scope.regs.now) l.img l.initial.w l.fields l.w
