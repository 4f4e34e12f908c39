use Rattle.tables.specs.Tables.{scope_in}
use Rattle.passes.proofs.Turns.{BodyOwed}
use Rattle.passes.proofs.check_body.Given as goal

abbrev pub invariant-loop-f : goal.invariant-loop-f
invariant-loop-f l = BodyOwed (scope_in l.scope.gates.now l.scope.regs.now) l.img l.place l.initial.w l.body l.w
