use mathlib.Core.List.{map}
use Rattle.rules.specs.Checking.{quantum}
use Rattle.views.specs.View.{operand_in, row_in}
use Rattle.run.specs.Lines.{lanes_in, names, gate_runs}
use Rattle.run.proofs.Turns.{Turned}
use Rattle.run.proofs.Top.each_call.Given as goal

abbrev pub invariant-loop-j : goal.invariant-loop-j
invariant-loop-j l =
    Turned (λ j. gate_runs l.self.program l.self.depth l.g (lanes_in l.self.frame.regs.now (names l.self.frame) j (map quantum (row_in operand_in 15 l.k l.p 12)))) l.j-end l.j l.initial.w l.w
