use mathlib.Core.List.{map}
use lib.ListN.{get_or}
use Rattle.rules.specs.Checking.{quantum}
use Rattle.rules.specs.Run.{entry_field}
use Rattle.views.specs.View.{operand_in, row_in}
use Rattle.views.specs.Items.{operands_left}
use Rattle.output.specs.Writers.{Owes}
use Rattle.run.specs.Lines.{barrier_row, names}
use Rattle.run.proofs.Frame.barrier.Given as goal

abbrev pub invariant-loop-o : goal.invariant-loop-o
invariant-loop-o l =
    Owes entry_field l.initial.w (barrier_row l.self.regs.now (names l.self) (map quantum (row_in operand_in 15 (get_or l.p 4 0) l.p 5))) l.w (barrier_row l.self.regs.now (names l.self) (map quantum (operands_left l.o-iterator)))
