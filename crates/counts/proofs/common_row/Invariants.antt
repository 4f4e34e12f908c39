use mathlib.Core.Path.{◌≡◌}
use lib.Dec.{eqb}
use Rattle.rules.specs.Basics.{pick}
use Rattle.rules.specs.Run.{common}
use Rattle.views.specs.View.{operand_in, row_in}
use Rattle.views.specs.Items.{operands_left}
use Rattle.counts.proofs.Turns.{widths}
use Rattle.counts.proofs.common_row.Given as goal

abbrev pub invariant-loop-o : goal.invariant-loop-o
invariant-loop-o l =
    pick (eqb l.c 1) (common (widths l.regs (operands_left l.o-iterator))) l.c ≡ common (widths l.regs (row_in operand_in 15 l.k l.p l.from))
