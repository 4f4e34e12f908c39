use mathlib.Core.Path.{◌≡◌}
use Prim.Native.Nat.{◌+◌, ◌≤◌, min}
use Rattle.theorems.specs.Count.{sum}
use Rattle.views.specs.View.{operand_in, row_in}
use Rattle.views.specs.Items.{operands_left}
use Rattle.counts.proofs.Turns.{widths}
use Rattle.counts.proofs.sum_row.Given as goal

abbrev pub invariant-loop-o : goal.invariant-loop-o
invariant-loop-o l =
    (l.n ≤ 4097) × (min 4097 (l.n + sum (widths l.regs (operands_left l.o-iterator))) ≡ min 4097 (sum (widths l.regs (row_in operand_in 15 l.k l.p l.from))))
