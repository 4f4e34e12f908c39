use mathlib.Core.Path.{◌≡◌}
use Prim.Native.Nat.{◌+◌}
use mathlib.Core.List.{◌++◌, map}
use lib.ListN.{length, take}
use Rattle.rules.specs.Checking.{quantum}
use Rattle.views.specs.View.{operand_in, row_in}
use Rattle.views.specs.Items.{operands_left}
use Rattle.run.specs.Lines.{lanes_in, names}
use Rattle.run.proofs.Frame.lanes.Given as goal

abbrev pub invariant-loop-i : goal.invariant-loop-i
invariant-loop-i l =
    (length l.row ≡ 256)
    × (l.i-iterator.count + l.i-iterator.iter.left ≡ l.k)
    × (take l.i-iterator.count l.row ++ lanes_in l.self.regs.now (names l.self) l.j (map quantum (operands_left l.i-iterator.iter)) ≡ lanes_in l.self.regs.now (names l.self) l.j (map quantum (row_in operand_in 15 l.k l.p 12)))
