use mathlib.Core.Path.{◌≡◌}
use mathlib.Core.Bool.{false}
use Prim.Native.Nat.{◌+◌, ◌≤◌, min}
use Rattle.theorems.specs.Count.{at}
use Rattle.views.specs.View.{rest}
use Rattle.views.specs.Fields.{left}
use Rattle.counts.proofs.Walks.{top_sum}
use Rattle.counts.proofs.count_top.Given as goal

abbrev pub invariant-loop-f : goal.invariant-loop-f
invariant-loop-f l =
    (l.n ≤ 4097)
    × (min 4097 (l.n + top_sum l.gates l.regs (at l.counts) l.f-iterator.inside (left l.f-iterator)) ≡ min 4097 (top_sum l.gates l.regs (at l.counts) false (rest l.img 0)))
