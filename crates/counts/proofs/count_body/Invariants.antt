use mathlib.Core.Path.{◌≡◌}
use mathlib.Core.List.{[]}
use Prim.Native.Nat.{◌+◌, ◌≤◌, min}
use Rattle.theorems.specs.Count.{at}
use Rattle.views.specs.View.{next_in, rest}
use Rattle.views.specs.Fields.{left}
use Rattle.counts.proofs.Walks.{body_sum}
use Rattle.counts.proofs.count_body.Given as goal

abbrev pub invariant-loop-f : goal.invariant-loop-f
invariant-loop-f l =
    (l.n ≤ 4097)
    × (min 4097 (l.n + body_sum l.gates [] (at l.counts) (left l.f-iterator)) ≡ min 4097 (body_sum l.gates [] (at l.counts) (rest l.img (next_in l.img l.place))))
