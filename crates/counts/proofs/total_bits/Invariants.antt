use mathlib.Core.Path.{◌≡◌}
use mathlib.Core.Bool.{false}
use Prim.Native.Nat.{◌+◌, ◌≤◌, min}
use Rattle.rules.specs.Grouping.{decls}
use Rattle.rules.specs.Checking.{registers}
use Rattle.rules.specs.Run.{bits_of}
use Rattle.views.specs.View.{rest}
use Rattle.views.specs.Fields.{opened}
use Rattle.counts.proofs.total_bits.Given as goal

abbrev pub invariant-loop-f : goal.invariant-loop-f
invariant-loop-f l =
    (l.n ≤ 4097) × (min 4097 (l.n + bits_of l.classical (registers (opened l.f-iterator))) ≡ min 4097 (bits_of l.classical (registers (decls false false (rest l.img 0)))))
