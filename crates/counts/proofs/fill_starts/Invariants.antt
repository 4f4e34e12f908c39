use mathlib.Core.Path.{◌≡◌}
use mathlib.Core.Bool.{false}
use lib.ListN.{length}
use Rattle.rules.specs.Grouping.{decls}
use Rattle.rules.specs.Checking.{registers}
use Rattle.views.specs.View.{rest}
use Rattle.views.specs.Fields.{opened}
use Rattle.counts.specs.Starts.{start_fill}
use Rattle.counts.proofs.fill_starts.Given as goal

abbrev pub invariant-loop-f : goal.invariant-loop-f
invariant-loop-f l =
    (length l.starts ≡ length l.initial.starts)
    × (start_fill l.ends.quantum l.ends.classical (registers (opened l.f-iterator)) l.starts ≡ start_fill 0 0 (registers (decls false false (rest l.img 0))) l.initial.starts)
