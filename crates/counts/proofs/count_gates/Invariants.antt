use mathlib.Core.Path.{◌≡◌}
use lib.ListN.{length, drop}
use Rattle.counts.specs.Sums.{sum_fill}
use Rattle.counts.proofs.count_gates.Given as goal

abbrev pub invariant-loop-g : goal.invariant-loop-g
invariant-loop-g l =
    (length l.counts ≡ length l.initial.counts) × (sum_fill l.img l.gates l.places (drop l.g-index l.order) l.counts ≡ sum_fill l.img l.gates l.places l.order l.initial.counts)
