use mathlib.Core.Path.{◌≡◌}
use Rattle.collect.proofs.Names.{latest_of}
use Rattle.collect.proofs.earlier.Given as goal

abbrev pub invariant-loop-i : goal.invariant-loop-i
invariant-loop-i l = latest_of l.seen.bytes.now l.seen.at l.seen.left l.x ≡ latest_of l.seen.bytes.now l.seen.at l.i l.x
