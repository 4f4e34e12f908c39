-- `Ready`: what is read from here on, after the fields that are done, is the whole reading.
use Rattle.std.specs.Prelude.{◌≡◌, ◌-◌, length}
use Rattle.image.proofs.Loop.{Ready}
use Rattle.image.proofs.read_image.Given as goal

abbrev pub invariant-loop-at : goal.invariant-loop-at
invariant-loop-at l = Ready l.img l.c l.met.names l.at × (l.met.img.now ≡ l.img)

abbrev pub decreases-loop-at : goal.decreases-loop-at
decreases-loop-at l = length l.img - l.at
