-- The measure is what is left of the image.
use Prim.Native.Nat.{◌-◌}
use lib.ListN.{length}
use Rattle.run.proofs.Top.+stmt.Given as goal

abbrev pub decreases-stmt : goal.decreases-stmt
decreases-stmt l = length l.self.program.img.now - l.at
