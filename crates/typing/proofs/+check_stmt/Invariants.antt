-- The measure is what is left of the image.
use Prim.Native.Nat.{◌-◌}
use lib.ListN.{length}
use Rattle.typing.proofs.+check_stmt.Given as goal

abbrev pub decreases-check_stmt : goal.decreases-check_stmt
decreases-check_stmt l = length l.img.now - l.at
