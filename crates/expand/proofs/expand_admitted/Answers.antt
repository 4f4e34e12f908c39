use Prim.Native.Nat.{ℕ}
use lib.ListN.{length-replicate}
use Rattle.expand.proofs.Exits.{crowded, given}
use Rattle.expand.proofs.expand_admitted.Goals as goal

pub returns-then-n-gt128 : goal.returns-then-n-gt128
returns-then-n-gt128 c = crowded _ _ _ _ _ _ c.if-n-gt128.true

pub returns : goal.returns
returns c = given _ _ _ _ _ _ _ _ c.if-n-gt128.false (length-replicate {A = ℕ} 128 0) c.expand_counting.ensures
