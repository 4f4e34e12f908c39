use Rattle.std.proofs.Common.{rules}
use Rattle.std.proofs.Math.Nat.{sub-zero}
use Rattle.image.proofs.Keys.{folded_start, folded_turn, folded_end}
use Rattle.image.proofs.key.Goals as goal

pub loop-init : goal.loop-init
loop-init c = (search rules, search rules, rw sub-zero (folded_start _))

pub loop-preserved : goal.loop-preserved
loop-preserved c = (
  search rules,
  search rules,
  folded_turn _ _ _ _ _ _ _ _ _ _ _ c.loop-test.true c.eight_at-w.ensures c.stir-a.ensures.0 c.stir-b.ensures.0 c.along-at.ensures c.loop.invariant.2,
)

pub returns : goal.returns
returns c = folded_end _ _ _ _ _ _ _ c.loop-test.false c.loop.invariant.2
