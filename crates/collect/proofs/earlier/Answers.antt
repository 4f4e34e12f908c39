use mathlib.Core.Path.{refl, sym, ◌∙◌}
use native.Mathlib.Omega.{arith}
use Rattle.collect.proofs.Names.{back_hit, back_miss, back_none}
use Rattle.collect.proofs.earlier.Goals as goal

pub returns-then-name-x : goal.returns-then-name-x
returns-then-name-x c =
    back_hit _ _ _ _ c.loop-i-test.true _ refl _ (c.name.ensures.0) c.if-name-x.true _ (c.four_at.ensures.0) ∙ sym c.loop-i.invariant

pub loop-i-preserved : goal.loop-i-preserved
loop-i-preserved c = c.loop-i.invariant ∙ back_miss _ _ _ _ c.loop-i-test.true _ refl _ (c.name.ensures.0) c.if-name-x.false

pub returns : goal.returns
returns c = back_none _ _ c.loop-i.i _ (omega (arith, c.loop-i-test.false)) ∙ sym c.loop-i.invariant
