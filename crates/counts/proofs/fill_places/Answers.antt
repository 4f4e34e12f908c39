use mathlib.Core.Path.{◌∙◌}
use native.Mathlib.Omega.{arith}
use Rattle.views.specs.Fields.{none_left}
use Rattle.counts.proofs.Walks.{enters_gate, enters_none, entered_all, none_opened}
use Rattle.counts.proofs.fill_places.Goals as goal

pub loop-f-preserved-then-f-eq5 : goal.loop-f-preserved-then-f-eq5
loop-f-preserved-then-f-eq5 c =
    let s = c.in-Some.ensures.steps in
    (c.store.auto.t ∙ c.loop-f.invariant.0, omega (arith, s.next, s.within, c.loop-f.invariant.1), rw s.img (c.loop-f.invariant.2), rw c.store.ensures (enters_gate _ _ _ _ s _ _ (c.loop-f.invariant.3) (c.loop-f.invariant.2) c.if-not-f.true c.if-f-eq5.true))

pub loop-f-preserved : goal.loop-f-preserved
loop-f-preserved c =
    let s = c.in-Some.ensures.steps in
    (c.loop-f.invariant.0, omega (arith, s.next, s.within, c.loop-f.invariant.1), rw s.img (c.loop-f.invariant.2), enters_none _ _ _ _ s _ _ (c.loop-f.invariant.3) c.else-not-f.either)

pub returns : goal.returns
returns c = entered_all _ _ _ _ (rw (none_left _ _ c.in-None.ensures.steps) (none_opened _)) (c.loop-f.invariant.3)
