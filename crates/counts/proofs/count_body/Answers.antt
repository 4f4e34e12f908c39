use native.Mathlib.Omega.{arith}
use Rattle.views.specs.Fields.{head, none_left}
use Rattle.counts.proofs.Turns.{capped_turn, capped_end}
use Rattle.counts.proofs.Walks.{body_turn, body_over, body_done}
use Rattle.counts.proofs.count_body.Goals as goal

pub returns-then-f-eq6 : goal.returns-then-f-eq6
returns-then-f-eq6 c =
    capped_end _ _ _ (c.loop-f.invariant.0) (c.loop-f.invariant.1) (rw (head _ _ _ c.in-Some.ensures.steps) (body_over _ _ _ _ _ _ c.if-f-eq6.true))

pub loop-f-preserved : goal.loop-f-preserved
loop-f-preserved c =
    let s = c.in-Some.ensures.steps in
    (omega (arith, c.capped-n.ensures), capped_turn _ _ _ _ _ _ _ (c.loop-f.invariant.1) c.field.ensures c.capped-n.ensures (rw (head _ _ _ s) (body_turn _ _ _ _ _ _ c.if-f-eq6.false)))

pub returns : goal.returns
returns c = capped_end _ _ _ (c.loop-f.invariant.0) (c.loop-f.invariant.1) (rw (none_left _ _ c.in-None.ensures.steps) (body_done _ _ _))
