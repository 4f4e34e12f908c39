use mathlib.Core.Path.{sym, ◌∙◌}
use Rattle.passes.proofs.Turns.{body_over, body_other, body_stmt, body_done}
use Rattle.passes.proofs.check_body.Goals as goal

pub returns-then-f-eq6 : goal.returns-then-f-eq6
returns-then-f-eq6 c = body_over _ _ _ _ _ _ _ _ _ c.in-Some.ensures.steps c.loop-f.invariant c.if-f-eq6.true

pub loop-f-preserved-then-is_stmt : goal.loop-f-preserved-then-is_stmt
loop-f-preserved-then-is_stmt c =
    body_stmt _ _ _ _ _ _ _ _ _ c.in-Some.ensures.steps c.loop-f.invariant (sym c.is_stmt.ensures ∙ c.if-is_stmt.true) _ _ c.check_stmt.ensures

pub loop-f-preserved : goal.loop-f-preserved
loop-f-preserved c = body_other _ _ _ _ _ _ _ _ _ c.in-Some.ensures.steps c.loop-f.invariant c.if-f-eq6.false (sym c.is_stmt.ensures ∙ c.if-is_stmt.false)

pub returns : goal.returns
returns c = body_done _ _ _ _ _ _ _ c.loop-f.invariant c.in_default.ensures.steps
