use mathlib.Core.Path.{sym, ◌∙◌}
use Rattle.passes.proofs.Turns.{top_inside, top_other, top_stmt, tops_done}
use Rattle.passes.proofs.check_gates.Goals.{else-not-f-via-then-not-f+else-is_stmt, else-not-f-via-else-not-f}
use Rattle.passes.proofs.check_gates.Goals as goal

pub loop-f-preserved-then-is_stmt : goal.loop-f-preserved-then-is_stmt
loop-f-preserved-then-is_stmt c =
    top_stmt _ _ _ _ _ _ _ _ c.in-Some.ensures.steps c.loop-f.invariant c.if-not-f.true (sym c.is_stmt.ensures ∙ c.if-is_stmt.true) _ _ c.check_stmt.ensures

pub loop-f-preserved : goal.loop-f-preserved
loop-f-preserved c = elim c.else-not-f.branch [
  | else-not-f-via-then-not-f+else-is_stmt w ↦ top_other _ _ _ _ _ _ _ _ c.in-Some.ensures.steps c.loop-f.invariant w.if-not-f.true (sym w.is_stmt.ensures ∙ w.if-is_stmt.false)
  | else-not-f-via-else-not-f w ↦ top_inside _ _ _ _ _ _ _ _ c.in-Some.ensures.steps c.loop-f.invariant w.if-not-f.false
]

pub returns : goal.returns
returns c = tops_done _ _ _ _ _ _ c.loop-f.invariant c.in_default.ensures.steps
