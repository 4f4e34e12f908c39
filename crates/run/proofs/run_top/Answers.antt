use mathlib.Core.Logic.{inl, inr}
use Rattle.rules.specs.Run.{entry_field}
use Rattle.output.specs.Writers.{owes_less, owes_none, puts_none}
use Rattle.run.proofs.Tops.{none_seen, tops_end, top_stmt, top_other}
use Rattle.run.proofs.run_top.Goals as goal
use Rattle.run.proofs.run_top.Goals.{else-not-f-via-then-not-f+else-is_stmt, else-not-f-via-else-not-f}

pub loop-f-preserved-then-is_stmt : goal.loop-f-preserved-then-is_stmt
loop-f-preserved-then-is_stmt c =
    let s = c.in-Some.ensures.steps in
    (rw s.img c.loop-f.invariant.0, owes_less entry_field c.loop-f.invariant.1 (top_stmt _ _ _ _ _ _ _ _ s c.if-not-f.true (rw c.is_stmt.ensures at c.if-is_stmt.true) _ c.loop-f.invariant.0 _ c.stmt.ensures.left) c.stmt.ensures.put)

pub loop-f-preserved : goal.loop-f-preserved
loop-f-preserved c =
    let s = c.in-Some.ensures.steps in (
      rw s.img c.loop-f.invariant.0,
      owes_less entry_field c.loop-f.invariant.1 (top_other _ _ _ _ _ _ _ _ s (elim c.else-not-f.branch [
        | else-not-f-via-then-not-f+else-is_stmt w ↦ inl (w.if-not-f.true, rw w.is_stmt.ensures at w.if-is_stmt.false)
        | else-not-f-via-else-not-f w ↦ inr w.if-not-f.false
      ])) (puts_none entry_field _),
    )

pub returns : goal.returns
returns c = rw (← none_seen c.args.bits.now) (owes_none entry_field c.loop-f.invariant.1 (tops_end _ _ _ _ _ _ _ c.in_default.ensures.steps))
