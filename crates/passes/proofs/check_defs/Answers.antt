use Rattle.passes.proofs.Turns.{def_inside, def_body, def_other, defs_done}
use Rattle.passes.proofs.check_defs.Goals.{else-not-f-via-then-not-f+else-then_inside, else-not-f-via-else-not-f}
use Rattle.passes.proofs.check_defs.Goals as goal

pub loop-f-preserved-then-then_inside : goal.loop-f-preserved-then-then_inside
loop-f-preserved-then-then_inside c =
    def_body _ _ _ _ _ _ _ c.loop-f.invariant c.in-Some.ensures.steps c.if-not-f.true _ c.then_inside.ensures c.if-then_inside.true _ c.check_def.ensures

pub loop-f-preserved : goal.loop-f-preserved
loop-f-preserved c = elim c.else-not-f.branch [
  | else-not-f-via-then-not-f+else-then_inside w ↦ def_other _ _ _ _ _ _ _ c.loop-f.invariant c.in-Some.ensures.steps w.if-not-f.true _ w.then_inside.ensures w.if-then_inside.false
  | else-not-f-via-else-not-f w ↦ def_inside _ _ _ _ _ _ _ c.loop-f.invariant c.in-Some.ensures.steps w.if-not-f.false
]

pub returns : goal.returns
returns c = defs_done _ _ _ _ _ _ c.loop-f.invariant c.in-None.ensures.steps
