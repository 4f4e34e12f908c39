use Rattle.std.proofs.Common.{arith, ap, length}
use Rattle.std.proofs.lemmas.Fn.{says_at}
use Rattle.texts.proofs.Laws.{lines_bound, counted_yes, counted_no, counted_end}
use Rattle.texts.proofs.try_each.Goals as goal

pub overflow_add-t : goal.overflow_add-t
overflow_add-t g c =
    let left = ap length c.in-Some.ensures.steps in
    omega (arith, left, c.loop-line.invariant.counted.cases_all, lines_bound (length c.args.list.now) c.args.list.now)

pub loop-line-preserved-then-agrees : goal.loop-line-preserved-then-agrees
loop-line-preserved-then-agrees g c = record {
  counted = counted_yes _ _ _ _ _ _ _ c.loop-line.invariant.counted c.in-Some.ensures.steps (says_at g.F.Fn c.agrees.ensures c.if-agrees.true);
  below = omega arith;
}

pub loop-line-preserved : goal.loop-line-preserved
loop-line-preserved g c = record {
  counted = counted_no _ _ _ _ _ _ _ c.loop-line.invariant.counted c.in-Some.ensures.steps (says_at g.F.Fn c.agrees.ensures c.if-agrees.false);
  below = omega arith;
}

pub returns-clause-right : goal.returns-clause-right
returns-clause-right g c = (counted_end _ _ _ _ _ c.loop-line.invariant.counted c.in-None.ensures.steps.0).1
