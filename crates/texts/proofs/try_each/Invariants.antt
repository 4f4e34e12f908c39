use Rattle.std.proofs.Common.{◌≤◌}
use Rattle.std.specs.Fn.{FnReturnsAt}
use Rattle.texts.specs.Text.{lines_of}
use Rattle.texts.proofs.Laws.{Counted}
use Rattle.texts.proofs.try_each.Given as goal

abbrev pub invariant-loop-line : goal.invariant-loop-line
invariant-loop-line g l = record {
  counted : Counted (FnReturnsAt g.F.Fn l.agrees) (lines_of l.list) (lines_of l.line-iterator.0.now) l.t.cases l.t.right;
  below : l.t.right ≤ l.t.cases;
}
