use mathlib.Core.Path.{sym, ◌∙◌}
use native.Mathlib.Omega.{arith}
use Rattle.graph.proofs.Placing.{ordering_none, ordering_more, ordering_stop, ordering_all}
use Rattle.graph.proofs.Part.order.Goals as goal

pub loop-init : goal.loop-init
loop-init c = (c.new-list.ensures.0, ordering_none _ _ _ _ c.new-list.ensures.1 c.from_on-placed.ensures)

pub returns-in_default : goal.returns-in_default
returns-in_default c = ordering_stop _ _ c.args.self.now.few _ _ _ c.loop-test.true c.loop.invariant.1 (sym c.lowest.ensures ∙ c.in_default.is)

pub loop-preserved : goal.loop-preserved
loop-preserved c = (
  omega arith,
  ordering_more _ _ c.args.self.now.few _ _ _ c.loop-test.true c.loop.invariant.1 _ (sym c.lowest.ensures ∙ c.in-Some.is) _ c.push.ensures.1 _ c.with-placed.ensures,
)

pub returns : goal.returns
returns c = ordering_all _ _ _ _ _ c.loop-test.false c.loop.invariant.1
