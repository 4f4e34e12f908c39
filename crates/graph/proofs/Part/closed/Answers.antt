use borrow.Author.Rules.{rules}
use Rattle.graph.proofs.Groups.{linked_within, closing_none, closing_more, closing_all}
use Rattle.graph.proofs.Part.closed.Goals as goal

pub loop-k-init : goal.loop-k-init
loop-k-init c = closing_none _ _ (search rules)

pub loop-k-preserved : goal.loop-k-preserved
loop-k-preserved c = closing_more _ _ (linked_within _ _) _ _ _ c.loop-k-test.true c.loop-k.invariant c.pass.ensures

pub returns : goal.returns
returns c = closing_all _ _ (linked_within _ _) _ _ c.loop-k-test.false c.loop-k.invariant
