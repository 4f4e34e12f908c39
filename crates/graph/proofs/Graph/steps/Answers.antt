use borrow.Author.Rules.{rules}
use Rattle.graph.proofs.Ways.{next_near, next_far, next_on, next_off}
use Rattle.graph.proofs.Graph.steps.Goals.{then-w-lt128, else-w-lt128}
use Rattle.graph.proofs.Graph.steps.Goals as goal

pub returns-then-away-w : goal.returns-then-away-w
returns-then-away-w c =
    next_on _ c.args.away.now _ c.args.k _ _ (elim c.if-w-lt128.branch [ then-w-lt128 w ↦ next_near _ _ _ _ _ _ w.value-is | else-w-lt128 w ↦ next_far _ _ _ _ _ _ w.if-w-lt128.false ])
    c.if-away-w.true (search rules) _ c.calls.ensures

pub returns-else-away-w : goal.returns-else-away-w
returns-else-away-w c =
    next_off c.args.self.now.rows c.args.away.now c.args.u c.args.k c.args.w _ (elim c.if-w-lt128.branch [ then-w-lt128 w ↦ next_near _ _ _ _ _ _ w.value-is | else-w-lt128 w ↦ next_far _ _ _ _ _ _ w.if-w-lt128.false ])
    c.if-away-w.false
