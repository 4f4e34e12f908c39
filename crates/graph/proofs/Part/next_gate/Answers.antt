use mathlib.Core.Path.{◌∙◌, ap}
use borrow.Author.Rules.{rules}
use borrow.Author.Tests.{tests}
use Rattle.graph.specs.Rows.{below}
use Rattle.graph.proofs.Searches.{find_below}
use Rattle.graph.proofs.Ways.{next, next_same}
use Rattle.graph.proofs.Part.next_gate.Goals as goal

pub returns : goal.returns
returns c = λ h.
    find_below _ _ (next c.args.self.now.graph.now.rows c.args.away.now c.args.u c.args.k) _ _ c.find.ensures.ran (λ x q k. search (rules, tests)) (λ x q k. search (rules, tests))
    ∙ ap (below c.args.self.now.n) (next_same _ _ _ _ _ h)
