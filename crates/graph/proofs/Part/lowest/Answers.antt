use borrow.Author.Rules.{rules}
use borrow.Author.Tests.{tests}
use Rattle.graph.specs.Rows.{ready_by}
use Rattle.graph.proofs.Searches.{find_below}
use Rattle.graph.proofs.Part.lowest.Goals as goal

pub returns : goal.returns
returns c = find_below _ _ (ready_by c.args.self.now.graph.now.rows c.args.placed) _ _ c.find.ensures.ran (λ x q k. search (rules, tests)) (λ x q k. search (rules, tests))
