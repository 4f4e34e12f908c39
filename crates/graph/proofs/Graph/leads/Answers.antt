use borrow.Author.Rules.{rules}
use borrow.Author.Tests.{tests}
use Rattle.graph.proofs.Searches.{any_below}
use Rattle.graph.proofs.Groups.{joins, leads_off, leads_on}
use Rattle.graph.proofs.Graph.leads.Goals as goal

pub returns-then-calls : goal.returns-then-calls
returns-then-calls c =
    leads_on _ _ (search rules) _ c.calls.ensures c.if-calls.true _
    (any_below _ _ (joins c.args.self.now.rows c.args.g) _ _ c.any.ensures.ran (λ x q k. search (rules, tests)) (λ x q k. search (rules, tests)))

pub returns-else-calls : goal.returns-else-calls
returns-else-calls c = leads_off _ _ (search rules) _ c.calls.ensures c.if-calls.false
