use mathlib.Core.Path.{◌∙◌}
use Rattle.calls.proofs.Groups.{same_order}
use Rattle.calls.proofs.call_order.Goals as goal

pub returns : goal.returns
returns c = λ gs N small within. c.order.ensures small ∙ same_order _ _ _ _ small within (c.collect_calls-graph.ensures gs N)
