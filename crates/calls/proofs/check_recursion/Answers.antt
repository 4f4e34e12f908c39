use mathlib.Core.Path.{◌∙◌}
use Rattle.calls.proofs.Groups.{same_leaders, none_told}
use Rattle.calls.proofs.check_recursion.Goals as goal

pub returns-then-lowest-ne0-clause-says : goal.returns-then-lowest-ne0-clause-says
returns-then-lowest-ne0-clause-says c =
    λ gs N D within. c.tell_recursion.ensures.says gs N D within (c.as_slice.ensures ∙ c.leaders-lowest.ensures D.few ∙ same_leaders _ _ _ _ D.few within (c.collect_calls-graph.ensures gs N))

pub returns-else-lowest-ne0-clause-says : goal.returns-else-lowest-ne0-clause-says
returns-else-lowest-ne0-clause-says c =
    λ gs N D within. none_told gs _ _ _ _ _ N D within (c.collect_calls-graph.ensures gs N) c.leaders-lowest.result c.if-lowest-ne0.false (c.leaders-lowest.ensures D.few) _
