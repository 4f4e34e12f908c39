use Rattle.graph.proofs.Holding.{contains_low, contains_high, contains_out}
use Rattle.graph.proofs.sets.Set.contains.Goals as goal

pub returns-then-j-lt64 : goal.returns-then-j-lt64
returns-then-j-lt64 c = contains_low _ _ c.if-j-lt64.true

pub returns-then-j-lt128 : goal.returns-then-j-lt128
returns-then-j-lt128 c = contains_high _ _ c.if-j-lt64.false c.if-j-lt128.true

pub returns-else-j-lt128 : goal.returns-else-j-lt128
returns-else-j-lt128 c = contains_out _ _ c.if-j-lt128.false
