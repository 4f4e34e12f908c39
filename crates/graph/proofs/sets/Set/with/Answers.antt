use native.Mathlib.Omega.{arith}
use Rattle.graph.proofs.Holding.{power_low, power_high, with_in}
use Rattle.graph.proofs.sets.Set.with.Goals as goal

pub returns-then-j-lt64 : goal.returns-then-j-lt64
returns-then-j-lt64 c = with_in _ _ (omega (arith, c.if-j-lt64.true)) _ (power_low _ c.if-j-lt64.true)

pub returns-then-j-lt128 : goal.returns-then-j-lt128
returns-then-j-lt128 c = with_in _ _ c.if-j-lt128.true _ (power_high _ c.if-j-lt64.false c.if-j-lt128.true)
