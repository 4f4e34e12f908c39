use borrow.Author.Tests.{le-leb}
use native.Mathlib.Omega.{arith}
use Rattle.rules.specs.Checking.{compare_errors}
use Rattle.asserts.proofs.Values.{shifted, value_low, value_wide}
use Rattle.asserts.proofs.assert_value.Goals as goal
use Rattle.asserts.proofs.assert_value.Goals.{else-n-lt64-via-then-n-lt64+else-n-value, else-n-lt64-via-else-n-lt64}

pub returns-then-n-value : goal.returns-then-n-value
unfolding compare_errors
returns-then-n-value c =
    rw (le-leb _ _ (rw (shifted c.args.n (omega arith)) at c.if-n-value.true), ← c.value_size.ensures) c.invalid_comparison_size.ensures

pub returns-else-n-lt64 : goal.returns-else-n-lt64
returns-else-n-lt64 c =
    elim c.else-n-lt64.branch [
      | else-n-lt64-via-then-n-lt64+else-n-value v ↦ value_low _ _ _ _ _ _ (rw (shifted c.args.n (omega arith)) at v.if-n-value.false)
      | else-n-lt64-via-else-n-lt64 v ↦ value_wide _ _ _ _ _ _ (omega arith) (omega arith)
    ]
