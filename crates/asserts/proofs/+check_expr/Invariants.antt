-- The measure is the depth left.
use Rattle.asserts.proofs.+check_expr.Given as goal

abbrev pub decreases-check_expr : goal.decreases-check_expr
decreases-check_expr l = l.depth
