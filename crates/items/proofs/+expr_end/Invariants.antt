-- The measure is the depth left.
use Rattle.items.proofs.+expr_end.Given as goal

abbrev pub decreases-expr_end : goal.decreases-expr_end
decreases-expr_end l = l.depth
