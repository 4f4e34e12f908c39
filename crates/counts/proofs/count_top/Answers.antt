use native.Mathlib.Omega.{arith}
use Rattle.views.specs.Fields.{head, none_left}
use Rattle.counts.proofs.Turns.{capped_turn, capped_end}
use Rattle.counts.proofs.Walks.{top_turn, top_done}
use Rattle.counts.proofs.count_top.Goals as goal

pub loop-f-preserved : goal.loop-f-preserved
loop-f-preserved c =
    let s = c.in-Some.ensures.steps in
    (omega (arith, c.capped-n.ensures), capped_turn _ _ _ _ _ _ _ (c.loop-f.invariant.1) c.top.ensures c.capped-n.ensures (rw (head _ _ _ s, s.body, ← s.inside) (top_turn _ _ _ _ _ _ _)))

pub returns : goal.returns
returns c = capped_end _ _ _ (c.loop-f.invariant.0) (c.loop-f.invariant.1) (rw (none_left _ _ c.in-None.ensures.steps) (top_done _ _ _ _))
