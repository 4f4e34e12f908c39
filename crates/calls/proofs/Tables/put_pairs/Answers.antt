use Rattle.calls.proofs.Pairs.{pairs_more, pairs_end}
use Rattle.calls.proofs.Tables.put_pairs.Goals as goal

pub loop-h-preserved : goal.loop-h-preserved
loop-h-preserved c = pairs_more _ _ _ _ _ _ _ _ c.loop-h.invariant c.loop-h-test.true _ _ c.word.ensures c.span_of.ensures _ _ c.put4.ensures c.put4-in-loop-h.ensures

pub returns : goal.returns
returns c = pairs_end _ _ _ _ _ _ _ _ c.loop-h.invariant c.loop-h-test.false
