use Rattle.entries.proofs.Laws.{row_none, row_more}
use Rattle.entries.proofs.put_row.Goals as goal

pub loop-bit-init : goal.loop-bit-init
loop-bit-init c = row_none _

pub loop-bit-preserved : goal.loop-bit-preserved
loop-bit-preserved c = row_more _ _ c.loop-bit-test.true c.loop-bit.invariant c.put4.ensures
