use Rattle.tables.proofs.Words.{store_out}
use Rattle.tables.proofs.store.Goals as goal

pub returns-else-i-t : goal.returns-else-i-t
returns-else-i-t c = store_out _ _ _ c.if-i-t.false
