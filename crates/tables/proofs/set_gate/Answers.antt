use Rattle.tables.proofs.Words.{row_far, row_four}
use mathlib.Core.Path.{refl}
use Rattle.tables.proofs.set_gate.Goals as goal

pub returns-then-x-ge512 : goal.returns-then-x-ge512
returns-then-x-ge512 c = row_far _ _ c.if-x-ge512.true _

pub returns : goal.returns
returns c =
    row_four _ _ c.if-x-ge512.false _ refl _ _ _ _ _ _ c.store.ensures c.store-2.ensures c.store-3.ensures _ _ c.store-4.ensures
