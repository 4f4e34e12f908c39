use Rattle.std.proofs.Common.{refl, lt-ltb, le-ltb}
use Rattle.image.specs.Table.{noted_of}
use Rattle.image.proofs.Met.note.Goals as goal

pub returns-then-n-lt512-clause-noted : goal.returns-then-n-lt512-clause-noted
unfolding noted_of
returns-then-n-lt512-clause-noted c =
    let t = lt-ltb _ _ c.if-n-lt512.true in
    record { place = rw t refl; key = rw t refl; mark = rw (t, ← c.slot.ensures.0) refl }

pub returns-else-n-lt512-clause-noted : goal.returns-else-n-lt512-clause-noted
unfolding noted_of
returns-else-n-lt512-clause-noted c =
    let t = le-ltb _ _ c.if-n-lt512.false in
    record { place = rw t refl; key = rw t refl; mark = rw t refl }
