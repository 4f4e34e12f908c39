use Rattle.std.proofs.Common.{refl, lt-ltb, le-ltb}
use Rattle.image.specs.Whole.{closed_of, refusal}
use Rattle.image.proofs.closed.Goals.{then-c-via-then-c, then-c-via-else-c+then-c-gt0}
use Rattle.image.proofs.closed.Goals as goal

pub returns-then-c : goal.returns-then-c
unfolding closed_of refusal
returns-then-c c = elim c.then-c.branch [ then-c-via-then-c w ↦ rw w.if-c.true refl | then-c-via-else-c+then-c-gt0 w ↦ rw (w.if-c.false, lt-ltb _ _ w.if-c-gt0.true) refl ]

pub returns : goal.returns
unfolding closed_of
returns c = rw (c.if-c.false, le-ltb _ _ c.if-c-gt0.false) refl
