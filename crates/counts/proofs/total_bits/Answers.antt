use mathlib.Core.Path.{refl}
use native.Mathlib.Omega.{arith}
use Rattle.rules.specs.Checking.{registers}
use Rattle.rules.specs.Run.{bits_of}
use Rattle.views.specs.Fields.{head_opened, none_left}
use Rattle.counts.proofs.Turns.{plain_turn, capped_end}
use Rattle.counts.proofs.Walks.{bits_turn, none_opened}
use Rattle.counts.proofs.total_bits.Goals as goal

pub loop-f-preserved : goal.loop-f-preserved
loop-f-preserved c =
    let s = c.in-Some.ensures.steps in
    (omega (arith, c.capped-n.ensures), plain_turn _ _ _ _ _ _ (c.loop-f.invariant.1) c.capped-n.ensures (rw (head_opened _ _ _ s, s.body, c.bits_here.ensures, c.reg_here.ensures) (bits_turn _ _ _ _ _)))

pub returns : goal.returns
unfolding registers bits_of
returns c =
    capped_end _ _ _ (c.loop-f.invariant.0) (c.loop-f.invariant.1) (rw (none_left _ _ c.in-None.ensures.steps, none_opened c.loop-f.f-iterator.inside) refl)
