use mathlib.Core.Path.{refl}
use Rattle.rules.specs.Run.{entry_field}
use Rattle.output.specs.Writers.{owes_less, owes_none, puts_then}
use Rattle.run.specs.Lines.{barrier_row}
use Rattle.run.proofs.Frame.barrier.Goals as goal

pub loop-o-preserved : goal.loop-o-preserved
unfolding barrier_row
loop-o-preserved c = owes_less entry_field c.loop-o.invariant (rw c.in-Some.ensures.steps refl) c.one.ensures

pub returns : goal.returns
unfolding barrier_row
returns c = puts_then entry_field (owes_none entry_field c.loop-o.invariant (rw c.in-None.ensures.steps.0 refl)) c.barrier_end.ensures
