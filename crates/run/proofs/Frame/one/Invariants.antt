use mathlib.Core.List.{[], ◌∷◌}
use Rattle.entries.specs.Kinds.{one_of}
use Rattle.run.specs.Lines.{lane_of}
use Rattle.run.proofs.Turns.{Turned}
use Rattle.run.proofs.Frame.one.Given as goal

abbrev pub invariant-loop-j : goal.invariant-loop-j
invariant-loop-j l = Turned (λ j. one_of l.kind (lane_of l.q.start l.q.size j) ∷ []) l.j-end l.j l.initial.w l.w
