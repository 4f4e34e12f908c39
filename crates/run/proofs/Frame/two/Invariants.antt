use mathlib.Core.List.{[], ◌∷◌}
use Rattle.run.specs.Lines.{two_of, lane_of}
use Rattle.run.proofs.Turns.{Turned}
use Rattle.run.proofs.Frame.two.Given as goal

abbrev pub invariant-loop-j : goal.invariant-loop-j
invariant-loop-j l = Turned (λ j. two_of l.measures (lane_of l.x.start l.x.size j) (lane_of l.y.start l.y.size j) ∷ []) l.j-end l.j l.initial.w l.w
