-- The measure is the depth.
use mathlib.Core.List.{[]}
use Rattle.rules.specs.Run.{entry_field}
use Prim.Native.Nat.{◌-◌}
use Rattle.views.specs.Fields.{left}
use Rattle.output.specs.Writers.{Owes}
use Rattle.run.specs.Lines.{gate_runs, names}
use Rattle.run.proofs.Bodies.{Lines}
use Rattle.run.proofs.Program.+gate.Given as goal

abbrev pub decreases-gate : goal.decreases-gate
decreases-gate l = l.depth

abbrev pub invariant-loop-f : goal.invariant-loop-f
invariant-loop-f l =
    Owes entry_field l.initial.w (gate_runs l.self l.depth l.g l.qs) l.w (Lines (gate_runs l.self (l.depth - 1)) l.self.gates.now l.self.counts.now [] (names l.frame) (left l.f-iterator))
