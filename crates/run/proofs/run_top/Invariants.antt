use mathlib.Core.Path.{◌≡◌}
use mathlib.Core.Bool.{false}
use mathlib.Core.List.{[]}
use Rattle.rules.specs.Run.{entry_field}
use Rattle.views.specs.View.{rest}
use Rattle.views.specs.Fields.{left}
use Rattle.output.specs.Writers.{Owes}
use Rattle.run.specs.Lines.{sees, gate_runs}
use Rattle.run.proofs.Tops.{tops_from}
use Rattle.run.proofs.run_top.Given as goal

abbrev pub invariant-loop-f : goal.invariant-loop-f
invariant-loop-f l =
    (l.fields.img.now ≡ l.program.img.now)
    × Owes entry_field l.initial.w (tops_from (gate_runs l.program l.depth) l.program.gates.now l.program.counts.now l.regs (sees l.bits [] []) false (rest l.program.img.now 0)) l.w (tops_from (gate_runs l.program l.depth) l.program.gates.now l.program.counts.now l.regs (sees l.bits [] []) l.fields.inside (left l.fields))
