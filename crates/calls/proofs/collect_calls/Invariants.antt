use mathlib.Core.Path.{◌≡◌}
use mathlib.Core.List.{List}
use Rattle.rules.specs.Syntax.{Gate}
use Rattle.calls.specs.Collecting.{Numbered, calls_in, calls_from}
use Rattle.calls.proofs.Adding.{Left}
use Rattle.calls.proofs.collect_calls.Given as goal

abbrev pub invariant-loop-f : goal.invariant-loop-f
invariant-loop-f l =
    (l.calls.spans.ghost_name ≡ l.initial.calls.spans.ghost_name) × ((gs : List Gate) → Numbered l.gates l.n gs → Left (calls_in gs l.img) (calls_from gs l.from l.f-iterator) l.calls)
