use mathlib.Core.Path.{◌≡◌}
use mathlib.Core.List.{List, map}
use lib.ListN.{drop}
use Rattle.rules.specs.Syntax.{Gate}
use Rattle.rules.specs.Errors.{error_field}
use Rattle.rules.specs.Graph.{leaders}
use Rattle.rules.specs.Calls.{Call, edge, group_error, recursion_errors}
use Rattle.output.specs.Writers.{Owes}
use Rattle.calls.specs.Telling.{Shown}
use Rattle.calls.proofs.Tables.tell_groups.Given as goal

abbrev pub invariant-loop-g : goal.invariant-loop-g
invariant-loop-g l =
    (l.w.out.ghost_name ≡ l.initial.w.out.ghost_name)
    × ((gs : List Gate) (cs : List Call) → Shown gs cs l.self → l.lowest ≡ leaders l.self.n (edge cs) → Owes error_field l.initial.w (recursion_errors gs cs) l.w (map (group_error gs cs) (drop l.g-index l.lowest)))
