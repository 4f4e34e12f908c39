use mathlib.Core.Path.{◌≡◌}
use mathlib.Core.List.{map}
use lib.ListN.{get_or, drop}
use Rattle.rules.specs.Checking.{argument}
use Rattle.views.specs.Items.{names_left}
use Rattle.run.specs.Lines.{names, seen}
use Rattle.run.proofs.Frame.bit.Given as goal

abbrev pub invariant-loop-i : goal.invariant-loop-i
invariant-loop-i l =
    seen (map argument (names_left l.i-iterator.iter)) (drop l.i-iterator.count l.self.qs.now) l.bit l.x ≡ get_or (names l.self) l.x 0
