use mathlib.Core.List.{map}
use Rattle.rules.specs.Errors.{error_field}
use Rattle.rules.specs.Checking.{quantum, unfixed, match_errors}
use Rattle.views.specs.Items.{operands_left}
use Rattle.output.specs.Writers.{Owes}
use Rattle.tables.specs.Tables.{reg_in}
use Rattle.asserts.proofs.match_row.Given as goal

abbrev pub invariant-loop-o : goal.invariant-loop-o
invariant-loop-o l =
    Owes error_field l.initial.w (match_errors (reg_in l.t) l.stmt unfixed (map quantum (operands_left l.os))) l.w (match_errors (reg_in l.t) l.stmt l.m (map quantum (operands_left l.o-iterator)))
