use Prim.Native.Nat.{◌-◌}
use Rattle.rules.specs.Errors.{error_field}
use Rattle.rules.specs.Checking.{exprs_errors}
use Rattle.views.specs.View.{exprs_in}
use Rattle.output.specs.Writers.{Owes}
use Rattle.tables.specs.Tables.{param_in}
use Rattle.asserts.proofs.check_exprs.Given as goal

abbrev pub invariant-loop : goal.invariant-loop
invariant-loop l =
    Owes error_field l.initial.w (exprs_errors (param_in l.t) l.stmt (exprs_in l.k l.p l.from)) l.w (exprs_errors (param_in l.t) l.stmt (exprs_in (l.k - l.counter) l.p l.at))
