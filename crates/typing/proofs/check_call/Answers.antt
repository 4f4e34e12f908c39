use Rattle.rules.specs.Errors.{error_field}
use Rattle.rules.specs.Checking.{stmt_errors}
use Rattle.views.specs.View.{call_in}
use Rattle.output.specs.Writers.{puts_then}
use Rattle.tables.specs.Tables.{scope_in}
use Rattle.typing.proofs.Statements.{row_place, row_length, exprs_length}
use Rattle.typing.proofs.check_call.Goals as goal

pub returns : goal.returns
unfolding stmt_errors scope_in call_in
returns c =
    rw (← c.four_at-span.ensures.0, ← c.four_at.ensures.0, ← c.name-gate.ensures.0, ← c.byte_at-params.ensures.0, ← c.byte_at-args.ensures.0, row_place _ 12, row_length _ _ 12, exprs_length _ _ _)
    (puts_then error_field c.assert_def.ensures
    (puts_then error_field (puts_then error_field (rw (c.row-row.ensures.0, c.row-row.ensures.1, c.row-row.ensures.2) at c.assert_regs.ensures) (rw (c.row-row.ensures.0, c.row-row.ensures.1, c.row-row.ensures.2) at c.match_row.ensures)) c.check_exprs.ensures))
