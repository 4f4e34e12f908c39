use borrow.Author.Tests.{eq-eqb, ne_eqb}
use Rattle.rules.specs.Errors.{error_field, wrong_parameter_arity}
use Rattle.rules.specs.Checking.{len_errors}
use Rattle.output.specs.Writers.{Says, puts_none, puts_then}
use Rattle.asserts.proofs.assert_len.Goals as goal
use Rattle.asserts.proofs.assert_len.Goals.{then-h-params, else-h-params}

pub returns-then-h-args : goal.returns-then-h-args
returns-then-h-args c =
    let params : Says c.args.w.now (len_errors c.args.h.params c.args.params (wrong_parameter_arity c.args.stmt c.args.h.decl c.args.name)) c.if-h-params.w =
    elim c.if-h-params.branch [
      | then-h-params v ↦ rw (v.w-is, ne_eqb _ _ v.if-h-params.true) v.wrong_parameter_arity.ensures
      | else-h-params v ↦ rw (v.w-is, eq-eqb _ _ v.if-h-params.false) (puts_none error_field _)
    ] in
    rw (ne_eqb _ _ c.if-h-args.true) (puts_then error_field params c.wrong_argument_arity.ensures)

pub returns-else-h-args : goal.returns-else-h-args
returns-else-h-args c =
    let params : Says c.args.w.now (len_errors c.args.h.params c.args.params (wrong_parameter_arity c.args.stmt c.args.h.decl c.args.name)) c.if-h-params.w =
    elim c.if-h-params.branch [
      | then-h-params v ↦ rw (v.w-is, ne_eqb _ _ v.if-h-params.true) v.wrong_parameter_arity.ensures
      | else-h-params v ↦ rw (v.w-is, eq-eqb _ _ v.if-h-params.false) (puts_none error_field _)
    ] in
    rw (eq-eqb _ _ c.if-h-args.false) (puts_then error_field params (puts_none error_field _))
