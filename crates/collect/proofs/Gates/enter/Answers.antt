use borrow.Author.Rules.{rules}
use Rattle.rules.specs.Errors.{redefined_argument, redefined_parameter}
use Rattle.collect.proofs.Headers.{gate_entered}
use Rattle.collect.proofs.Gates.enter.Goals as goal

pub returns : goal.returns
returns c =
    gate_entered _ _ _ c.four_at-decl.ensures
    (rw c.args-args.ensures.row at c.tell_repeats.ensures redefined_argument c.four_at-decl.result (λ v n prev r v' h. search rules))
    (rw c.params-params.ensures.row at c.tell_repeats-2.ensures redefined_parameter c.four_at-decl.result (λ v n prev r v' h. search rules))
    _ _ c.params-params.ensures.count c.args-args.ensures.count _ c.name.ensures _ c.set_gate.ensures _ c.store.ensures
