use Rattle.views.specs.Items.{names_left}
use Rattle.passes.proofs.Scopes.{ParamsLeft}
use Rattle.passes.proofs.enter_params.Given as goal

abbrev pub invariant-loop-p : goal.invariant-loop-p
invariant-loop-p l = ParamsLeft l.initial.t (names_left l.params) l.t (names_left l.p-iterator)
