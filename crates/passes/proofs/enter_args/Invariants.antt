use Rattle.views.specs.Items.{names_left}
use Rattle.passes.proofs.Scopes.{ArgsLeft}
use Rattle.passes.proofs.enter_args.Given as goal

abbrev pub invariant-loop-a : goal.invariant-loop-a
invariant-loop-a l = ArgsLeft l.initial.t (names_left l.args) l.t (names_left l.a-iterator)
