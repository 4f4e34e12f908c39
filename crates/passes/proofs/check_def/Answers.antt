use Rattle.tables.specs.Zeros.{zeros, zeros_length, zeros_word}
use Rattle.passes.proofs.Scopes.{body_checked}
use Rattle.passes.proofs.check_def.Goals as goal

pub returns : goal.returns
returns c =
    body_checked _ _ _ _ _ _ (zeros 2048) _ _ (zeros_length 2048) (zeros_word 2048) (rw c.args-2.ensures.row at c.enter_args.ensures) (rw c.params.ensures.row at c.enter_params.ensures) c.check_body.ensures
