use Rattle.views.specs.Rows.{named_small}
use Rattle.passes.proofs.Scopes.{args_none, args_more}
use Rattle.passes.proofs.enter_args.Goals as goal

pub loop-a-preserved : goal.loop-a-preserved
loop-a-preserved c =
    let e = c.in-Some.ensures.steps in
    args_more _ _ _ _ _ _ e (named_small _ _ _ _ _ e) _ c.set_reg.ensures c.loop-a.invariant

pub returns : goal.returns
returns c = args_none _ _ _ _ (c.in-None.ensures.steps.0) c.loop-a.invariant
