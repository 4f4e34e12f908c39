use Rattle.views.specs.Rows.{named_small}
use Rattle.passes.proofs.Scopes.{params_none, params_more}
use Rattle.passes.proofs.enter_params.Goals as goal

pub loop-p-preserved : goal.loop-p-preserved
loop-p-preserved c =
    let e = c.in-Some.ensures.steps in
    params_more _ _ _ _ _ _ e (named_small _ _ _ _ _ e) _ c.set_param.ensures c.loop-p.invariant

pub returns : goal.returns
returns c = params_none _ _ _ _ (c.in-None.ensures.steps.0) c.loop-p.invariant
