use mathlib.Core.Path.{sym, ◌∙◌}
use Rattle.rules.specs.Checking.{registers}
use Rattle.views.specs.Fields.{head_opened, none_left}
use Rattle.counts.specs.Starts.{start_fill}
use Rattle.counts.proofs.Walks.{starts_turn, starts_none, none_opened}
use Rattle.counts.proofs.fill_starts.Goals as goal

pub loop-f-preserved-in-Some-reg_here : goal.loop-f-preserved-in-Some-reg_here
loop-f-preserved-in-Some-reg_here c =
    let s = c.in-Some.ensures.steps in
    (c.enter.auto.starts ∙ c.loop-f.invariant.0, rw s.body (sym (c.enter.ensures.fill _) ∙ starts_turn _ _ _ _ _ c.reg_here.ensures _ _ _ _ (rw (head_opened _ _ _ s) at c.loop-f.invariant.1) _ c.in-Some-reg_here.is))

pub loop-f-preserved : goal.loop-f-preserved
loop-f-preserved c =
    let s = c.in-Some.ensures.steps in
    (c.loop-f.invariant.0, rw s.body (starts_none _ _ _ _ _ c.reg_here.ensures _ _ _ _ (rw (head_opened _ _ _ s) at c.loop-f.invariant.1) c.in_default.is))

pub returns : goal.returns
unfolding registers start_fill
returns c = rw (none_left _ _ c.in-None.ensures.steps, none_opened c.loop-f.f-iterator.inside) at c.loop-f.invariant.1
