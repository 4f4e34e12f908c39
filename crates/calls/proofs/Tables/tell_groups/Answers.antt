use mathlib.Core.Path.{refl, ◌∙◌}
use Rattle.calls.proofs.Groups.{groups_start, group_leads, groups_more, groups_end}
use Rattle.calls.proofs.Tables.tell_groups.Goals as goal

pub loop-g-init : goal.loop-g-init
loop-g-init c = (refl, λ gs cs S e. groups_start gs cs _ S _ e _)

pub loop-g-preserved : goal.loop-g-preserved
loop-g-preserved c = (
  c.tell_group.ensures.same ∙ c.loop-g.invariant.0,
  λ gs cs S e.
      let g = group_leads gs cs _ S _ e _ c.loop-g-test.true in
      groups_more gs cs _ S _ e _ c.loop-g-test.true _ _ _ (c.loop-g.invariant.1 gs cs S e) (c.tell_group.ensures.says gs cs S g.0 g.1),
)

pub returns-clause-says : goal.returns-clause-says
returns-clause-says c = λ gs cs S e. groups_end gs cs _ S _ e _ c.loop-g-test.false _ _ (c.loop-g.invariant.1 gs cs S e)
