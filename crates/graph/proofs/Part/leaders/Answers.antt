use mathlib.Core.Path.{◌∙◌}
use native.Mathlib.Omega.{arith}
use Rattle.graph.proofs.Groups.{leading_none, leading_yes, leading_no, leading_all, leads_same}
use Rattle.graph.proofs.Part.leaders.Goals.{then-leads, else-leads}
use Rattle.graph.proofs.Part.leaders.Goals as goal

pub loop-u-init : goal.loop-u-init
loop-u-init c = λ E R. leading_none _ _ _ _ c.new-list.ensures.0 c.new-list.ensures.1

pub push-requires : goal.push-requires
push-requires c = omega (arith, (c.loop-u.invariant _ c.closed-reach.ensures).few)

pub loop-u-preserved : goal.loop-u-preserved
loop-u-preserved c = λ E R.
    let same = c.leads.ensures ∙ leads_same _ E _ R _ c.loop-u-test.true in
    elim c.if-leads.branch [
      | then-leads w ↦ rw w.list-is (leading_yes _ E _ _ _ c.loop-u-test.true ((c.loop-u.invariant) E R) _ same w.if-leads.true _ _ w.push.ensures.0 w.push.ensures.1)
      | else-leads w ↦ rw w.list-is (leading_no _ E _ _ _ c.loop-u-test.true ((c.loop-u.invariant) E R) _ same w.if-leads.false)
    ]

pub returns : goal.returns
returns c = leading_all _ _ _ _ _ c.loop-u-test.false ((c.loop-u.invariant) _ c.closed-reach.ensures)
