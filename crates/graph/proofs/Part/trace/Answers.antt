use mathlib.Core.Path.{sym, ◌∙◌}
use native.Mathlib.Omega.{arith}
use Rattle.graph.proofs.Groups.{linked_within}
use Rattle.graph.proofs.Ways.{tracing_none, tracing_more, tracing_on, tracing_all}
use Rattle.graph.proofs.Part.trace.Goals as goal

pub loop-i-init : goal.loop-i-init
loop-i-init c = (c.new-list.ensures.0, λ r. tracing_none _ _ (linked_within _ _) _ _ _ c.requires.1 _ c.new-list.ensures.1 c.requires.0 r _ (omega arith))

pub returns-in_default : goal.returns-in_default
returns-in_default c =
    λ r. let t = (c.loop-i.invariant.1) r in
    absurd (tracing_on _ _ (linked_within _ _) _ _ _ c.requires.1 _ _ _ (omega arith) (omega arith) t (sym (c.next_gate.ensures t.here) ∙ c.in_default.is))

pub loop-i-preserved : goal.loop-i-preserved
loop-i-preserved c = (
  omega arith,
  λ r. let t = (c.loop-i.invariant.1) r in
      tracing_more _ _ (linked_within _ _) _ _ _ c.requires.1 _ _ _ _ (omega arith) (omega arith) t (sym (c.next_gate.ensures t.here) ∙ c.in-Some.is) _ c.push.ensures.1 _ (omega arith),
)

pub returns : goal.returns
returns c = λ r. tracing_all _ _ (linked_within _ _) _ _ _ c.requires.1 _ _ _ (omega arith) ((c.loop-i.invariant.1) r)
