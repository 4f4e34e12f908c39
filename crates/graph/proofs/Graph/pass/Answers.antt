use native.Mathlib.Omega.{arith}
use Rattle.graph.proofs.Groups.{pass_on, pass_over}
use Rattle.graph.proofs.Graph.pass.Goals.{then-contains, else-contains}
use Rattle.graph.proofs.Graph.pass.Goals as goal

pub loop-i-preserved : goal.loop-i-preserved
loop-i-preserved c = elim c.if-contains.branch [
  | then-contains w ↦ rw w.self-is (pass_on _ _ _ _ c.loop-i.invariant _ c.row-reached.ensures _ c.contains.ensures w.if-contains.true _ c.row-through.ensures _ w.union.ensures (omega arith))
  | else-contains w ↦ rw w.self-is (pass_over _ _ _ _ c.loop-i.invariant _ c.row-reached.ensures _ c.contains.ensures w.if-contains.false)
]
