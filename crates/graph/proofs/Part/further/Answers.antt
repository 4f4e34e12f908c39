use Rattle.graph.proofs.Distances.{spread_near, spread_idle, spread_on}
use native.Mathlib.Omega.{arith}
use Rattle.graph.proofs.Part.further.Goals.{then-meets+then-not-contains, else-meets, else-meets-via-then-meets+else-not-contains, else-meets-via-else-meets}
use Rattle.graph.proofs.Part.further.Goals as goal

pub loop-u-preserved : goal.loop-u-preserved
loop-u-preserved c = elim c.if-meets.branch [
  | then-meets+then-not-contains w ↦
      rw (w.away-is, w.r-is) (spread_on _ _ _ _ _ (omega arith) _ _ c.loop-u.invariant _ w.contains.ensures w.if-not-contains.true _ c.row.ensures _ c.meets.ensures w.if-meets.true _ w.with-r.ensures)
  | else-meets w ↦ rw (w.away-is, w.r-is) (elim w.else-meets.branch [
    | else-meets-via-then-meets+else-not-contains v ↦ spread_near _ _ _ _ _ (omega arith) _ _ c.loop-u.invariant _ v.contains.ensures v.if-not-contains.false
    | else-meets-via-else-meets v ↦ spread_idle _ _ _ _ _ (omega arith) _ _ c.loop-u.invariant _ c.row.ensures _ c.meets.ensures v.if-meets.false
  ])
]
