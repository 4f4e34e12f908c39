use mathlib.Core.Path.{refl}
use Prim.Native.Nat.{◌≤◌}
use native.Mathlib.Omega.{arith}
use Rattle.graph.proofs.Groups.{linked_within}
use Rattle.graph.proofs.Distances.{near_start, near_more, unmet_more, lap_met, lap_end}
use Rattle.graph.proofs.Part.lap.Goals as goal

pub loop-k-init : goal.loop-k-init
loop-k-init c = (near_start _ _ (linked_within _ _) _ _ _ c.args.self.now.few c.requires refl c.with-near.ensures, λ w t h. omega arith)

pub returns-then-meets : goal.returns-then-meets
returns-then-meets c =
    let top : c.loop-k.k ≤ c.args.self.now.n = omega arith in
    lap_met _ _ c.args.self.now.few _ _ _ _ top c.loop-k.invariant.0 _ _ c.row-out.ensures c.meets.ensures c.if-meets.true c.requires c.loop-k.auto.k c.loop-k.invariant.1

pub loop-k-preserved : goal.loop-k-preserved
loop-k-preserved c =
    let top : c.loop-k.k ≤ c.args.self.now.n = omega arith in (
      near_more _ _ c.args.self.now.few _ _ _ _ top c.loop-k.invariant.0 c.loop-k.auto.k c.loop-k-test.true _ _ c.further-near.ensures,
      unmet_more _ _ c.args.self.now.few _ _ _ _ top c.loop-k.invariant.0 _ _ c.row-out.ensures c.meets.ensures c.if-meets.false,
    )

pub returns : goal.returns
returns c =
    let top : c.loop-k.k ≤ c.args.self.now.n = omega arith in
    lap_end _ _ c.args.self.now.few _ _ _ _ top c.loop-k.invariant.0 c.loop-k-test.false c.loop-k.auto.k c.loop-k.invariant.1
