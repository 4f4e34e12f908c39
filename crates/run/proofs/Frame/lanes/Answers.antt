use native.Mathlib.Omega.{arith}
use mathlib.Core.Path.{◌≡◌, ◌∙◌}
use Prim.Native.Nat.{ℕ}
use lib.ListN.{length-set}
use Rattle.run.proofs.Turns.{operands_less, operands_over, lanes_turn, lanes_over}
use Rattle.run.proofs.Frame.lanes.Goals as goal

pub loop-i-preserved : goal.loop-i-preserved
loop-i-preserved c =
    let s = c.in-Some.ensures.steps in
    let n = operands_less c.loop-i.i-iterator.iter c.next.new.self.iter _ s.0 in
    (length-set {A = ℕ} c.loop-i.row c.in-Some.i c.lane.result ∙ c.loop-i.invariant.0, omega (arith, n, s.2, c.loop-i.invariant.1), rw (s.2, s.1) (lanes_turn _ _ _ _ _ _ _ _ (rw s.0 at c.loop-i.invariant.2) (omega (arith, c.loop-i.invariant.0, c.loop-i.invariant.1, n, c.requires)) _ (rw (c.wires.ensures.0, c.wires.ensures.1) at c.lane.ensures)))

pub returns : goal.returns
returns c =
    let e = c.in-None.ensures.steps.0.0 in
    let n : c.args.k ≡ c.loop-i.i-iterator.count = omega (arith, operands_over c.loop-i.i-iterator.iter e, c.loop-i.invariant.1) in
    rw n (lanes_over _ _ _ _ _ _ _ (rw n at c.loop-i.invariant.2) e)
