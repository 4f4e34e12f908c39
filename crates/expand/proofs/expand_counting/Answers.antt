use native.Mathlib.Omega.{arith}
use mathlib.Core.Path.{◌∙◌}
use Prim.Native.Nat.{ℕ}
use lib.ListN.{length-replicate}
use Rattle.expand.proofs.Exits.{wide, many, fine}
use Rattle.expand.proofs.expand_counting.Goals as goal
use Rattle.expand.proofs.expand_counting.Goals.{then-total_bits-gt4096-via-then-total_bits-gt4096, then-total_bits-gt4096-via-else-total_bits-gt4096+then-total_bits-gt4096-2}

pub returns-then-total_bits-gt4096 : goal.returns-then-total_bits-gt4096
returns-then-total_bits-gt4096 c = elim c.then-total_bits-gt4096.branch [
  | then-total_bits-gt4096-via-then-total_bits-gt4096 w ↦ wide _ _ _ _ _ _ _ _ c.total_bits.ensures w.if-total_bits-gt4096.true
  | then-total_bits-gt4096-via-else-total_bits-gt4096+then-total_bits-gt4096-2 w ↦ wide _ _ _ _ _ _ _ _ w.total_bits-else-total_bits-gt4096.ensures w.if-total_bits-gt4096-2.true
]

pub returns-then-count_top-gt4096 : goal.returns-then-count_top-gt4096
returns-then-count_top-gt4096 c =
    many _ _ _ _ _ _ _ _ c.total_bits.ensures c.total_bits-else-total_bits-gt4096.ensures c.if-total_bits-gt4096.false c.if-total_bits-gt4096-2.false (λ i. omega (arith, c.type_inv.img i)) _ (c.fill_places.auto.places ∙ length-replicate {A = ℕ} 128 0) c.fill_places.ensures _ c.count_gates.ensures _ c.count_top.ensures c.if-count_top-gt4096.true

pub returns : goal.returns
returns c =
    fine _ _ _ _ _ _ _ _ c.total_bits.ensures c.total_bits-else-total_bits-gt4096.ensures c.if-total_bits-gt4096.false c.if-total_bits-gt4096-2.false (λ i. omega (arith, c.type_inv.img i)) _ (c.fill_places.auto.places ∙ length-replicate {A = ℕ} 128 0) c.fill_places.ensures _ c.count_gates.ensures _ c.count_top.ensures c.if-count_top-gt4096.false _ _ c.lay_run.ensures
