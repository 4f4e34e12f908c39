use Rattle.std.proofs.Common.{arith, refl, ◌∙◌, add-zero}
use Rattle.texts.proofs.Laws.{owes_all, hex_turn, hex_end}
use Rattle.texts.proofs.unhex.Goals as goal

pub loop-k-init : goal.loop-k-init
loop-k-init c = record { long = refl; owes = rw add-zero (owes_all _ _ _) }

pub loop-k-preserved : goal.loop-k-preserved
loop-k-preserved c = record {
  long = c.put1-m.ensures.long ∙ c.loop-k.invariant.long;
  owes = hex_turn _ _ _ _ _ _ _ _ c.loop-k.invariant.owes _ _ _ _ _ _ c.at.ensures c.at-in-loop-k.ensures c.joined.ensures c.put1-m.ensures (omega arith) (omega arith);
}

pub returns : goal.returns
returns c = hex_end _ _ _ _ _ _ _ _ c.loop-k.invariant.owes (omega arith)
