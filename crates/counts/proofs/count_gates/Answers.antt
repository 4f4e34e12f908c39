use mathlib.Core.Path.{refl, ◌∙◌}
use Rattle.counts.proofs.Turns.{fill_turn, fill_over}
use Rattle.counts.proofs.count_gates.Goals as goal

pub loop-g-preserved : goal.loop-g-preserved
loop-g-preserved c =
    (c.store.auto.t ∙ c.loop-g.invariant.0, fill_turn _ _ _ _ _ _ _ (c.loop-g.invariant.1) c.loop-g-test.true _ _ _ refl c.word_of.ensures c.count_gate-n.ensures _ c.store.ensures)

pub returns : goal.returns
returns c = fill_over _ _ _ _ _ _ _ (c.loop-g.invariant.1) c.loop-g-test.false
