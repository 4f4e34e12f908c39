use mathlib.Core.Path.{sym, ◌∙◌}
use Rattle.views.specs.Items.{operands_left}
use Rattle.counts.proofs.Turns.{common_turn, common_over}
use Rattle.counts.proofs.common_row.Goals as goal

pub loop-o-preserved : goal.loop-o-preserved
loop-o-preserved c = rw (c.common_of-c.ensures, c.size_in.ensures) (common_turn c.args.regs.now c.in-Some.o (operands_left c.next.new.self) c.loop-o.c ∙ (rw c.in-Some.ensures.steps at c.loop-o.invariant))

pub returns : goal.returns
returns c = sym (common_over _ _) ∙ (rw c.in-None.ensures.steps.0 at c.loop-o.invariant)
