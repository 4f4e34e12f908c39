use borrow.Author.Rules.{rules}
use mathlib.Core.Path.{sym, ◌∙◌}
use Rattle.tables.specs.Zeros.{zeros, zeros_length, zeros_word}
use Rattle.collect.proofs.Registers.{regs_start, regs_inside, regs_other, regs_entered, regs_done}
use Rattle.collect.proofs.collect_regs.Goals.{else-not-f-via-then-not-f+else-is_reg, else-not-f-via-else-not-f}
use Rattle.collect.proofs.collect_regs.Goals as goal

pub loop-f-init : goal.loop-f-init
loop-f-init c = regs_start _ (zeros 2048) _ _ (search rules) (search rules) (zeros_length 2048) (zeros_word 2048)

pub loop-f-preserved-then-is_reg : goal.loop-f-preserved-then-is_reg
loop-f-preserved-then-is_reg c =
    regs_entered _ _ _ _ _ _ _ c.loop-f.invariant c.in-Some.ensures.steps (search rules) (sym c.is_reg.ensures ∙ c.if-is_reg.true) _ _ c.enter.ensures

pub loop-f-preserved : goal.loop-f-preserved
loop-f-preserved c = elim c.else-not-f.branch [
  | else-not-f-via-then-not-f+else-is_reg w ↦ regs_other _ _ _ _ _ _ _ c.loop-f.invariant c.in-Some.ensures.steps w.if-not-f.true (sym w.is_reg.ensures ∙ w.if-is_reg.false)
  | else-not-f-via-else-not-f w ↦ regs_inside _ _ _ _ _ _ _ c.loop-f.invariant c.in-Some.ensures.steps w.if-not-f.false
]

pub returns : goal.returns
returns c = regs_done _ _ _ _ _ _ c.loop-f.invariant c.in-None.ensures.steps
