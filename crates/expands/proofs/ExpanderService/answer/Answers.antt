use Rattle.expands.proofs.Serving.{rejected, run_laid}
use Rattle.expands.proofs.ExpanderService.answer.Goals as goal

pub returns-then-ready-gt0 : goal.returns-then-ready-gt0
returns-then-ready-gt0 c = rejected _ _ _ c.place_gates-ready.ensures c.if-ready-gt0.true

pub returns : goal.returns
returns c =
    run_laid _ _ _ c.place_gates-ready.ensures c.if-ready-gt0.false _ _ _ c.collect_regs-regs.ensures _ c.as_slice-row.ensures _ _ c.expand_admitted.ensures
