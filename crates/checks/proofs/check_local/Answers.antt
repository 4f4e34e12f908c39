use Rattle.checks.proofs.Passes.{local_said}
use Rattle.checks.proofs.check_local.Goals as goal

pub returns : goal.returns
returns c = local_said _ _ _ _ _ _ _ c.collect_decls-gates.ensures _ c.collect_regs-regs.ensures c.check_gates.ensures c.check_defs.ensures
