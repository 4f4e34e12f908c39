use Rattle.collect.proofs.Headers.{header_known, header_new}
use Rattle.collect.proofs.Gates.header.Goals as goal

pub returns-in-Some : goal.returns-in-Some
returns-in-Some c = header_known _ _ _ c.name-x.ensures _ c.find_gate.ensures _ c.in-Some.is _ _ c.four_at.ensures c.four_at-in-Some.ensures _ _ c.redefined_gate.ensures

pub returns-in-None : goal.returns-in-None
returns-in-None c = header_new _ _ _ c.name-x.ensures _ c.find_gate.ensures c.in-None.is _ _ _ c.enter.ensures
