use Rattle.calls.proofs.Adding.{call_some, call_none}
use Rattle.calls.proofs.Calls.meet.Goals as goal

pub returns-in-Some-clause-added : goal.returns-in-Some-clause-added
returns-in-Some-clause-added c = call_some _ _ _ _ _ c.number_of.ensures _ c.in-Some.is _ c.four_at.ensures.0 _ c.add.ensures.added

pub returns-in_default-clause-added : goal.returns-in_default-clause-added
returns-in_default-clause-added c = call_none _ _ _ _ _ c.number_of.ensures c.in_default.is
