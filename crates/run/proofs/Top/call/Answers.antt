use Rattle.rules.specs.Run.{entry_field}
use Rattle.output.specs.Writers.{puts_none}
use Rattle.run.proofs.Bodies.{call_skip, call_walk}
use Rattle.run.proofs.Top.call.Goals as goal

pub returns-in-Some : goal.returns-in-Some
returns-in-Some c = rw (call_walk _ _ _ _ _ _ _ c.name.ensures _ c.callee.ensures _ c.in-Some.is) c.each_call.ensures

pub returns-in_default : goal.returns-in_default
returns-in_default c = rw (call_skip _ _ _ _ _ _ _ c.name.ensures _ c.callee.ensures c.in_default.is) (puts_none entry_field _)
