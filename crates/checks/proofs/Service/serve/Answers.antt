use Rattle.checks.specs.Served.{served_refused, served_read}
use Rattle.checks.proofs.Service.serve.Goals as goal

pub returns-in-Err : goal.returns-in-Err
returns-in-Err g c = served_refused g.Self.Service.answers _ _ _ c.read_image.ensures g.met.Self.Service.refusal _ c.in-Err.is

pub returns-in-Ok : goal.returns-in-Ok
returns-in-Ok g c = served_read g.Self.Service.answers _ _ _ c.read_image.ensures _ c.in-Ok.is _ _ c.answer.ensures
