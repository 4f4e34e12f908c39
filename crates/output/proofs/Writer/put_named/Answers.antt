use Rattle.output.specs.Writers.{field_then}
use Rattle.output.proofs.Writer.put_named.Goals as goal

pub returns : goal.returns
returns c = field_then (field_then (field_then (field_then c.put_head.ensures c.put4.ensures) c.put2.ensures) c.put4-2.ensures) c.put4-3.ensures
