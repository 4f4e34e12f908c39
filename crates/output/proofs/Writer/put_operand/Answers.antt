use Rattle.output.specs.Writers.{writes_then}
use Rattle.output.proofs.Writer.put_operand.Goals as goal

pub returns : goal.returns
returns c = writes_then (writes_then (writes_then c.put4.ensures c.put2.ensures) c.put_flag.ensures) c.put8.ensures
