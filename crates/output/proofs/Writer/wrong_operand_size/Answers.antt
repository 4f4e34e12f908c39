use Rattle.rules.specs.Errors.{error_field}
use Rattle.output.specs.Writers.{says_one, field_then}
use Rattle.output.proofs.Writer.wrong_operand_size.Goals as goal

pub returns : goal.returns
unfolding error_field
returns c = says_one _ (field_then (field_then (field_then (field_then (field_then c.put_head.ensures c.put4.ensures) c.put4-2.ensures) c.put8.ensures) c.put4-3.ensures) c.put8-2.ensures)
