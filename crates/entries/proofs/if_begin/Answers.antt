use Rattle.rules.specs.Run.{entry_field}
use Rattle.output.specs.Writers.{field_then, puts_one}
use Rattle.entries.proofs.if_begin.Goals as goal

pub returns : goal.returns
unfolding entry_field
returns c =
    puts_one entry_field _ (field_then (field_then (field_then c.put_head.ensures c.put4.ensures) c.put4-2.ensures) c.put8.ensures)
