use Rattle.rules.specs.Run.{entry_field}
use Rattle.output.specs.Writers.{writes_then, field_then, field_same, puts_one}
use Rattle.entries.proofs.Laws.{opaque_field}
use Rattle.entries.proofs.opaque_call.Goals as goal

pub returns : goal.returns
returns c =
    puts_one entry_field _ (field_same (field_then c.put_head.ensures (writes_then c.put2.ensures c.put_row.ensures)) (opaque_field _ _))
