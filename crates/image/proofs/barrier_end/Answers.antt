use Rattle.rules.specs.Reading.{barrier_field}
use Rattle.items.specs.Ends.{read_laws, end_got}
use Rattle.image.proofs.Alike.{counted_last}
use Rattle.image.proofs.barrier_end.Goals as goal

pub returns-in_err-at : goal.returns-in_err-at
unfolding barrier_field
returns-in_err-at c = search (read_laws, c.in_err-at.was)

pub returns : goal.returns
unfolding barrier_field
returns c = end_got _ _ _ c.span_at.ensures _ _ c.in_ok-at.was (counted_last _ _ _ _ _ c.counted_end.ensures)
