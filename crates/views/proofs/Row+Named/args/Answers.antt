use mathlib.Core.Path.{refl}
use Rattle.views.specs.View.{named_in, args_in}
use Rattle.views.specs.Rows.{named_ends, row_length, past_names}
use Rattle.views.proofs.Row+Named.args.Goals as goal

pub returns-clause-row : goal.returns-clause-row
unfolding args_in
returns-clause-row c = rw (c.row.ensures.0, c.row.ensures.1, c.row.ensures.2, c.byte_at.ensures.0, c.byte_at-2.ensures.0, past_names) refl

pub returns-clause-count : goal.returns-clause-count
unfolding args_in
returns-clause-count c = rw (c.row.ensures.2, row_length named_in 6 named_ends) (c.byte_at-2.ensures.0)
