use mathlib.Core.Path.{refl}
use Rattle.views.specs.View.{named_in}
use Rattle.views.specs.Rows.{name_on}
use Rattle.views.proofs.NamedItem.read.Goals as goal

pub returns : goal.returns
unfolding named_in
returns c = rw (c.four_at.ensures.0, c.name.ensures.0, c.along.ensures, name_on c.args.s.now c.args.at 4) refl
