use Rattle.views.proofs.Places.{load_between}
use Rattle.views.proofs.load.Goals as goal

pub returns : goal.returns
returns c = load_between _ _ _ _ c.along.ensures c.next.ensures
