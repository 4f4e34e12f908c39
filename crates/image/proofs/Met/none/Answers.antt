use Rattle.std.proofs.Common.{refl}
use Rattle.image.specs.Table.{table}
use Rattle.image.proofs.Met.none.Goals as goal

pub returns : goal.returns
unfolding table
returns c = (refl, refl)
