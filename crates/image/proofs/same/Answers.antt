use Rattle.image.proofs.Lookup.{same_told}
use Rattle.image.proofs.same.Goals as goal

pub returns : goal.returns
returns c = search same_told
