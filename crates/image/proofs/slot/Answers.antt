use borrow.Author.Rules.{rules}
use Rattle.image.proofs.Keys.{slot_is}
use Rattle.image.proofs.slot.Goals as goal

pub returns : goal.returns
returns c = (search slot_is, search rules)
