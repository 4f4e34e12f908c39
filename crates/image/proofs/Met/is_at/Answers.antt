use Rattle.std.proofs.Common.{◌∙◌, ap}
use borrow.Author.Tests.{ne_eqb}
use Rattle.rules.specs.Reading.{same_bytes}
use Rattle.image.proofs.Lookup.{unlike}
use Rattle.image.proofs.Met.is_at.Goals as goal

pub returns-then-self-i : goal.returns-then-self-i
returns-then-self-i c = c.same.ensures ∙ ap (same_bytes c.args.p.now) c.load.ensures

pub returns-else-self-i : goal.returns-else-self-i
returns-else-self-i c = rw (ne_eqb _ _ c.if-self-i.false) (unlike _ _ _ _ (c.args.self.now.keyed.keyed _ c.requires.0) c.requires.1 c.if-self-i.false)
