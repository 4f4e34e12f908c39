-- The name is among all exactly if it is among those that are left.
use Rattle.std.specs.Prelude.{◌≡◌}
use Rattle.rules.specs.Reading.{among}
use Rattle.image.specs.Table.{names_of}
use Rattle.image.proofs.Lookup.{names_from}
use Rattle.image.proofs.Met.lists.Given as goal

abbrev pub invariant-loop-i : goal.invariant-loop-i
invariant-loop-i l = among l.p (names_from l.self.img.now l.self.names l.i) ≡ among l.p (names_of l.self.img.now l.self.names)
