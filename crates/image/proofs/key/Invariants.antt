-- The words that are left, folded into what is there, give the key.
use Rattle.std.specs.Prelude.{◌≡◌, ◌<◌, ◌-◌}
use Rattle.image.specs.Table.{folded, key_of}
use Rattle.image.proofs.key.Given as goal

abbrev pub invariant-loop : goal.invariant-loop
invariant-loop l = (l.a < 4294967296) × (l.b < 4294967296) × (folded (l.end - l.counter) l.p l.at l.a l.b ≡ key_of l.p)
