-- The entries of one qubit, by their kind.
use Rattle.std.specs.Prelude.{ℕ}
use Rattle.rules.specs.Run.{Entry, u_e, reset_e, barrier_e}
use Rattle.entries.specs.declared.Kind.{Kind}
use Rattle.entries.specs.declared.Kind.TheVariants.{U, Reset, Barrier}

-- an entry of one qubit
abbrev pub one_of : Kind → ℕ → Entry
one_of U q = u_e q
one_of Reset q = reset_e q
one_of Barrier q = barrier_e q
