use mathlib.Core.List.{[], map}
use Prim.Native.Nat.{ℕ}
use Rattle.rules.specs.Errors.{Error, error_field}
use Rattle.rules.specs.Checking.{argument, repeats}
use Rattle.views.specs.Items.{names_left}
use Rattle.output.specs.Writers.{Owes}
use Rattle.collect.specs.Collected.{Tells}
use Rattle.collect.proofs.Names.{Stands}
use Rattle.collect.proofs.tell_repeats.Given as goal

abbrev pub invariant-loop-n : goal.invariant-loop-n
invariant-loop-n g l =
    Stands l.row l.seen (names_left l.n-iterator)
    × ((kind : ℕ → ℕ → ℕ → ℕ → Error) (decl : ℕ) → Tells (goal.F-post g l.tell) kind decl
    → Owes error_field l.fn.w (repeats kind decl [] (names_left l.row)) l.w (repeats kind decl (map argument (names_left l.seen)) (names_left l.n-iterator)))
