-- What is left to read from here ends where all of it does.
use Rattle.std.specs.Prelude.{◌≡◌, ◌-◌, ◌<◌, ◌^◌, ℕ, Result}
use Rattle.rules.specs.declared.Fault.{Fault}
use Rattle.items.specs.Ends.{rounds}
use Rattle.items.proofs.many.Given as goal

abbrev pub invariant-loop : goal.invariant-loop
invariant-loop g l =
    goal.F-IsAlwaysCallable g l.item × (l.here < 2 ^ 64)
    × ((e : ℕ → Result ℕ Fault) → ((m : ℕ) (r : Result ℕ Fault) → m < 2 ^ 64 → goal.F-post g l.item m r → r ≡ e m)
    → rounds (l.count - l.counter) e l.here ≡ rounds l.count e l.at)
