use mathlib.Core.Path.{◌≡◌}
use Prim.Native.Nat.{◌≤◌}
use lib.ListN.{length}
use Rattle.views.specs.Fields.{opened}
use Rattle.counts.proofs.Walks.{Entered}
use Rattle.counts.proofs.fill_places.Given as goal

abbrev pub invariant-loop-f : goal.invariant-loop-f
invariant-loop-f l =
    (length l.places ≡ length l.initial.places) × (l.k ≤ l.f-iterator.at) × (l.f-iterator.img.now ≡ l.img) × Entered l.img (opened l.f-iterator) l.places l.k
