-- What a name means after rows that are entered one by one.
use Rattle.std.specs.Prelude.{Bool, true, false, ◌≡◌, Option, Some, None}
use Rattle.std.proofs.Math.Path.{refl}
use Rattle.rules.specs.declared.Reg.{Reg}
use Rattle.rules.specs.Basics.{pick}
use Rattle.rules.specs.Checking.{later}

pub later_none : (a : Option Reg) → later a None ≡ a
later_none (Some y) = refl
later_none None = refl

pub later_more : (a : Option Reg) (c : Bool) (r : Reg) (f : Option Reg) → later (later a (pick c (Some r) None)) f ≡ later a (pick c (Some r) f)
later_more (Some y) c r f = refl
later_more None true r f = refl
later_more None false r f = refl
