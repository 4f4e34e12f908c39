use mathlib.Core.Path.{◌∙◌}
use Rattle.asserts.proofs.Values.{value_far, value_near}
use Rattle.asserts.proofs.value_size.Goals as goal

pub returns-in-Some : goal.returns-in-Some
returns-in-Some c =
    let k = c.ilog2.ensures in
    c.from.ensures ∙ value_near _ _ _ c.in-Some.ensures k.power_le k.next_power_gt k.bound

pub returns-in-None : goal.returns-in-None
returns-in-None c = value_far _ c.in-None.ensures
