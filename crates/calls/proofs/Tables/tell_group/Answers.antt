use borrow.Author.Rules.{rules}
use mathlib.Core.Path.{ap}
use Prim.Native.Nat.{◌*◌}
use Rattle.calls.proofs.Pairs.{cycle_told}
use Rattle.calls.proofs.Groups.{listed_length, group_told}
use Rattle.calls.proofs.Tables.tell_group.Goals as goal

pub returns-clause-says : goal.returns-clause-says
returns-clause-says c =
    λ gs cs S h r.
    let long = listed_length c.cycle-cycle.result (search rules) _ c.as_slice.ensures in
    group_told gs cs _ S _ c.cycle-cycle.result c.cycle-cycle.ensures h r _ c.as_slice.ensures _ _ (cycle_told _ _ _ _ _ _ _ _ (ap (λ k. 8 * k) long) c.put_head.ensures c.put_pairs.ensures)
