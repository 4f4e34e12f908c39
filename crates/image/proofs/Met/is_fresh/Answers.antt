use Rattle.std.proofs.Common.{false, sym}
use Rattle.image.proofs.Lookup.{fresh_none, fresh_long, fresh_is, unmarked}
use Rattle.image.proofs.Met.is_fresh.Goals.{then-p-lt1-via-then-p-lt1, then-p-lt1-via-else-p-lt1+then-p-gt64}
use Rattle.image.proofs.Met.is_fresh.Goals as goal

pub returns-then-p-lt1 : goal.returns-then-p-lt1
returns-then-p-lt1 c = elim c.then-p-lt1.branch [
  | then-p-lt1-via-then-p-lt1 w ↦ fresh_none _ _ w.if-p-lt1.true
  | then-p-lt1-via-else-p-lt1+then-p-gt64 w ↦ fresh_long _ _ w.if-p-lt1.false w.if-p-gt64.true
]

pub returns-then-self-slot-eq0 : goal.returns-then-self-slot-eq0
returns-then-self-slot-eq0 c =
    let s = c.args.self.now in
    rw c.if-self-slot-eq0.true
    (fresh_is _ _ false c.if-p-lt1.false c.if-p-gt64.false (sym (unmarked _ _ _ _ s.keyed s.marked _ _ c.requires _ c.slot.ensures.0 c.if-self-slot-eq0.true)))

pub returns-else-self-slot-eq0 : goal.returns-else-self-slot-eq0
returns-else-self-slot-eq0 c = fresh_is _ _ _ c.if-p-lt1.false c.if-p-gt64.false c.lists.ensures
