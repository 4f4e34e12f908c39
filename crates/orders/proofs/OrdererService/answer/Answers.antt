use borrow.Author.Rules.{rules}
use native.Mathlib.Omega.{arith}
use Rattle.orders.proofs.Listing.{rejected, room_short, all_listed}
use Rattle.orders.proofs.OrdererService.answer.Goals as goal

pub returns-then-ready-gt0 : goal.returns-then-ready-gt0
returns-then-ready-gt0 c = rejected _ _ _ c.place_gates-ready.ensures c.if-ready-gt0.true

pub returns-then-out-n : goal.returns-then-out-n
returns-then-out-n c = room_short _ _ _ c.place_gates-ready.ensures c.if-ready-gt0.false _ c.front-row.ensures c.if-out-n.true

pub returns : goal.returns
returns c =
    all_listed _ _ _ c.place_gates-ready.ensures c.if-ready-gt0.false _ c.front-row.ensures c.if-out-n.false (omega arith) _ _ c.on.ensures.held c.on.ensures.none c.put_gates.ensures _ (search rules)
