-- the lent buffer's length is a number of 64 bits
use borrow.Author.Rules.{rules}
use native.Mathlib.Omega.{arith}
use Prim.Native.Nat.{ℕ}
use lib.ListN.{length-replicate}
use Rattle.checks.proofs.Answering.{room_short, none_listed, some_listed, some_held}
use Rattle.checks.proofs.CheckerService.answer.Goals as goal

pub returns-then-out-bytes : goal.returns-then-out-bytes
returns-then-out-bytes c = room_short _ _ _ _ _ c.on-w.ensures.none c.tell_errors.ensures (omega arith) c.if-out-bytes.true

pub returns-then-items-eq0 : goal.returns-then-items-eq0
returns-then-items-eq0 c = none_listed _ _ _ _ _ c.on-w.ensures.none c.tell_errors.ensures (omega arith) c.if-out-bytes.false c.if-items-eq0.true

pub returns-then-bytes-gt81920 : goal.returns-then-bytes-gt81920
returns-then-bytes-gt81920 c =
    some_listed _ _ _ _ _ c.on-w.ensures.none c.tell_errors.ensures (omega arith) c.if-out-bytes.false c.if-items-eq0.false _ _ _ c.on.ensures.held c.on.ensures.none c.tell_errors-then-bytes-gt81920.ensures _ (search rules)

pub returns-else-bytes-gt81920 : goal.returns-else-bytes-gt81920
returns-else-bytes-gt81920 c =
    some_held _ _ _ _ _ c.on-w.ensures.none c.tell_errors.ensures (omega arith) c.if-out-bytes.false c.if-items-eq0.false 81920 (rw c.on-w.ensures.held (length-replicate {A = ℕ} 81920 0)) (omega arith) c.if-bytes-gt81920.false _ (search rules)
