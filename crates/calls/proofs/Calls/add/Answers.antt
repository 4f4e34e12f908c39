use Rattle.calls.proofs.Adding.{add_out, add_past, add_had, add_new}
use Rattle.calls.proofs.Calls.add.Goals.{else-from-lt128-via-then-from-lt128+then-to-lt128+else-not-calls, else-from-lt128-via-then-from-lt128+else-to-lt128, else-from-lt128-via-else-from-lt128}
use Rattle.calls.proofs.Calls.add.Goals as goal

pub returns-then-not-calls-clause-added : goal.returns-then-not-calls-clause-added
returns-then-not-calls-clause-added c = add_new _ _ _ _ c.if-from-lt128.true c.if-to-lt128.true _ c.calls.ensures c.if-not-calls.true _ c.store.ensures c.link.ensures

pub returns-else-from-lt128-clause-added : goal.returns-else-from-lt128-clause-added
returns-else-from-lt128-clause-added c = elim c.else-from-lt128.branch [
  | else-from-lt128-via-then-from-lt128+then-to-lt128+else-not-calls w ↦ add_had _ _ _ _ w.if-from-lt128.true w.if-to-lt128.true _ w.calls.ensures w.if-not-calls.false
  | else-from-lt128-via-then-from-lt128+else-to-lt128 w ↦ add_past _ _ _ _ w.if-to-lt128.false
  | else-from-lt128-via-else-from-lt128 w ↦ add_out _ _ _ _ w.if-from-lt128.false
]
