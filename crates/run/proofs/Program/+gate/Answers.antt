use Rattle.rules.specs.Run.{entry_field}
use Rattle.output.specs.Writers.{owes_same, owes_less, owes_none, puts_none}
use Rattle.run.proofs.Bodies.{gate_zero, gate_opaque, gate_body, body_plain, body_over, body_done, skip_turn, walk_turn}
use Rattle.run.proofs.Program.+gate.Goals as goal

pub returns-then-depth-eq0 : goal.returns-then-depth-eq0
returns-then-depth-eq0 t c = gate_zero c.args.self _ _ _ c.if-depth-eq0.true _

pub returns-then-not-is_one : goal.returns-then-not-is_one
returns-then-not-is_one t c =
    rw (gate_opaque c.args.self _ _ _ c.if-depth-eq0.false _ c.word_of-place.ensures _ c.load-head.ensures _ c.is_one.ensures c.if-not-is_one.true _ c.name.ensures) c.opaque_call.ensures

pub loop-f-init : goal.loop-f-init
loop-f-init t c =
    rw (c.into_iter-f-iterator.ensures.into_iter_gives, c.body-f-items.ensures)
    (owes_same entry_field _ (gate_body c.args.self _ _ _ c.if-depth-eq0.false _ c.word_of-place.ensures _ c.load-head.ensures _ c.is_one.ensures c.if-not-is_one.false))

pub returns-then-f-eq6 : goal.returns-then-f-eq6
returns-then-f-eq6 t c = owes_none entry_field c.loop-f.invariant (body_over _ _ _ _ _ _ _ _ c.in-Some.ensures.steps c.if-f-eq6.true)

pub loop-f-preserved-then-f-ne21 : goal.loop-f-preserved-then-f-ne21
loop-f-preserved-then-f-ne21 t c =
    owes_less entry_field c.loop-f.invariant (body_plain _ _ _ _ _ _ _ _ c.in-Some.ensures.steps c.if-f-eq6.false c.if-f-ne21.true) c.plain.ensures

pub loop-f-preserved-in-Some-callee : goal.loop-f-preserved-in-Some-callee
loop-f-preserved-in-Some-callee t c =
    owes_less entry_field c.loop-f.invariant (walk_turn _ _ _ _ _ _ _ c.in-Some.ensures.steps c.if-f-ne21.false _ c.name-in-loop-f.ensures _ c.callee.ensures _ c.in-Some-callee.is _ c.byte_at-k.ensures _ c.lanes.ensures) c.gate.ensures

pub loop-f-preserved : goal.loop-f-preserved
loop-f-preserved t c =
    owes_less entry_field c.loop-f.invariant (skip_turn _ _ _ _ _ _ _ c.in-Some.ensures.steps c.if-f-ne21.false _ c.name-in-loop-f.ensures _ c.callee.ensures c.in_default.is) (puts_none entry_field _)

pub returns : goal.returns
returns t c = owes_none entry_field c.loop-f.invariant (body_done _ _ _ _ _ _ _ c.in-None.ensures.steps)
