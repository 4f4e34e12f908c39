use mathlib.Core.Bool.{false}
use Rattle.run.proofs.Tops.{does_end, does_if, does_call, does_plain, does_none}
use Rattle.run.proofs.Top.+stmt.Goals as goal

pub returns-in_default : goal.returns-in_default
returns-in_default t c = does_end c.args.self (record { img = c.args.self.program.img; at = c.args.at; inside = false }) _ c.in_default.ensures.steps.end

pub returns-then-f-eq22 : goal.returns-then-f-eq22
returns-then-f-eq22 t c =
    does_if c.args.self _ _ _ _ c.in-Some.ensures.steps c.if-f-eq22.true _ c.operand-o.ensures _ _ _ c.wires-bits.ensures.0 c.wires-bits.ensures.1 c.eight_at.ensures _ c.if_begin.ensures _ _ c.stmt-after.ensures _ c.if_end.ensures

pub returns-then-f-eq21 : goal.returns-then-f-eq21
returns-then-f-eq21 t c = does_call c.args.self _ _ _ _ c.in-Some.ensures.steps c.if-f-eq21.true _ c.call.ensures

pub returns-then-is_stmt : goal.returns-then-is_stmt
returns-then-is_stmt t c =
    does_plain c.args.self _ _ _ _ c.in-Some.ensures.steps c.if-f-eq22.false c.if-f-eq21.false _ c.is_stmt.ensures c.if-is_stmt.true _ c.plain.ensures

pub returns : goal.returns
returns t c = does_none c.args.self _ _ _ _ c.in-Some.ensures.steps _ c.is_stmt.ensures c.if-is_stmt.false
