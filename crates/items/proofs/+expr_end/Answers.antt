use Rattle.std.proofs.Common.{◌∙◌, sym, refl, lt-ltb, le-ltb}
use Rattle.items.specs.Ends.{end_no, end_got, ends_no, ends_got, end_last}
use Rattle.items.proofs.Laws.{expr_step, expr_no, expr_deep}
use Rattle.rules.specs.Items.{node}
use Rattle.items.proofs.+expr_end.Goals as goal

pub returns-in_err-o : goal.returns-in_err-o
returns-in_err-o t c = expr_no _ _ _ _ _ _ _ c.opcode_at.ensures c.in_err-o.was c.from_residual.ensures.1

pub returns-then-depth-eq0 : goal.returns-then-depth-eq0
returns-then-depth-eq0 t c = expr_deep _ _ _ _ _ _ c.if-depth-eq0.true (sym c.opcode_at.ensures ∙ c.in_ok-o.was)

pub returns-in_err-at : goal.returns-in_err-at
unfolding node
returns-in_err-at t c =
    rw (expr_step _ _ _ _ _ _ c.if-depth-eq0.false (sym c.opcode_at.ensures ∙ c.in_ok-o.was))
    (end_no _ _ _ c.span_at.ensures _ _ c.in_err-at.was c.from_residual-in_err-at.ensures.1)

pub returns-then-o-lt4 : goal.returns-then-o-lt4
unfolding node
returns-then-o-lt4 t c =
    rw (expr_step _ _ _ _ _ _ c.if-depth-eq0.false (sym c.opcode_at.ensures ∙ c.in_ok-o.was))
    (end_got _ _ _ c.span_at.ensures _ _ c.in_ok-at.was (rw (lt-ltb _ _ c.if-o-lt4.true) (end_last _ _ (λ v m. refl) _ c.leaf_end.ensures)))

pub returns-in_err-at-2 : goal.returns-in_err-at-2
unfolding node
returns-in_err-at-2 t c =
    rw (expr_step _ _ _ _ _ _ c.if-depth-eq0.false (sym c.opcode_at.ensures ∙ c.in_ok-o.was))
    (end_got _ _ _ c.span_at.ensures _ _ c.in_ok-at.was (rw (le-ltb _ _ c.if-o-lt4.false)
    (ends_no _ _ _ c.expr_end.ensures _ _ c.in_err-at-2.was c.from_residual-in_err-at-2.ensures.1)))

pub returns-then-o-lt9 : goal.returns-then-o-lt9
unfolding node
returns-then-o-lt9 t c =
    rw (expr_step _ _ _ _ _ _ c.if-depth-eq0.false (sym c.opcode_at.ensures ∙ c.in_ok-o.was))
    (end_got _ _ _ c.span_at.ensures _ _ c.in_ok-at.was (rw (le-ltb _ _ c.if-o-lt4.false)
    (ends_got _ _ _ c.expr_end.ensures _ _ c.in_ok-at-2.was (λ v. rw (lt-ltb _ _ c.if-o-lt9.true) (end_last _ _ (λ y m. refl) _ c.expr_end-then-o-lt9.ensures)))))

pub returns : goal.returns
unfolding node
returns t c =
    rw (expr_step _ _ _ _ _ _ c.if-depth-eq0.false (sym c.opcode_at.ensures ∙ c.in_ok-o.was))
    (end_got _ _ _ c.span_at.ensures _ _ c.in_ok-at.was (rw (le-ltb _ _ c.if-o-lt4.false)
    (ends_got _ _ _ c.expr_end.ensures _ _ c.in_ok-at-2.was (λ v. rw (le-ltb _ _ c.if-o-lt9.false) refl))))
