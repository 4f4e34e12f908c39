use mathlib.Core.Path.{sym, ap, ◌∙◌}
use Rattle.rules.specs.Errors.{error_field}
use Rattle.views.specs.View.{on}
use Rattle.output.specs.Writers.{puts_none, puts_then}
use Rattle.asserts.proofs.Values.{errors_deep, errors_far, errors_leaf, errors_one, errors_two, past_deep, past_far, past_leaf, past_one, past_two}
use Rattle.asserts.proofs.+check_expr.Goals as goal
use Rattle.asserts.proofs.+check_expr.Goals.{then-depth-eq0-via-then-depth-eq0, then-depth-eq0-via-else-depth-eq0+then-p-at}

pub returns-then-depth-eq0-clause-said : goal.returns-then-depth-eq0-clause-said
returns-then-depth-eq0-clause-said t c =
    elim c.then-depth-eq0.branch [
      | then-depth-eq0-via-then-depth-eq0 v ↦ rw (errors_deep c.args.t.now c.args.stmt c.args.depth c.args.p.now c.args.at v.if-depth-eq0.true) (puts_none error_field _)
      | then-depth-eq0-via-else-depth-eq0+then-p-at v ↦ rw (errors_far c.args.t.now c.args.stmt c.args.depth c.args.p.now c.args.at v.if-p-at.true) (puts_none error_field _)
    ]

pub returns-then-depth-eq0-clause-past : goal.returns-then-depth-eq0-clause-past
returns-then-depth-eq0-clause-past t c =
    elim c.then-depth-eq0.branch [
      | then-depth-eq0-via-then-depth-eq0 v ↦ past_deep c.args.t.now c.args.stmt _ _ _ v.if-depth-eq0.true
      | then-depth-eq0-via-else-depth-eq0+then-p-at v ↦ past_far c.args.t.now c.args.stmt _ _ _ v.if-p-at.true
    ]

pub returns-then-o-lt4-clause-said : goal.returns-then-o-lt4-clause-said
returns-then-o-lt4-clause-said t c =
    rw (errors_leaf _ _ _ _ _ c.if-depth-eq0.false c.if-p-at.false _ (c.byte_at-o.ensures.0) c.if-o-lt4.true) c.check_leaf.ensures

pub returns-then-o-lt4-clause-past : goal.returns-then-o-lt4-clause-past
returns-then-o-lt4-clause-past t c =
    c.along.ensures
    ∙ ap (on c.args.p.now c.args.at) c.node_length.ensures
    ∙ sym (past_leaf c.args.t.now c.args.stmt _ _ _ c.if-depth-eq0.false c.if-p-at.false _ (c.byte_at-o.ensures.0) c.if-o-lt4.true)

pub returns-then-o-ge9-clause-said : goal.returns-then-o-ge9-clause-said
returns-then-o-ge9-clause-said t c =
    rw (errors_one _ _ _ _ _ c.if-depth-eq0.false c.if-p-at.false _ (c.byte_at-o.ensures.0) c.if-o-lt4.false c.if-o-ge9.true, ← c.along-2.ensures) c.check_expr-second.ensures.said

pub returns-then-o-ge9-clause-past : goal.returns-then-o-ge9-clause-past
returns-then-o-ge9-clause-past t c =
    rw (past_one c.args.t.now c.args.stmt _ _ _ c.if-depth-eq0.false c.if-p-at.false _ (c.byte_at-o.ensures.0) c.if-o-lt4.false c.if-o-ge9.true, ← c.along-2.ensures) c.check_expr-second.ensures.past

pub returns-clause-said : goal.returns-clause-said
returns-clause-said t c =
    rw (errors_two _ _ _ _ _ c.if-depth-eq0.false c.if-p-at.false _ (c.byte_at-o.ensures.0) c.if-o-lt4.false c.if-o-ge9.false, ← c.along-2.ensures, ← c.check_expr-second.ensures.past)
    (puts_then error_field c.check_expr-second.ensures.said c.check_expr.ensures.said)

pub returns-clause-past : goal.returns-clause-past
returns-clause-past t c =
    rw (past_two c.args.t.now c.args.stmt _ _ _ c.if-depth-eq0.false c.if-p-at.false _ (c.byte_at-o.ensures.0) c.if-o-lt4.false c.if-o-ge9.false, ← c.along-2.ensures, ← c.check_expr-second.ensures.past)
    c.check_expr.ensures.past
