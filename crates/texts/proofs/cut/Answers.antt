use Rattle.std.proofs.Common.{arith, ◌+◌, ◌≤◌, ◌∙◌, sym, ap, take, drop, length, eqb}
use Rattle.std.proofs.lemmas.List.{take_all, drop_all, length-drop}
use Rattle.std.specs.List.{position_or_len}
use Rattle.texts.proofs.Laws.{found_is, none_is}
use Rattle.texts.proofs.cut.Goals as goal

pub returns-in-Some-clause-before : goal.returns-in-Some-clause-before
returns-in-Some-clause-before c = ap (λ i. take i c.args.s.now) (found_is _ _ _ (sym c.place.ensures ∙ c.in-Some.is))

pub returns-in-Some-clause-behind : goal.returns-in-Some-clause-behind
returns-in-Some-clause-behind c =
    take_all _ _ (omega (arith, length-drop (c.in-Some.i + 1) c.args.s.now))
    ∙ ap (λ i. drop (i + 1) c.args.s.now) (found_is _ _ _ (sym c.place.ensures ∙ c.in-Some.is))

pub returns-in-None-clause-before : goal.returns-in-None-clause-before
returns-in-None-clause-before c = sym (take_all _ _ (none_is _ _ (sym c.place.ensures ∙ c.in-None.is)))

pub returns-in-None-clause-behind : goal.returns-in-None-clause-behind
returns-in-None-clause-behind c =
    let far : length c.args.s.now ≤ position_or_len (λ x. eqb x c.args.b) c.args.s.now = none_is _ _ (sym c.place.ensures ∙ c.in-None.is) in
    let wide : length c.args.s.now ≤ position_or_len (λ x. eqb x c.args.b) c.args.s.now + 1 = omega arith in
    sym (drop_all _ _ wide)
