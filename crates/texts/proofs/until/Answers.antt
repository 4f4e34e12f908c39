use Rattle.std.proofs.Common.{rules, tests, arith, ◌≡◌, ◌-◌, ◌∙◌, sym, ap, refl, get_or, eqb}
use Rattle.std.proofs.lemmas.Iterator.{YieldsList-from_range}
use Rattle.std.proofs.lemmas.Iterator.Search.{find_from_yields_List}
use Rattle.std.specs.List.{find, range_with_len}
use Rattle.std.specs.Option.{unwrap_or}
use Rattle.texts.specs.Text.{place_of}
use Rattle.texts.proofs.Laws.{first_in_range, first_from-ge, itself}
use Rattle.texts.proofs.until.Goals as goal

pub returns : goal.returns
returns c =
    let s = c.args.s.now in
    let from = c.args.from in
    let long = c.args.to - from in
    let found : c.find.result ≡ find (λ i. eqb (get_or s i 0) c.args.b) (range_with_len from long) =
    sym (itself c.find.result)
    ∙ find_from_yields_List (λ i. eqb (get_or s i 0) c.args.b) _ _ c.find.result c.find.ensures.ran (YieldsList-from_range from c.args.to long refl refl) (λ x b q k. search (rules, tests))
    in
    let place : c.unwrap_or.result ≡ place_of s c.args.b long from =
    c.unwrap_or.ensures
    ∙ ap (λ r. unwrap_or r c.max.result) found
    ∙ first_in_range (λ i. eqb (get_or s i 0) c.args.b) long from c.max.result (omega arith)
    in
    (place, omega (arith, first_from-ge (λ i. eqb (get_or s i 0) c.args.b) long from))
