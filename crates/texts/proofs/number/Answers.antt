use Rattle.std.proofs.Common.{rules, refl, ◌-◌, ◌∙◌, get_or}
use Rattle.std.proofs.lemmas.Iterator.{YieldsList-from_range}
use Rattle.std.proofs.lemmas.Iterator.Consumers.{fold_from_yields_List}
use Rattle.texts.specs.Text.{push}
use Rattle.texts.proofs.Laws.{number_is_fold}
use Rattle.texts.proofs.number.Goals as goal

pub returns : goal.returns
returns c =
    let s = c.args.s.now in
    let from = c.args.from in
    let long = c.args.to - from in
    fold_from_yields_List _ (λ n i. push n (get_or s i 0)) 0 c.fold.result c.fold.ensures.ran (YieldsList-from_range from c.args.to long refl refl) (λ a x b q k. search rules)
    ∙ number_is_fold s long from 0
