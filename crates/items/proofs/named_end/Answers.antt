use Rattle.std.proofs.Common.{◌∙◌, refl, ap}
use Rattle.items.specs.Ends.{end_got, end_last, read_laws}
use Rattle.rules.specs.Items.{named, end}
use Rattle.items.proofs.named_end.Goals as goal

pub returns-in_err-at : goal.returns-in_err-at
unfolding named
returns-in_err-at c = search (read_laws, c.in_err-at.was)

pub returns : goal.returns
unfolding named
returns c = end_got _ _ _ c.span_at.ensures _ _ c.in_ok-at.was (end_last _ _ (λ v m. refl) _ (c.past.ensures ∙ ap end c.name_at.ensures))
