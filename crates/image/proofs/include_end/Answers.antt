use Rattle.std.proofs.Common.{refl, ap, ◌∙◌}
use Rattle.rules.specs.Items.{end}
use Rattle.rules.specs.Reading.{include_field}
use Rattle.items.specs.Ends.{read_laws, end_got, end_last}
use Rattle.image.proofs.include_end.Goals as goal

pub returns-in_err-at : goal.returns-in_err-at
unfolding include_field
returns-in_err-at c = search (read_laws, c.in_err-at.was)

pub returns : goal.returns
unfolding include_field
returns c = end_got _ _ _ c.span_at.ensures _ _ c.in_ok-at.was (end_last _ _ (λ v m. refl) _ (c.past.ensures ∙ ap end c.name_at.ensures))
