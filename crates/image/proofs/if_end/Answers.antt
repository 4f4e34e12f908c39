use Rattle.std.proofs.Common.{refl, ap, ◌∙◌}
use Rattle.rules.specs.Items.{end}
use Rattle.rules.specs.Reading.{if_field}
use Rattle.items.specs.Ends.{read_laws, end_got, ends_got, end_last}
use Rattle.image.proofs.if_end.Goals as goal

pub returns-in_err-at : goal.returns-in_err-at
unfolding if_field
returns-in_err-at c = search (read_laws, c.in_err-at.was)

pub returns-in_err-at-2 : goal.returns-in_err-at-2
unfolding if_field
returns-in_err-at-2 c = search (read_laws, c.in_ok-at.was, c.in_err-at-2.was)

pub returns-in_err-at-3 : goal.returns-in_err-at-3
unfolding if_field
returns-in_err-at-3 c = search (read_laws, c.in_ok-at.was, c.in_ok-at-2.was, c.in_err-at-3.was)

pub returns : goal.returns
unfolding if_field
returns c =
    end_got _ _ _ c.span_at.ensures _ _ c.in_ok-at.was
    (ends_got _ _ _ c.operand_end.ensures _ _ c.in_ok-at-2.was (λ o.
    end_got _ _ _ c.span_at-2.ensures _ _ c.in_ok-at-3.was (end_last _ _ (λ v m. refl) _ (c.past.ensures ∙ ap end c.eight.ensures))))
