use Rattle.std.proofs.Common.{rules, ◌∙◌, refl, ap}
use Rattle.items.specs.Ends.{end_last}
use Rattle.items.proofs.Laws.{leaf_var}
use Rattle.rules.specs.Items.{leaf, end}
use Rattle.items.proofs.leaf_end.Goals as goal

pub returns-in-0 : goal.returns-in-0
unfolding leaf
returns-in-0 c = rw c.in-0.is refl

pub returns-in-1 : goal.returns-in-1
unfolding leaf
returns-in-1 c = rw c.in-1.is (end_last _ _ (λ v m. refl) _ (c.past.ensures ∙ ap end c.four.ensures))

pub returns-in-2 : goal.returns-in-2
unfolding leaf
returns-in-2 c = rw c.in-2.is (end_last _ _ (λ v m. refl) _ (c.past-in-2.ensures ∙ ap end c.eight.ensures))

pub returns-in_default : goal.returns-in_default
returns-in_default c = leaf_var _ _ _ _ _ _ c.past-in_default.ensures c.name_at.ensures (search rules) (search rules) (search rules)
