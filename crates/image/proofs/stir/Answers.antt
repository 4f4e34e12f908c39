use borrow.Author.Rules.{rules}
use mathlib.Core.Path.{refl}
use Rattle.image.specs.Table.{stirred}
use Rattle.image.proofs.stir.Goals as goal

pub overflow_mul-result : goal.overflow_mul-result
unfolding stirred
overflow_mul-result c = search rules

pub overflow_add-result : goal.overflow_add-result
unfolding stirred
overflow_add-result c = search rules

pub returns : goal.returns
unfolding stirred
returns c = (refl, search rules)
