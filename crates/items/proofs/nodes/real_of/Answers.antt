use borrow.Author.Rules.{rules}
use borrow.Author.Tests.{lt-ltb, le-ltb}
use mathlib.Core.Path.{sym, subst, ◌∙◌}
use mathlib.Core.Bool.{Bool, not}
use lib.Dec.{T}
use lib.Ieee.{of_bits, binary32}
use lib.Ieee.Bits.{nan_bits_above, nan_bits_is}
use Rattle.items.proofs.NodeLaws.{the_nan}
use Rattle.items.proofs.nodes.real_of.Goals as goal

pub returns-then-bits-gt2139095040 : goal.returns-then-bits-gt2139095040
unfolding lib.Ieee.div of_bits
returns-then-bits-gt2139095040 c =
    the_nan _ (sym (nan_bits_is binary32 c.args.bits) ∙ nan_bits_above binary32 c.args.bits ∙ lt-ltb _ _ c.if-bits-gt2139095040.true)

pub float_from_bits-result : goal.float_from_bits-result
unfolding lib.Ieee.div of_bits
float_from_bits-result c =
    subst (λ (b : Bool). T (not b)) (sym (nan_bits_above binary32 c.args.bits ∙ le-ltb _ _ c.if-bits-gt2139095040.false)) tt

pub returns : goal.returns
unfolding lib.Ieee.div of_bits
returns c = search rules
