use Rattle.collect.proofs.Names.{zero_told, some_told}
use Rattle.collect.proofs.tell_register.Goals.{then-size_of-eq0, else-size_of-eq0}
use Rattle.collect.proofs.tell_register.Goals as goal

pub returns : goal.returns
returns c = elim c.if-size_of-eq0.branch [
  | then-size_of-eq0 w ↦ zero_told _ _ c.find_reg.ensures _ _ _ c.size_of.ensures _ _ _ (rw w.w-is at c.tell_again.ensures) w.if-size_of-eq0.true w.zero_size_register.ensures
  | else-size_of-eq0 w ↦ some_told _ _ c.find_reg.ensures _ _ _ c.size_of.ensures _ _ _ c.tell_again.ensures w.if-size_of-eq0.false w.w-is
]
