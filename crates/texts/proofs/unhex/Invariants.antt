use Rattle.std.proofs.Common.{◌≡◌, ◌+◌, ◌-◌, ◌*◌, length}
use Rattle.texts.specs.Text.{hex_in}
use Rattle.texts.proofs.Laws.{Owes}
use Rattle.texts.proofs.unhex.Given as goal

abbrev pub invariant-loop-k : goal.invariant-loop-k
invariant-loop-k l = record {
  long : length l.out ≡ length l.initial.out;
  owes : Owes l.initial.out l.n (hex_in (l.to - l.from) l.s l.from) l.out l.m (hex_in (l.to - (l.from + 2 * l.k)) l.s (l.from + 2 * l.k));
}
