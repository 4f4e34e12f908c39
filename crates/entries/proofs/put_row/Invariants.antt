use Rattle.std.proofs.Common.{take}
use Rattle.rules.specs.Run.{bits_bytes}
use Rattle.output.specs.Writers.{Writes}
use Rattle.entries.proofs.put_row.Given as goal

abbrev pub invariant-loop-bit : goal.invariant-loop-bit
invariant-loop-bit l = Writes l.initial.w (bits_bytes (take l.bit-index l.bits)) l.w
