use Rattle.std.proofs.Common.{take}
use Rattle.output.specs.Bytes.{Wrote}
use Rattle.output.proofs.Writer.put.Given as goal

abbrev pub invariant-loop-b : goal.invariant-loop-b
invariant-loop-b l = Wrote l.initial.out l.initial.at (take l.b-index l.bytes) l.out l.at
