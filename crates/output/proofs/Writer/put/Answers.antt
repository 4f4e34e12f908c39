use Rattle.std.proofs.lemmas.List.{take_more}
use Rattle.output.specs.Bytes.{wrote_then}
use Rattle.output.proofs.Writer.put.Goals as goal

pub loop-b-preserved : goal.loop-b-preserved
loop-b-preserved c =
    rw (take_more c.args.bytes.now c.loop-b.b-index 0 c.loop-b-test.true) (wrote_then c.loop-b.invariant c.put1-at.ensures)
