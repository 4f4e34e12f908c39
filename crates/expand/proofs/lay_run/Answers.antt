use native.Mathlib.Omega.{arith}
use Rattle.expand.proofs.Exits.{lay_room, lay_done}
use Rattle.expand.proofs.lay_run.Goals as goal

pub returns-then-out-bytes : goal.returns-then-out-bytes
returns-then-out-bytes c = lay_room c.args.program _ _ c.fill_starts.ensures _ _ _ _ _ c.write-items.ensures c.if-out-bytes.true

pub returns : goal.returns
returns c = lay_done c.args.program _ _ c.fill_starts.ensures _ _ _ _ _ c.write-items.ensures c.if-out-bytes.false (omega (arith, c.well_formed)) _ _ c.write-items-2.ensures
