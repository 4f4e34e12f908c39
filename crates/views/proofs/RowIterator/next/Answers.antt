use native.Mathlib.Omega.{arith}
use Rattle.views.specs.Rows.{row_more, row_none}
use Rattle.views.proofs.RowIterator.next.Goals as goal

pub returns-then-self-eq0-clause-steps : goal.returns-then-self-eq0-clause-steps
returns-then-self-eq0-clause-steps g c =
    let r = c.args.self.now in
    let none = row_none g.T.Item.reads g.T.Item.WIDTH g.T.Item.ends r.left r.bytes.now r.at (omega arith) in
    (none, none)

pub returns-clause-steps : goal.returns-clause-steps
returns-clause-steps g c =
    let r = c.args.self.now in
    rw (c.read-item.ensures, c.along-self.ensures, c.WIDTH.ensures) (row_more g.T.Item.reads g.T.Item.WIDTH g.T.Item.ends r.left r.bytes.now r.at (omega arith))
