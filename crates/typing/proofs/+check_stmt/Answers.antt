use mathlib.Core.Path.{sym, ◌∙◌}
use mathlib.Core.List.{append-nil}
use lib.ListN.{length}
use Prim.Native.Nat.{◌≤◌}
use native.Mathlib.Omega.{arith}
use Rattle.rules.specs.Errors.{error_field}
use Rattle.rules.specs.Checking.{operand_errors, stmt_errors}
use Rattle.views.specs.Steps.{if_stmt}
use Rattle.output.specs.Writers.{puts_then}
use Rattle.tables.specs.Tables.{scope_in}
use Rattle.typing.proofs.Statements.{done_laws}
use Rattle.typing.proofs.+check_stmt.Goals as goal

pub returns-then-img-at : goal.returns-then-img-at
returns-then-img-at t c = search done_laws

pub returns-then-tag-eq22 : goal.returns-then-tag-eq22
unfolding stmt_errors scope_in operand_errors
returns-then-tag-eq22 t c =
    let q = if_stmt c.args.img.now c.args.at c.byte_at-tag.result c.next-behind.result c.load-p.result.now c.if-img-at.false c.byte_at-tag.ensures.0 c.load-p.ensures c.next-behind.ensures c.if-tag-eq22.true in
    let d = c.check_stmt-after.ensures in
    let k : c.next-behind.result ≤ length c.args.img.now = omega (arith, c.next-behind.ensures) in
    record {
      said = rw (q.0, ← c.four_at-span.ensures.0, ← c.operand-o.ensures, ← c.four_at.ensures.0, ← c.eight_at.ensures, append-nil) (puts_then error_field c.assert_reg.ensures (puts_then error_field d.said c.assert_scalar_size.ensures));
      left = d.left ∙ sym q.1;
      inside = d.inside;
      on = λ l. omega (arith, d.on k, c.next-behind.ensures);
      past = λ l p. omega (arith, d.on k, c.next-behind.ensures);
    }

pub returns-then-is_stmt : goal.returns-then-is_stmt
returns-then-is_stmt t c = search done_laws

pub returns : goal.returns
returns t c = search done_laws
