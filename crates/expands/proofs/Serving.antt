-- From the tables of a program without errors to the answer of 01's table.
use mathlib.Core.Path.{◌≡◌, refl, sym, ap, ◌∙◌}
use mathlib.Core.List.{List}
use mathlib.Core.Bool.{false}
use Prim.Native.Nat.{ℕ, ◌≤◌, ◌<◌}
use native.Mathlib.Omega.{arith}
use borrow.Author.Tests.{ne_eqb}
use lib.ListN.{length}
use lib.Dec.{eqb}
use Rattle.rules.specs.declared.Answer.{Answer}
use Rattle.rules.specs.declared.Answer.TheVariants.{Rejected}
use Rattle.rules.specs.Syntax.{Program}
use Rattle.rules.specs.Grouping.{group, program, read}
use Rattle.rules.specs.Checking.{latest, registers}
use Rattle.rules.specs.Calls.{errors}
use Rattle.rules.specs.Order.{order_of}
use Rattle.rules.specs.Answers.{Result, expand_read}
use Rattle.theorems.specs.Promises.{order_callees_first}
use Rattle.views.specs.View.{program_in}
use Rattle.views.specs.Bridge.{bridge}
use Rattle.views.specs.Limits.{gates_few}
use Rattle.tables.specs.Tables.{reg_in}
use Rattle.output.specs.declared.Writer.{Writer}
use Rattle.graph.specs.Rows.{listed}
use Rattle.collect.specs.declared.Regs.{Regs}
use Rattle.collect.specs.Collected.{RegsDone}
use Rattle.checks.specs.Served.{Serves}
use Rattle.orders.specs.declared.Ready.{Ready}
use Rattle.orders.specs.Listing.{Readied, sound}
use Rattle.expand.specs.Expanding.{Of, Answers}

module _ (img o : List ℕ) (r : Ready) (w : Readied img r) where
  pub rejected : 0 < r.errors → Serves expand_read img o o Rejected
  unfolding expand_read
  rejected h = record {
    gives = λ p e.
        let m : eqb (length (errors p)) 0 ≡ false = ne_eqb (length (errors p)) 0 (λ (q : length (errors p) ≡ 0). omega (arith, w.errors' p e)) in
        record { answer = rw m refl; buffer = rw m refl };
  }

  module _ (z : r.errors ≤ 0) (w₀ w₁ : Writer) (t : Regs) (d : RegsDone img w₀ w₁ t) (row : List ℕ) (er : row ≡ listed r.order) where
    regs_are : (p : Program) → read img ≡ program p → (x : ℕ) → latest (registers p.decls) x ≡ reg_in t.rows x
    unfolding program_in group
    regs_are p e x = ap (λ (q : Program). latest (registers q.decls) x) (bridge img p e) ∙ d.finds.finds x

    of : (p : Program) → read img ≡ program p → Of img r.heads t.rows row p
    of p e =
        let clear = sound img r w z p e in
        let same : row ≡ order_of p = er ∙ w.order' p e in
        let long : length row ≡ length (order_of p) = ap length same in
        record {
          reads = e;
          clear = clear;
          gates' = w.heads' p e;
          regs' = regs_are p e;
          order' = same;
          room = omega (arith, long, (order_callees_first p clear).count, gates_few img p e);
        }

    pub run_laid : (a : Answer) (o' : List ℕ) → Answers img r.heads t.rows row o a o' → Serves expand_read img o o' a
    run_laid a o' k = record {
      gives = λ p e.
          let q = k p (of p e) in
          record { answer = sym (ap (λ (x : Result). x.answer) q); buffer = sym (ap (λ (x : Result). x.buffer) q) };
    }
