-- What the listing of a program's gates leaves.
use Rattle.std.specs.Prelude.{◌≡◌, List, [], ℕ, ◌%◌, ◌≤◌, length}
use Rattle.std.proofs.Common.{arith}
use Rattle.rules.specs.Syntax.{Program}
use Rattle.rules.specs.Grouping.{program, read}
use Rattle.rules.specs.Checking.{gates_of, header}
use Rattle.rules.specs.Calls.{errors}
use Rattle.rules.specs.Order.{order_of}
use Rattle.tables.specs.Tables.{gate_in}
use Rattle.graph.specs.Rows.{listed}
use Rattle.checks.specs.Served.{nil_of}
use Rattle.orders.specs.declared.Ready.{Ready}

-- one byte of a number
abbrev pub low : ℕ → ℕ
low g = g % 256

-- of an image that is read: the number of its errors, its gates by name, and its gates in order
pub record Readied (img : List ℕ) (r : Ready) : Type 0 where
  pub errors' : (p : Program) → read img ≡ program p → r.errors ≡ length (errors p)
  pub heads' : (p : Program) → read img ≡ program p → (x : ℕ) → header (gates_of p) x ≡ gate_in r.heads x
  pub order' : (p : Program) → read img ≡ program p → listed r.order ≡ order_of p

-- no errors counted: there are none
pub sound : (img : List ℕ) (r : Ready) → Readied img r → r.errors ≤ 0 → (p : Program) → read img ≡ program p → errors p ≡ []
sound img r w z p e = nil_of (errors p) (omega (arith, w.errors' p e))
