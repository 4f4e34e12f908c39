-- Sizes and counts by tables: what the code works out, for any words in the tables and any bytes.
use Rattle.std.specs.Prelude.{false, List, [], ◌∷◌, map, ℕ, ◌+◌, ◌*◌, min, eqb, get_or, set, Option, Some, None}
use Rattle.rules.specs.Basics.{pick}
use Rattle.rules.specs.Reading.{is_stmt, load_at}
use Rattle.rules.specs.Syntax.{Stmt, u, cx, measure, reset, barrier, call, if, missing}
use Rattle.rules.specs.Grouping.{stmts}
use Rattle.rules.specs.Checking.{Asked, quantum, classic, assert_reg}
use Rattle.rules.specs.Run.{size_only, common}
use Rattle.theorems.specs.Count.{sum, call_count, at}
use Rattle.views.specs.View.{next_in, rest, stmt_in}
use Rattle.tables.specs.Tables.{gate_in, reg_in}

abbrev pub or_one : Option ℕ → ℕ
or_one None = 1
or_one (Some n) = n

-- The size of an operand, and 1 where the table has none. In a body every operand's is 1, so that the empty table serves there.
unfoldable pub size_in : (regs : List ℕ) → Asked → ℕ
size_in regs q = or_one (size_only (assert_reg (reg_in regs) 0 q))

unfoldable pub sizes_in : (regs : List ℕ) → List Asked → List ℕ
sizes_in regs [] = []
sizes_in regs (q ∷ qs) = size_in regs q ∷ sizes_in regs qs

-- how many entries a statement yields
unfoldable pub stmt_sum : (gates regs : List ℕ) → (t : ℕ → ℕ) → Stmt → ℕ
stmt_sum gates regs t (u sp o x y z) = common (sizes_in regs (quantum o ∷ []))
stmt_sum gates regs t (cx sp x y) = common (sizes_in regs (quantum x ∷ quantum y ∷ []))
stmt_sum gates regs t (measure sp x y) = common (sizes_in regs (quantum x ∷ classic y ∷ []))
stmt_sum gates regs t (reset sp o) = common (sizes_in regs (quantum o ∷ []))
stmt_sum gates regs t (barrier sp os) = sum (sizes_in regs (map quantum os)) + 1
stmt_sum gates regs t (call sp ns x es os) = common (sizes_in regs (map quantum os)) * call_count (gate_in gates x) t
stmt_sum gates regs t (if sp o vs v s) = stmt_sum gates regs t s + 2
stmt_sum gates regs t missing = 0

unfoldable pub stmts_sum : (gates regs : List ℕ) → (t : ℕ → ℕ) → List Stmt → ℕ
stmts_sum gates regs t [] = 0
stmts_sum gates regs t (s ∷ ss) = stmt_sum gates regs t s + stmts_sum gates regs t ss

-- what the field with a tag and a payload adds: an IF its two, besides what the field after it adds
unfoldable pub field_sum : (gates regs : List ℕ) → (t : ℕ → ℕ) → (tag : ℕ) → List ℕ → ℕ
field_sum gates regs t tag p = pick (eqb tag 22) 2 (pick (is_stmt tag) (stmt_sum gates regs t (stmt_in tag p)) 0)

-- one run of the gate whose field stands at a place
unfoldable pub gate_sum : (img gates : List ℕ) → (t : ℕ → ℕ) → (place : ℕ) → ℕ
gate_sum img gates t place = pick (eqb (get_or (load_at img place) 10 0) 1) (stmts_sum gates [] t (stmts false (rest img (next_in img place)))) 1

-- a pass over a list of gates, which stand at the places
unfoldable pub sum_fill : (img gates places l t : List ℕ) → List ℕ
sum_fill img gates places [] t = t
sum_fill img gates places (g ∷ l) t = sum_fill img gates places l (set t g (min 4097 (gate_sum img gates (at t) (get_or places g 0))))
