-- How many entries a run writes, worked out without running it: `t c` is the number of entries of one run of gate c.
use Rattle.rules.specs.declared.Header.{Header}
use Rattle.std.specs.Prelude.{◌≡◌, List, [], ◌∷◌, map, ℕ, zero, suc, ◌+◌, ◌*◌, ◌<◌, min, length, get_or, set, Option, Some, None}
use Rattle.rules.specs.Syntax.{Stmt, u, cx, measure, reset, barrier, call, if, missing, Gate, Program}
use Rattle.rules.specs.Checking.{gate_at, gates_of, Scope, top_scope, body_scope, quantum, classic}
use Rattle.rules.specs.Run.{sizes, common, tops}

-- ---- the count, by a table of the gates' counts

-- 01: "Any other statement runs once if all operands have size 1, else for j from 0 below the common size"
abbrev pub times : Option (List ℕ) → ℕ
times None = 0
times (Some ns) = common ns

unfoldable pub sum : List ℕ → ℕ
sum [] = 0
sum (n ∷ ns) = n + sum ns

-- 01: "36 one barrier qubit each, .. then 37 empty"
abbrev pub barrier_count : Option (List ℕ) → ℕ
barrier_count None = 0
barrier_count (Some ns) = sum ns + 1

-- one call of what is known of a name
abbrev pub call_count : Option Header → (t : ℕ → ℕ) → ℕ
call_count None t = 0
call_count (Some h) t = t h.number

-- 01: "39 IF .., then the governed entries, then 40 empty"; "A call to a gate with a body runs the body once for each j."
unfoldable pub stmt_count : Scope → (t : ℕ → ℕ) → Stmt → ℕ
stmt_count C t (u sp o x y z) = times (sizes C (quantum o ∷ []))
stmt_count C t (cx sp x y) = times (sizes C (quantum x ∷ quantum y ∷ []))
stmt_count C t (measure sp x y) = times (sizes C (quantum x ∷ classic y ∷ []))
stmt_count C t (reset sp o) = times (sizes C (quantum o ∷ []))
stmt_count C t (barrier sp os) = barrier_count (sizes C (map quantum os))
stmt_count C t (call sp ns x es os) = times (sizes C (map quantum os)) * call_count (C.gates x) t
stmt_count C t (if sp o vs v s) = stmt_count C t s + 2
stmt_count C t missing = 0

unfoldable pub stmts_count : Scope → (t : ℕ → ℕ) → List Stmt → ℕ
stmts_count C t [] = 0
stmts_count C t (s ∷ ss) = stmt_count C t s + stmts_count C t ss

-- 01: "38 opaque call: name, qubits"
abbrev pub body_count : List Gate → (t : ℕ → ℕ) → Gate → Option (List Stmt) → ℕ
body_count gs t g None = 1
body_count gs t g (Some ss) = stmts_count (body_scope gs g) t ss

-- one run of gate g
unfoldable pub gate_count : List Gate → (t : ℕ → ℕ) → (g : ℕ) → ℕ
gate_count gs t g = body_count gs t (gate_at gs g) (gate_at gs g).body

unfoldable pub program_count : Program → (t : ℕ → ℕ) → ℕ
program_count p t = stmts_count (top_scope (gates_of p) p.decls) t (tops p.decls)

-- ---- tables

-- the counts of the gates with an allowed call depth
unfoldable pub counts : List Gate → (depth : ℕ) → ℕ → ℕ
counts gs zero g = 0
counts gs (suc d) g = gate_count gs (counts gs d) g

-- t holds for each gate of the program what its body adds up to by t itself, no further than to cap
abbrev pub Solves : (cap : ℕ) → Program → (ℕ → ℕ) → Type 0
Solves cap p t = (g : ℕ) → g < length (gates_of p) → t g ≡ min cap (gate_count (gates_of p) t g)

-- a list as a table
abbrev pub at : List ℕ → ℕ → ℕ
at t g = get_or t g 0

-- one pass over a list of gates: each one's place gets what its body adds up to by the table so far, no further than to cap
unfoldable pub fill : List Gate → (cap : ℕ) → (l t : List ℕ) → List ℕ
fill gs cap [] t = t
fill gs cap (g ∷ l) t = fill gs cap l (set t g (min cap (gate_count gs (at t) g)))
