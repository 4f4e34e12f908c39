-- The calls of a program, and the recursion errors: the last part of the error list.
use Rattle.std.specs.Prelude.{ℕ, List, [], ◌∷◌, ◌++◌, map, Bool, false, ◌&&◌, ◌||◌, length, eqb, Option, Some, None}
use Rattle.rules.specs.Basics.{pick}
use Rattle.rules.specs.Syntax.{Stmt, u, cx, measure, reset, barrier, call, if, missing, Gate, Decl, include, reg, gate, top, Program}
use Rattle.rules.specs.Errors.{Error, recursive_definition}
use Rattle.rules.specs.Graph.{leaders, cycle}
use Rattle.rules.specs.Checking.{gate_at, number_of, is_gate, gates_of, local_errors}

-- ---- the calls

-- by which gate, of which gate, and the span of the CALL
pub record Call : Type 0 where
  pub from : ℕ
  pub to : ℕ
  pub span : ℕ

-- 01: "A call to a declared gate counts in the graph even when arity is wrong."
unfoldable pub stmt_calls : List Gate → (from : ℕ) → Stmt → List Call
stmt_calls gs g (u sp o x y z) = []
stmt_calls gs g (cx sp x y) = []
stmt_calls gs g (measure sp x y) = []
stmt_calls gs g (reset sp o) = []
stmt_calls gs g (barrier sp os) = []
stmt_calls gs g (call sp ns x es os) = pick (is_gate gs x) (record { from = g; to = number_of gs x; span = sp } ∷ []) []
stmt_calls gs g (if sp o vs v s) = stmt_calls gs g s
stmt_calls gs g missing = []

unfoldable pub stmts_calls : List Gate → (from : ℕ) → List Stmt → List Call
stmts_calls gs g [] = []
stmts_calls gs g (s ∷ ss) = stmt_calls gs g s ++ stmts_calls gs g ss

abbrev pub body_calls : List Gate → (from : ℕ) → Option (List Stmt) → List Call
body_calls gs g None = []
body_calls gs g (Some ss) = stmts_calls gs g ss

-- in image order. 01: of a redefined gate, "its calls count as the first entry's"
unfoldable pub decl_calls : List Gate → List Decl → List Call
decl_calls gs [] = []
decl_calls gs (include sp x ∷ ds) = decl_calls gs ds
decl_calls gs (reg c d o ∷ ds) = decl_calls gs ds
decl_calls gs (gate g ∷ ds) = body_calls gs (number_of gs g.name) g.body ++ decl_calls gs ds
decl_calls gs (top s ∷ ds) = decl_calls gs ds

unfoldable pub calls_of : Program → List Call
calls_of p = decl_calls (gates_of p) p.decls

abbrev pub between : Call → ℕ → ℕ → Bool
between c g h = eqb c.from g && eqb c.to h

unfoldable pub edge : List Call → ℕ → ℕ → Bool
edge [] g h = false
edge (c ∷ cs) g h = between c g h || edge cs g h

-- ---- the recursion errors

-- the span of the earliest call of h by g
unfoldable pub earliest : List Call → ℕ → ℕ → ℕ
earliest [] g h = 0
earliest (c ∷ cs) g h = pick (between c g h) c.span (earliest cs g h)

-- 01: "Each pair is the definition span of the gate reached and the span of the earliest call, in image order, from the gate before."
unfoldable pub pairs : List Gate → List Call → ℕ → List ℕ → List (ℕ × ℕ)
pairs gs cs g [] = []
pairs gs cs g (h ∷ hs) = ((gate_at gs h).decl, earliest cs g h) ∷ pairs gs cs h hs

unfoldable pub group_error : List Gate → List Call → ℕ → Error
group_error gs cs g = recursive_definition (pairs gs cs g (cycle (length gs) (edge cs) g))

unfoldable pub recursion_errors : List Gate → List Call → List Error
recursion_errors gs cs = map (group_error gs cs) (leaders (length gs) (edge cs))

-- 01: "Order: gate headers; register declarations; top-level statements; bodies in declaration order; recursion."
unfoldable pub errors : Program → List Error
errors p = local_errors p ++ recursion_errors (gates_of p) (calls_of p)
