-- The error list up to recursion. Each rule of 01's 'The error list' is a definition of its own; the names are those of typing.rs.
use Rattle.std.specs.Prelude.{ℕ, ◌^◌, List, [], ◌∷◌, ◌++◌, map, Bool, true, false, not, ◌&&◌, ◌||◌, length, get_or, ltb, leb, eqb, Option, Some, None}
use Rattle.std.specs.Bool.{beq}
use Rattle.rules.specs.declared.Operand.{Operand}
use Rattle.rules.specs.declared.Header.{Header}
use Rattle.rules.specs.declared.Match.{Match}
use Rattle.rules.specs.declared.Reg.{Reg}
use Rattle.rules.specs.Basics.{pick, first}
use Rattle.rules.specs.declared.Named.{Named}
use Rattle.rules.specs.Syntax.{Expr, pi, real, int, var, two, one, Stmt, u, cx, measure, reset, barrier, call, if, missing, Gate, Decl, include, reg, gate, top, Program}
use Rattle.rules.specs.Errors.{Error, redefined_gate, redefined_argument, redefined_parameter, zero_size_register, redefined_register, undefined_parameter, invalid_comparison_size, wrong_argument_arity, wrong_parameter_arity, undefined_gate, wrong_operand_size, invalid_register_index, wrong_register_type, undefined_register}

-- ---- gates. 01: "gates are numbered by first entries"

abbrev pub no_gate : Gate
no_gate = record { decl = 0; span = 0; name = 0; params = []; args = []; body = None }

abbrev pub gate_at : List Gate → ℕ → Gate
gate_at gs i = get_or gs i no_gate

-- the number of the gate with this name, and the count of gates where there is none
unfoldable pub number_of : List Gate → ℕ → ℕ
number_of gs x = first (length gs) (λ i. eqb (gate_at gs i).name x)

unfoldable pub is_gate : List Gate → ℕ → Bool
is_gate gs x = ltb (number_of gs x) (length gs)

abbrev pub header_of : List Gate → ℕ → Header
header_of gs i = record { number = i; params = length (gate_at gs i).params; args = length (gate_at gs i).args; decl = (gate_at gs i).decl }

-- what is known of a gate by its name
unfoldable pub header : List Gate → ℕ → Option Header
header gs x = pick (is_gate gs x) (Some (header_of gs (number_of gs x))) None

-- g is entered unless its name is
unfoldable pub entered : List Gate → Gate → List Gate
entered gs g = pick (is_gate gs g.name) gs (gs ++ (g ∷ []))

-- the first entries, those in gs before the others
unfoldable pub entries : List Gate → List Decl → List Gate
entries gs [] = gs
entries gs (include sp x ∷ ds) = entries gs ds
entries gs (reg c d o ∷ ds) = entries gs ds
entries gs (gate g ∷ ds) = entries (entered gs g) ds
entries gs (top s ∷ ds) = entries gs ds

unfoldable pub gates_of : Program → List Gate
gates_of p = entries [] p.decls

-- ---- names

-- the latest row with this name
abbrev pub later : Option Reg → Option Reg → Option Reg
later (Some r) f = Some r
later None f = f

unfoldable pub latest : List Reg → ℕ → Option Reg
latest [] x = None
latest (r ∷ rs) x = later (latest rs x) (pick (eqb r.name x) (Some r) None)

-- 01: "Inside a body only arguments exist, quantum, size 1". "Definition spans: .. an argument's span."
abbrev pub argument : Named → Reg
argument a = record { name = a.name; span = a.span; classical = false; size = 1 }

-- 01: "index is the size; none means 1"; "Definition spans: .. a register's operand span"
abbrev pub size_of : Operand → ℕ
size_of o = pick o.indexed o.index 1

abbrev pub register : Bool → Operand → Reg
register c o = record { name = o.name; span = o.span; classical = c; size = size_of o }

-- the registers, in declaration order. 01: "Registers may stand after their use."
unfoldable pub registers : List Decl → List Reg
registers [] = []
registers (include sp x ∷ ds) = registers ds
registers (reg c d o ∷ ds) = register c o ∷ registers ds
registers (gate g ∷ ds) = registers ds
registers (top s ∷ ds) = registers ds

unfoldable pub is_param : List Named → ℕ → Bool
is_param [] x = false
is_param (p ∷ ps) x = eqb p.name x || is_param ps x

-- what names mean where a statement stands
pub record Scope : Type 0 where
  pub gates : ℕ → Option Header
  pub regs : ℕ → Option Reg
  pub params : ℕ → Bool

-- 01: "There are none at top level."
unfoldable pub top_scope : List Gate → List Decl → Scope
top_scope gs ds = record { gates = header gs; regs = latest (registers ds); params = λ x. false }

unfoldable pub body_scope : List Gate → Gate → Scope
body_scope gs g = record { gates = header gs; regs = latest (map argument g.args); params = is_param g.params }

-- ---- gate headers: collect_decls

abbrev pub repeated : (ℕ → ℕ → ℕ → ℕ → Error) → ℕ → Option Reg → Named → List Error
repeated kind decl None a = []
repeated kind decl (Some r) a = kind a.span a.name decl r.span ∷ []

-- 01: "Repeated arguments, then parameters: the previous span is that of the latest earlier one."
unfoldable pub repeats : (ℕ → ℕ → ℕ → ℕ → Error) → (decl : ℕ) → (seen : List Reg) → List Named → List Error
repeats kind decl seen [] = []
repeats kind decl seen (a ∷ l) = repeated kind decl (latest seen a.name) a ++ repeats kind decl (seen ++ (argument a ∷ [])) l

-- 01: "A gate name seen before: kind 1 with the first entry's span; its repeated names aren't reported"
abbrev pub header_errors : Option Header → Gate → List Error
header_errors (Some h) g = redefined_gate g.span g.name g.decl h.decl ∷ []
header_errors None g = repeats redefined_argument g.decl [] g.args ++ repeats redefined_parameter g.decl [] g.params

unfoldable pub decl_errors : (before : List Gate) → List Decl → List Error
decl_errors gs [] = []
decl_errors gs (include sp x ∷ ds) = decl_errors gs ds
decl_errors gs (reg c d o ∷ ds) = decl_errors gs ds
decl_errors gs (gate g ∷ ds) = header_errors (header gs g.name) g ++ decl_errors (entered gs g) ds
decl_errors gs (top s ∷ ds) = decl_errors gs ds

-- ---- registers: collect_regs

abbrev pub redeclared : Option Reg → Operand → ℕ → List Error
redeclared None o decl = []
redeclared (Some r) o decl = redefined_register o decl r.span ∷ []

-- 01: "Register: kind 5 for size 0, then kind 6 with the latest earlier one's operand span; the later one wins, size 0 included."
unfoldable pub register_errors : (before : List Reg) → (decl : ℕ) → Operand → List Error
register_errors rs decl o =
    pick (eqb (size_of o) 0) (zero_size_register o.span decl ∷ []) [] ++ redeclared (latest rs o.name) o decl

unfoldable pub reg_errors : (before : List Reg) → List Decl → List Error
reg_errors rs [] = []
reg_errors rs (include sp x ∷ ds) = reg_errors rs ds
reg_errors rs (reg c d o ∷ ds) = register_errors rs d o ++ reg_errors (rs ++ (register c o ∷ [])) ds
reg_errors rs (gate g ∷ ds) = reg_errors rs ds
reg_errors rs (top s ∷ ds) = reg_errors rs ds

-- ---- operands: assert_reg

-- 01: "MEASURE's second operand and IF's must be classical, all others quantum"
pub record Asked : Type 0 where
  pub classical : Bool
  pub operand : Operand

abbrev pub quantum : Operand → Asked
quantum o = record { classical = false; operand = o }

abbrev pub classic : Operand → Asked
classic o = record { classical = true; operand = o }

-- 01: "Indexed gives size 1. After an error it has no size."
pub data Sized : Type 0 where
  size : ℕ → Sized
  bad : Error → Sized

-- 01: "13 unless index < size"; "Indexed gives size 1."
abbrev pub index_size : Reg → (stmt : ℕ) → Operand → Sized
index_size r stmt o =
    pick o.indexed
    (pick (ltb o.index r.size) (size 1) (bad (invalid_register_index o.name o.index r.size o.span r.span stmt)))
    (size r.size)

-- 01: "Operand: kind 15, then 14, then 13 unless index < size."; "kind 14's bool is 1 where classical was wanted"
abbrev pub found_size : Option Reg → (stmt : ℕ) → Asked → Sized
found_size None stmt q = bad (undefined_register q.operand.name q.operand.span stmt)
found_size (Some r) stmt q =
    pick (beq r.classical q.classical) (index_size r stmt q.operand)
    (bad (wrong_register_type q.operand.name r.span stmt q.operand.span q.classical))

unfoldable pub assert_reg : (ℕ → Option Reg) → (stmt : ℕ) → Asked → Sized
assert_reg find stmt q = found_size (find q.operand.name) stmt q

abbrev pub sized_errors : Sized → List Error
sized_errors (size n) = []
sized_errors (bad e) = e ∷ []

unfoldable pub operand_errors : (ℕ → Option Reg) → (stmt : ℕ) → List Asked → List Error
operand_errors find stmt [] = []
operand_errors find stmt (q ∷ qs) = sized_errors (assert_reg find stmt q) ++ operand_errors find stmt qs

-- ---- matching: assert_match

-- what is fixed is a size and its span; size 1 where nothing is yet
abbrev pub unfixed : Match
unfixed = record { size = 1; span = 0 }

-- 01: "the first sized operand whose size isn't 1 fixes size and span; size 0 counts"
abbrev pub fixed : Match → Sized → ℕ → Match
fixed m (bad e) span = m
fixed m (size n) span = pick (eqb m.size 1) (record { size = n; span = span }) m

-- 01: "Later ones err (12) if over 1 and different."
abbrev pub differs : Match → (stmt : ℕ) → Sized → ℕ → List Error
differs m stmt (bad e) span = []
differs m stmt (size n) span =
    pick (ltb 1 n && not (eqb n m.size)) (wrong_operand_size stmt span n m.span m.size ∷ []) []

unfoldable pub match_errors : (ℕ → Option Reg) → (stmt : ℕ) → Match → List Asked → List Error
match_errors find stmt m [] = []
match_errors find stmt m (q ∷ qs) =
    let now = fixed m (assert_reg find stmt q) q.operand.span in
    differs now stmt (assert_reg find stmt q) q.operand.span ++ match_errors find stmt now qs

-- ---- expressions: check_expr. 01: "Var: kind 7 unless a parameter. There are none at top level."

unfoldable pub expr_errors : (ℕ → Bool) → (stmt : ℕ) → Expr → List Error
expr_errors param stmt (pi sp) = []
expr_errors param stmt (real sp v) = []
expr_errors param stmt (int sp v) = []
expr_errors param stmt (var sp x) = pick (param x) [] (undefined_parameter x stmt sp ∷ [])
expr_errors param stmt (two o sp x y) = expr_errors param stmt x ++ expr_errors param stmt y
expr_errors param stmt (one o sp x) = expr_errors param stmt x

unfoldable pub exprs_errors : (ℕ → Bool) → (stmt : ℕ) → List Expr → List Error
exprs_errors param stmt [] = []
exprs_errors param stmt (e ∷ es) = expr_errors param stmt e ++ exprs_errors param stmt es

-- ---- comparisons: assert_scalar_size

-- 01: "Its value size is the exponent of the least power of two not below the value, 64 if that is 2^64."
unfoldable pub value_size : ℕ → ℕ
value_size v = first 64 (λ e. leb v (2 ^ e))

-- 01: "kind 8 if the operand has a size s and value >= 2^s"
unfoldable pub compare_errors : Sized → (stmt : ℕ) → Operand → (value_span value : ℕ) → List Error
compare_errors (bad e) stmt o vs v = []
compare_errors (size n) stmt o vs v = pick (leb (2 ^ n) v) (invalid_comparison_size o.span vs stmt n (value_size v) ∷ []) []

-- ---- calls: assert_def, assert_len

-- 01: "CALL: kind 11, or 10 then 9"; "A CALL of that name is held to the first entry's counts and span."
abbrev pub len_errors : (arity actual : ℕ) → (ℕ → ℕ → Error) → List Error
len_errors arity actual kind = pick (eqb arity actual) [] (kind arity actual ∷ [])

abbrev pub arity_errors : Option Header → (stmt name_span name params args : ℕ) → List Error
arity_errors None stmt name_span name params args = undefined_gate name_span name stmt ∷ []
arity_errors (Some h) stmt name_span name params args =
    len_errors h.params params (wrong_parameter_arity stmt h.decl name) ++ len_errors h.args args (wrong_argument_arity stmt h.decl name)

-- ---- statements: check_stmt. 01: "U, RESET, BARRIER and IF don't match."

abbrev pub matched : (ℕ → Option Reg) → (stmt : ℕ) → List Asked → List Error
matched find stmt qs = operand_errors find stmt qs ++ match_errors find stmt unfixed qs

-- 01: "U: operand, then expressions. CALL: kind 11, or 10 then 9; then operands, matching, expressions."; "IF: operand, governed statement, then kind 8"
unfoldable pub stmt_errors : Scope → Stmt → List Error
stmt_errors C (u sp o x y z) = operand_errors C.regs sp (quantum o ∷ []) ++ exprs_errors C.params sp (x ∷ y ∷ z ∷ [])
stmt_errors C (cx sp x y) = matched C.regs sp (quantum x ∷ quantum y ∷ [])
stmt_errors C (measure sp x y) = matched C.regs sp (quantum x ∷ classic y ∷ [])
stmt_errors C (reset sp o) = operand_errors C.regs sp (quantum o ∷ [])
stmt_errors C (barrier sp os) = operand_errors C.regs sp (map quantum os)
stmt_errors C (call sp ns x es os) =
    arity_errors (C.gates x) sp ns x (length es) (length os) ++ (matched C.regs sp (map quantum os) ++ exprs_errors C.params sp es)
stmt_errors C (if sp o vs v s) =
    operand_errors C.regs sp (classic o ∷ []) ++ (stmt_errors C s ++ compare_errors (assert_reg C.regs sp (classic o)) sp o vs v)
stmt_errors C missing = []

unfoldable pub stmts_errors : Scope → List Stmt → List Error
stmts_errors C [] = []
stmts_errors C (s ∷ ss) = stmt_errors C s ++ stmts_errors C ss

-- ---- top-level statements, then bodies in declaration order: check_gates, check_defs

unfoldable pub top_errors : Scope → List Decl → List Error
top_errors C [] = []
top_errors C (include sp x ∷ ds) = top_errors C ds
top_errors C (reg c d o ∷ ds) = top_errors C ds
top_errors C (gate g ∷ ds) = top_errors C ds
top_errors C (top s ∷ ds) = stmt_errors C s ++ top_errors C ds

abbrev pub body_errors : Scope → Option (List Stmt) → List Error
body_errors C None = []
body_errors C (Some ss) = stmts_errors C ss

-- 01: "its body is still checked with its own names": each GATE field's, first entry or not
unfoldable pub def_errors : List Gate → List Decl → List Error
def_errors gs [] = []
def_errors gs (include sp x ∷ ds) = def_errors gs ds
def_errors gs (reg c d o ∷ ds) = def_errors gs ds
def_errors gs (gate g ∷ ds) = body_errors (body_scope gs g) g.body ++ def_errors gs ds
def_errors gs (top s ∷ ds) = def_errors gs ds

-- 01: "Order: gate headers; register declarations; top-level statements; bodies in declaration order; recursion." Recursion is on page Calls.
unfoldable pub local_errors : Program → List Error
local_errors p =
    decl_errors [] p.decls ++ (reg_errors [] p.decls ++ (top_errors (top_scope (gates_of p) p.decls) p.decls ++ def_errors (gates_of p) p.decls))
