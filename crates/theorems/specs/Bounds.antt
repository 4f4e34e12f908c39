-- The error list of an image that is read is short: its errors and its bytes can be counted in 64 bits.
use Rattle.rules.specs.declared.Header.{Header}
use Rattle.std.specs.Prelude.{◌≡◌, Bool, true, false, not, ◌&&◌, List, [], ◌∷◌, ◌++◌, map, ℕ, suc, ◌+◌, ◌*◌, ◌^◌, ◌≤◌, ◌<◌, ltb, leb, eqb, length, Option, Some, None}
use Rattle.std.specs.Bool.{beq}
use Rattle.std.proofs.Common.{mul-le-mul_right, arith, length-append}
use Rattle.rules.specs.declared.Operand.{Operand}
use Rattle.rules.specs.declared.Match.{Match}
use Rattle.rules.specs.declared.Reg.{Reg}
use Rattle.rules.specs.Basics.{pick}
use Rattle.rules.specs.declared.Named.{Named}
use Rattle.rules.specs.Syntax.{Expr, pi, real, int, var, two, one, Stmt, u, cx, measure, reset, barrier, call, if, missing, Gate, Decl, include, reg, gate, top, Program}
use Rattle.rules.specs.Grouping.{program, read}
use Rattle.rules.specs.Errors.{Error, redefined_gate, redefined_argument, redefined_parameter, recursive_definition, zero_size_register, redefined_register, undefined_parameter, invalid_comparison_size, wrong_argument_arity, wrong_parameter_arity, undefined_gate, wrong_operand_size, invalid_register_index, wrong_register_type, undefined_register, pair_bytes, error_field}
use Rattle.rules.specs.Checking.{header, entered, entries, is_gate, gates_of, latest, argument, register, size_of, Scope, body_scope, top_scope, repeated, repeats, header_errors, decl_errors, redeclared, register_errors, reg_errors, Asked, quantum, classic, Sized, size, bad, found_size, assert_reg, sized_errors, operand_errors, unfixed, fixed, differs, match_errors, expr_errors, exprs_errors, compare_errors, arity_errors, matched, stmt_errors, stmts_errors, top_errors, body_errors, def_errors, local_errors}
use Rattle.rules.specs.Graph.{walks, leads, leaders}
use Rattle.rules.specs.Calls.{Call, calls_of, pairs, group_error, recursion_errors, errors}
use Rattle.rules.specs.Answers.{flat}
use Rattle.theorems.specs.Words.{calls_in, leaders_in, cycle_in}
use Rattle.theorems.specs.Search.{first_le, those_length}
use Rattle.theorems.specs.Cycles.{cycle_length}
use Rattle.theorems.specs.Callees.{calls_within}
use Rattle.theorems.specs.Weights.{total, expr_weight, operand_weight, named_weight, stmt_weight, body_weight, decl_weight, read_total}

-- ---- the bytes of an error list

unfoldable bytes : List Error → ℕ
bytes es = length (flat (map error_field es))

bytes_append : (es fs : List Error) → bytes (es ++ fs) ≡ bytes es + bytes fs
unfolding bytes flat
bytes_append [] fs = omega arith
bytes_append (e ∷ es) fs =
    omega (arith, length-append (error_field e) (flat (map error_field (es ++ fs))), length-append (error_field e) (flat (map error_field es)), bytes_append es fs)

-- every error has its tag
field_some : (e : Error) → 0 < length (error_field e)
unfolding error_field
field_some (redefined_gate a b c d) = omega arith
field_some (redefined_argument a b c d) = omega arith
field_some (redefined_parameter a b c d) = omega arith
field_some (recursive_definition c) = omega arith
field_some (zero_size_register a b) = omega arith
field_some (redefined_register a b c) = omega arith
field_some (undefined_parameter a b c) = omega arith
field_some (invalid_comparison_size a b c d e) = omega arith
field_some (wrong_argument_arity a b c d e) = omega arith
field_some (wrong_parameter_arity a b c d e) = omega arith
field_some (undefined_gate a b c) = omega arith
field_some (wrong_operand_size a b c d e) = omega arith
field_some (invalid_register_index a b c d e f) = omega arith
field_some (wrong_register_type a b c d e) = omega arith
field_some (undefined_register a b c) = omega arith

count_bytes : (es : List Error) → length es ≤ bytes es
unfolding bytes flat
count_bytes [] = omega arith
count_bytes (e ∷ es) = omega (arith, field_some e, length-append (error_field e) (flat (map error_field es)), count_bytes es)

-- no more bytes than n errors take: those of every kind but recursion take 33 at most
data Up-to (n : ℕ) (es : List Error) : Type 0 where
  up : bytes es ≤ 33 * n → Up-to n es

none_up : {n : ℕ} → Up-to n []
unfolding bytes flat
none_up = up (omega arith)

wider : {m n : ℕ} {es : List Error} → Up-to m es → m ≤ n → Up-to n es
wider (up a) h = up (omega arith)

join : {m n : ℕ} {es fs : List Error} → Up-to m es → Up-to n fs → Up-to (m + n) (es ++ fs)
join {es = es} {fs = fs} (up a) (up b) = up (omega (arith, bytes_append es fs))

where_up : (b : Bool) (e : Error) → Up-to 1 (e ∷ []) → Up-to 1 (pick b (e ∷ []) [])
where_up true e h = h
where_up false e h = none_up

unless_up : (b : Bool) (e : Error) → Up-to 1 (e ∷ []) → Up-to 1 (pick b [] (e ∷ []))
unless_up true e h = none_up
unless_up false e h = h

-- ---- operands and expressions

row_up : (kind indexed inside : Bool) (n : ℕ) (d e : Error) → Up-to 1 (d ∷ []) → Up-to 1 (e ∷ [])
    → Up-to 1 (sized_errors (pick kind (pick indexed (pick inside (size 1) (bad d)) (size n)) (bad e)))
row_up true true true n d e x y = none_up
row_up true true false n d e x y = x
row_up true false c n d e x y = none_up
row_up false b c n d e x y = y

sized_up : (find : ℕ → Option Reg) (stmt : ℕ) (q : Asked) → Up-to 1 (sized_errors (assert_reg find stmt q))
unfolding assert_reg bytes flat error_field
sized_up find stmt q = go (find q.operand.name)
  where
    go : (f : Option Reg) → Up-to 1 (sized_errors (found_size f stmt q))
    go None = up (omega arith)
    go (Some r) =
        row_up (beq r.classical q.classical) q.operand.indexed (ltb q.operand.index r.size) r.size _ _
        (up (omega arith)) (up (omega arith))

operands_up : (find : ℕ → Option Reg) (stmt : ℕ) (qs : List Asked) → Up-to (length qs) (operand_errors find stmt qs)
unfolding operand_errors
operands_up find stmt [] = none_up
operands_up find stmt (q ∷ qs) = wider (join (sized_up find stmt q) (operands_up find stmt qs)) (omega arith)

differs_up : (m : Match) (stmt : ℕ) (z : Sized) (span : ℕ) → Up-to 1 (differs m stmt z span)
unfolding bytes flat error_field
differs_up m stmt (bad e) span = none_up
differs_up m stmt (size n) span = where_up (ltb 1 n && not (eqb n m.size)) _ (up (omega arith))

match_up : (find : ℕ → Option Reg) (stmt : ℕ) (m : Match) (qs : List Asked) → Up-to (length qs) (match_errors find stmt m qs)
unfolding match_errors
match_up find stmt m [] = none_up
match_up find stmt m (q ∷ qs) =
    let now : Match = fixed m (assert_reg find stmt q) q.operand.span in
    wider (join (differs_up now stmt (assert_reg find stmt q) q.operand.span) (match_up find stmt now qs)) (omega arith)

matched_up : (find : ℕ → Option Reg) (stmt : ℕ) (qs : List Asked) → Up-to (2 * length qs) (matched find stmt qs)
matched_up find stmt qs = wider (join (operands_up find stmt qs) (match_up find stmt unfixed qs)) (omega arith)

expr_up : (param : ℕ → Bool) (stmt : ℕ) (e : Expr) → Up-to (expr_weight e) (expr_errors param stmt e)
unfolding expr_errors bytes flat error_field
expr_up param stmt (pi sp) = none_up
expr_up param stmt (real sp v) = none_up
expr_up param stmt (int sp v) = none_up
expr_up param stmt (var sp x) = unless_up (param x) _ (up (omega arith))
expr_up param stmt (two o sp x y) = join (expr_up param stmt x) (expr_up param stmt y)
expr_up param stmt (one o sp x) = expr_up param stmt x

exprs_up : (param : ℕ → Bool) (stmt : ℕ) (es : List Expr) → Up-to (total expr_weight es) (exprs_errors param stmt es)
unfolding exprs_errors
exprs_up param stmt [] = none_up
exprs_up param stmt (e ∷ es) = join (expr_up param stmt e) (exprs_up param stmt es)

-- ---- statements

compare_up : (z : Sized) (stmt : ℕ) (o : Operand) (vs v : ℕ) → Up-to 1 (compare_errors z stmt o vs v)
unfolding compare_errors bytes flat error_field
compare_up (bad e) stmt o vs v = none_up
compare_up (size n) stmt o vs v = where_up (leb (2 ^ n) v) _ (up (omega arith))

arity_up : (found : Option Header) (stmt sp x params args : ℕ) → Up-to 2 (arity_errors found stmt sp x params args)
unfolding bytes flat error_field
arity_up None stmt sp x params args = up (omega arith)
arity_up (Some h) stmt sp x params args =
    join (unless_up (eqb h.params params) (wrong_parameter_arity stmt h.decl x h.params params) (up (omega arith)))
    (unless_up (eqb h.args args) (wrong_argument_arity stmt h.decl x h.args args) (up (omega arith)))

quantum_length : (os : List Operand) → 2 * length (map quantum os) ≡ total operand_weight os
quantum_length [] = omega arith
quantum_length (o ∷ os) = omega (arith, quantum_length os)

stmt_up : (C : Scope) (s : Stmt) → Up-to (stmt_weight s) (stmt_errors C s)
unfolding stmt_errors
stmt_up C (u sp o x y z) = wider (join (operands_up C.regs sp (quantum o ∷ [])) (exprs_up C.params sp (x ∷ y ∷ z ∷ []))) (omega arith)
stmt_up C (cx sp x y) = matched_up C.regs sp (quantum x ∷ quantum y ∷ [])
stmt_up C (measure sp x y) = matched_up C.regs sp (quantum x ∷ classic y ∷ [])
stmt_up C (reset sp o) = wider (operands_up C.regs sp (quantum o ∷ [])) (omega arith)
stmt_up C (barrier sp os) = wider (operands_up C.regs sp (map quantum os)) (omega (arith, quantum_length os))
stmt_up C (call sp ns x es os) =
    wider (join (arity_up (C.gates x) sp ns x (length es) (length os)) (join (matched_up C.regs sp (map quantum os)) (exprs_up C.params sp es)))
    (omega (arith, quantum_length os))
stmt_up C (if sp o vs v s) =
    wider (join (operands_up C.regs sp (classic o ∷ [])) (join (stmt_up C s) (compare_up (assert_reg C.regs sp (classic o)) sp o vs v))) (omega arith)
stmt_up C missing = none_up

stmts_up : (C : Scope) (ss : List Stmt) → Up-to (total stmt_weight ss) (stmts_errors C ss)
unfolding stmts_errors
stmts_up C [] = none_up
stmts_up C (s ∷ ss) = join (stmt_up C s) (stmts_up C ss)

body_up : (C : Scope) (b : Option (List Stmt)) → Up-to (body_weight b) (body_errors C b)
body_up C None = none_up
body_up C (Some ss) = stmts_up C ss

-- ---- declarations

repeats_up : (kind : ℕ → ℕ → ℕ → ℕ → Error) → ((a b c d : ℕ) → Up-to 1 (kind a b c d ∷ [])) → (decl : ℕ) (seen : List Reg) (l : List Named)
    → Up-to (total named_weight l) (repeats kind decl seen l)
unfolding repeats
repeats_up kind h decl seen [] = none_up
repeats_up kind h decl seen (a ∷ l) = join (go (latest seen a.name)) (repeats_up kind h decl (seen ++ (argument a ∷ [])) l)
  where
    go : (f : Option Reg) → Up-to 1 (repeated kind decl f a)
    go None = none_up
    go (Some r) = h a.span a.name decl r.span

header_up : (found : Option Header) (g : Gate) → Up-to (1 + (total named_weight g.params + total named_weight g.args)) (header_errors found g)
unfolding bytes flat error_field
header_up (Some h) g = up (omega arith)
header_up None g =
    wider
    (join (repeats_up redefined_argument (λ a b c d. up (omega arith)) g.decl [] g.args)
    (repeats_up redefined_parameter (λ a b c d. up (omega arith)) g.decl [] g.params))
    (omega arith)

register_up : (rs : List Reg) (decl : ℕ) (o : Operand) → Up-to 2 (register_errors rs decl o)
unfolding register_errors bytes flat error_field
register_up rs decl o = join (where_up (eqb (size_of o) 0) (zero_size_register o.span decl) (up (omega arith))) (go (latest rs o.name))
  where
    go : (f : Option Reg) → Up-to 1 (redeclared f o decl)
    go None = none_up
    go (Some r) = up (omega arith)

decl_up : (gs : List Gate) (ds : List Decl) → Up-to (total decl_weight ds) (decl_errors gs ds)
unfolding decl_errors
decl_up gs [] = none_up
decl_up gs (include sp x ∷ ds) = wider (decl_up gs ds) (omega arith)
decl_up gs (reg c d o ∷ ds) = wider (decl_up gs ds) (omega arith)
decl_up gs (gate g ∷ ds) = wider (join (header_up (header gs g.name) g) (decl_up (entered gs g) ds)) (omega arith)
decl_up gs (top s ∷ ds) = wider (decl_up gs ds) (omega arith)

reg_up : (rs : List Reg) (ds : List Decl) → Up-to (total decl_weight ds) (reg_errors rs ds)
unfolding reg_errors
reg_up rs [] = none_up
reg_up rs (include sp x ∷ ds) = wider (reg_up rs ds) (omega arith)
reg_up rs (reg c d o ∷ ds) = join (register_up rs d o) (reg_up (rs ++ (register c o ∷ [])) ds)
reg_up rs (gate g ∷ ds) = wider (reg_up rs ds) (omega arith)
reg_up rs (top s ∷ ds) = wider (reg_up rs ds) (omega arith)

top_up : (C : Scope) (ds : List Decl) → Up-to (total decl_weight ds) (top_errors C ds)
unfolding top_errors
top_up C [] = none_up
top_up C (include sp x ∷ ds) = wider (top_up C ds) (omega arith)
top_up C (reg c d o ∷ ds) = wider (top_up C ds) (omega arith)
top_up C (gate g ∷ ds) = wider (top_up C ds) (omega arith)
top_up C (top s ∷ ds) = join (stmt_up C s) (top_up C ds)

def_up : (gs : List Gate) (ds : List Decl) → Up-to (total decl_weight ds) (def_errors gs ds)
unfolding def_errors
def_up gs [] = none_up
def_up gs (include sp x ∷ ds) = wider (def_up gs ds) (omega arith)
def_up gs (reg c d o ∷ ds) = wider (def_up gs ds) (omega arith)
def_up gs (gate g ∷ ds) = wider (join (body_up (body_scope gs g) g.body) (def_up gs ds)) (omega arith)
def_up gs (top s ∷ ds) = wider (def_up gs ds) (omega arith)

local_up : (p : Program) → Up-to (4 * total decl_weight p.decls) (local_errors p)
unfolding local_errors
local_up p =
    let ds : List Decl = p.decls in
    wider (join (decl_up [] ds) (join (reg_up [] ds) (join (top_up (top_scope (gates_of p) ds) ds) (def_up (gates_of p) ds)))) (omega arith)

-- ---- recursion

-- a GATE field has one first entry at most
entries_length : (gs : List Gate) (ds : List Decl) → length (entries gs ds) ≤ length gs + total decl_weight ds
unfolding entries entered
entries_length gs [] = omega arith
entries_length gs (include sp x ∷ ds) = omega (arith, entries_length gs ds)
entries_length gs (reg c d o ∷ ds) = omega (arith, entries_length gs ds)
entries_length gs (gate g ∷ ds) = omega (arith, entries_length (entered gs g) ds, go (is_gate gs g.name))
  where
    go : (b : Bool) → length (pick b gs (gs ++ (g ∷ []))) ≤ length gs + 1
    go true = omega arith
    go false = omega (arith, length-append gs (g ∷ []))
entries_length gs (top s ∷ ds) = omega (arith, entries_length gs ds)

pairs_length : (gs : List Gate) (cs : List Call) (g : ℕ) (hs : List ℕ) → length (pair_bytes (pairs gs cs g hs)) ≡ 8 * length hs
unfolding pairs pair_bytes
pairs_length gs cs g [] = omega arith
pairs_length gs cs g (h ∷ hs) = omega (arith, pairs_length gs cs h hs)

-- a cycle has a pair for each gate at most, and one more
group_bytes : (p : Program) (g : ℕ) → length (error_field (group_error (gates_of p) (calls_of p) g)) ≤ 11 + 8 * length (gates_of p)
unfolding error_field group_error
group_bytes p g =
    let n : ℕ = length (gates_of p) in
    let c = cycle_length n (calls_in p) (calls_within p) g in
    let l = first_le n (λ k. walks n (calls_in p) (suc k) g g) in
    omega (arith, pairs_length (gates_of p) (calls_of p) g (cycle_in p g))

groups_bytes : (p : Program) (l : List ℕ) → bytes (map (group_error (gates_of p) (calls_of p)) l) ≤ length l * (11 + 8 * length (gates_of p))
unfolding bytes flat
groups_bytes p [] = omega arith
groups_bytes p (g ∷ l) =
    let e : Error = group_error (gates_of p) (calls_of p) g in
    omega (arith, length-append (error_field e) (flat (map error_field (map (group_error (gates_of p) (calls_of p)) l))), group_bytes p g, groups_bytes p l)

recursion_bytes : (p : Program) → total decl_weight p.decls ≤ 65536 → bytes (recursion_errors (gates_of p) (calls_of p)) ≤ 65536 * (11 + 8 * 65536)
unfolding recursion_errors leaders gates_of
recursion_bytes p h =
    let n : ℕ = length (gates_of p) in
    let a = entries_length [] p.decls in
    let b = those_length n 0 (leads n (calls_in p)) in
    let c : length (leaders_in p) ≤ 65536 = omega arith in
    omega (arith, groups_bytes p (leaders_in p), mul-le-mul_right (11 + 8 * n) c)

-- ---- the whole list: both counts are below the greatest number of 64 bits

pub errors_bytes : (img : List ℕ) (p : Program) → read img ≡ program p → length (flat (map error_field (errors p))) < 18446744073709551615
unfolding errors bytes
errors_bytes img p e = go (local_up p)
  where
    go : Up-to (4 * total decl_weight p.decls) (local_errors p) → bytes (errors p) < 18446744073709551615
    go (up a) =
        let w = read_total img p e in
        omega (arith, bytes_append (local_errors p) (recursion_errors (gates_of p) (calls_of p)), recursion_bytes p w)

pub errors_count : (img : List ℕ) (p : Program) → read img ≡ program p → length (errors p) < 18446744073709551615
unfolding bytes
errors_count img p e = omega (arith, count_bytes (errors p), errors_bytes img p e)
