-- What a program without errors has: statements that pass, registers that are not empty, and no cycle.
use Rattle.std.specs.Prelude.{◌≡◌, refl, Bool, true, ℕ, zero, suc, ◌<◌, T, eqb, length, Option, Some, None}
use Rattle.std.proofs.Common.{sym, ap, ◌∙◌, subst, inl, inr, arith}
use mathlib.Core.List.{List, [], ◌∷◌, ◌++◌, cons≢nil}
use Rattle.rules.specs.declared.Reg.{Reg}
use Rattle.rules.specs.Basics.{pick}
use Rattle.rules.specs.Syntax.{Stmt, Gate, Decl, include, reg, gate, top, Program}
use Rattle.rules.specs.Errors.{Error, zero_size_register}
use Rattle.rules.specs.Checking.{gate_at, gates_of, registers, register, size_of, latest, redeclared, Scope, top_scope, body_scope, decl_errors, register_errors, reg_errors, stmt_errors, stmts_errors, top_errors, body_errors, def_errors, local_errors}
use Rattle.rules.specs.Calls.{calls_of, recursion_errors, errors}
use Rattle.rules.specs.Order.{order_of}
use Rattle.rules.specs.Run.{tops}
use Rattle.theorems.specs.Words.{Acyclic, Each, CalleesFirst, calls_in}
use Rattle.theorems.specs.Search.{nil_parts}
use Rattle.theorems.specs.Gates.{Declares, gate_declared}
use Rattle.theorems.specs.Callees.{calls_within}
use Rattle.theorems.specs.Recursion.{none_recursive}
use Rattle.theorems.specs.Orders.{order_placed}
use Rattle.theorems.specs.Agree.{nil_clear, pass_all, stmts_clear}

-- ---- registers

size_some : (n : ℕ) (e : Error) (es : List Error) → pick (eqb n 0) (e ∷ []) [] ++ es ≡ [] → 0 < n
size_some zero e es q = absurd (cons≢nil q)
size_some (suc n) e es q = omega arith

registers_some : (rs : List Reg) (ds : List Decl) → reg_errors rs ds ≡ [] → Each (λ r. 0 < r.size) (registers ds)
unfolding reg_errors registers register_errors
registers_some rs [] e = tt
registers_some rs (include sp x ∷ ds) e = registers_some rs ds e
registers_some rs (reg c d o ∷ ds) e =
    let a = nil_parts (register_errors rs d o) (reg_errors (rs ++ (register c o ∷ [])) ds) e in
    (size_some (size_of o) (zero_size_register o.span d) (redeclared (latest rs o.name) o d) a.0, registers_some (rs ++ (register c o ∷ [])) ds a.1)
registers_some rs (gate g ∷ ds) e = registers_some rs ds e
registers_some rs (top s ∷ ds) e = registers_some rs ds e

-- ---- statements

pub top_errors_lem : (C : Scope) (ds : List Decl) → top_errors C ds ≡ stmts_errors C (tops ds)
unfolding top_errors stmts_errors tops
top_errors_lem C [] = refl
top_errors_lem C (include sp x ∷ ds) = top_errors_lem C ds
top_errors_lem C (reg c d o ∷ ds) = top_errors_lem C ds
top_errors_lem C (gate g ∷ ds) = top_errors_lem C ds
top_errors_lem C (top s ∷ ds) = ap (λ (es : List Error). stmt_errors C s ++ es) (top_errors_lem C ds)

body_errors_lem : (gs : List Gate) (ds : List Decl) (g : Gate) → def_errors gs ds ≡ [] → Declares g ds → body_errors (body_scope gs g) g.body ≡ []
unfolding def_errors
body_errors_lem gs [] g e d = absurd d
body_errors_lem gs (include sp x ∷ ds) g e d = body_errors_lem gs ds g e d
body_errors_lem gs (reg c f o ∷ ds) g e d = body_errors_lem gs ds g e d
body_errors_lem gs (gate h ∷ ds) g e (inl q) =
    subst (λ (k : Gate). body_errors (body_scope gs k) k.body ≡ []) (sym q) (nil_parts (body_errors (body_scope gs h) h.body) (def_errors gs ds) e).0
body_errors_lem gs (gate h ∷ ds) g e (inr d) = body_errors_lem gs ds g (nil_parts (body_errors (body_scope gs h) h.body) (def_errors gs ds) e).1 d
body_errors_lem gs (top s ∷ ds) g e d = body_errors_lem gs ds g e d

-- every statement of the body passes
abbrev pub pass_body : List Gate → Gate → Option (List Stmt) → Bool
pass_body gs g None = true
pass_body gs g (Some ss) = pass_all (body_scope gs g) ss

pass_all_lem : (C : Scope) (ss : List Stmt) → stmts_errors C ss ≡ [] → T (pass_all C ss)
pass_all_lem C ss e = subst T (stmts_clear C ss) (nil_clear (stmts_errors C ss) e)

pass_body_lem : (gs : List Gate) (g : Gate) (b : Option (List Stmt)) → body_errors (body_scope gs g) b ≡ [] → T (pass_body gs g b)
pass_body_lem gs g None e = tt
pass_body_lem gs g (Some ss) e = pass_all_lem (body_scope gs g) ss e

-- ---- a program whose errors, recursion aside, are none

pub record Sound (p : Program) : Type 0 where
  pub headers : decl_errors [] p.decls ≡ []
  pub rows : Each (λ r. 0 < r.size) (registers p.decls)
  pub main : T (pass_all (top_scope (gates_of p) p.decls) (tops p.decls))
  pub bodies : (g : ℕ) → g < length (gates_of p) → T (pass_body (gates_of p) (gate_at (gates_of p) g) (gate_at (gates_of p) g).body)

pub sound : (p : Program) → local_errors p ≡ [] → Sound p
unfolding local_errors
sound p e =
    let gs : List Gate = gates_of p in
    let ds : List Decl = p.decls in
    let C : Scope = top_scope gs ds in
    let a = nil_parts (decl_errors [] ds) (reg_errors [] ds ++ (top_errors C ds ++ def_errors gs ds)) e in
    let b = nil_parts (reg_errors [] ds) (top_errors C ds ++ def_errors gs ds) a.1 in
    let c = nil_parts (top_errors C ds) (def_errors gs ds) b.1 in
    record {
      headers = a.0;
      rows = registers_some [] ds b.0;
      main = pass_all_lem C (tops ds) (sym (top_errors_lem C ds) ∙ c.0);
      bodies = λ g h. pass_body_lem gs (gate_at gs g) (gate_at gs g).body (body_errors_lem gs ds (gate_at gs g) c.1 (gate_declared p g h));
    }

-- ---- a program without any errors

pub admitted : (p : Program) → errors p ≡ [] → Sound p × Acyclic (calls_in p)
unfolding errors
admitted p e = let a = nil_parts (local_errors p) (recursion_errors (gates_of p) (calls_of p)) e in (sound p a.0, (none_recursive p).0 a.1)

pub order_admitted : (p : Program) → errors p ≡ [] → CalleesFirst (length (gates_of p)) (calls_in p) (order_of p)
unfolding order_of
order_admitted p e = order_placed (length (gates_of p)) (calls_in p) (calls_within p) (admitted p e).1
