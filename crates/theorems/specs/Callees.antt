-- Which gate of a program calls which: the calls that the rules list, as tests on statements.
use Rattle.std.specs.Prelude.{◌≡◌, refl, ◌⊎◌, Bool, true, false, ◌&&◌, ◌||◌, ℕ, ◌<◌, T, eqb, length, Option, Some, None}
use Rattle.std.proofs.Common.{sym, ap, ap₂, ◌∙◌, subst, inl, inr, ⊎_elim, arith, eqb→eq}
use Rattle.std.proofs.Math.Bool.{or-false, or_assoc, and-false, and-or_distrib_left}
use mathlib.Core.List.{List, [], ◌∷◌, ◌++◌}
use Rattle.std.proofs.Math.Dec.{eqb_refl}
use Rattle.rules.specs.Basics.{pick}
use Rattle.rules.specs.Syntax.{Stmt, u, cx, measure, reset, barrier, call, if, missing, Gate, Decl, include, reg, gate, top, Program}
use Rattle.rules.specs.Checking.{gate_at, number_of, is_gate, header_of, header, entries, gates_of, decl_errors}
use Rattle.rules.specs.Calls.{Call, stmt_calls, stmts_calls, body_calls, decl_calls, calls_of, between, edge}
use Rattle.theorems.specs.Words.{Within, numbered, called, called_in, called_by}
use Rattle.theorems.specs.Search.{and_T, T_and, or_T, or_left, or_right}
use Rattle.theorems.specs.Gates.{Declares, number_of_lem, number_at, declared_gate, own_entry, gates_once, gate_declared}

-- a name is gate w's just where it is a gate's, and w is that gate's number
numbered_is : (gs : List Gate) (x w : ℕ) → numbered (header gs x) w ≡ (is_gate gs x && eqb (number_of gs x) w)
unfolding header
numbered_is gs x w = go (is_gate gs x)
  where
    go : (b : Bool) → numbered (pick b (Some (header_of gs (number_of gs x))) None) w ≡ (b && eqb (number_of gs x) w)
    go true = refl
    go false = refl

called_lt : (gs : List Gate) (s : Stmt) (w : ℕ) → T (called (header gs) s w) → w < length gs
unfolding called
called_lt gs (u sp o x y z) w t = absurd t
called_lt gs (cx sp x y) w t = absurd t
called_lt gs (measure sp x y) w t = absurd t
called_lt gs (reset sp o) w t = absurd t
called_lt gs (barrier sp os) w t = absurd t
called_lt gs (call sp ns x es os) w t =
    let a = and_T (is_gate gs x) (eqb (number_of gs x) w) (subst T (numbered_is gs x w) t) in
    subst (λ (v : ℕ). v < length gs) (eqb→eq (number_of gs x) w a.1) (number_of_lem gs x a.0).0
called_lt gs (if sp o vs v s) w t = called_lt gs s w t
called_lt gs missing w t = absurd t

pub called_in_lt : (gs : List Gate) (ss : List Stmt) (w : ℕ) → T (called_in (header gs) ss w) → w < length gs
unfolding called_in
called_in_lt gs [] w t = absurd t
called_in_lt gs (s ∷ ss) w t = ⊎_elim (called_lt gs s w) (called_in_lt gs ss w) (or_T (called (header gs) s w) (called_in (header gs) ss w) t)

called_by_lt : (gs : List Gate) (b : Option (List Stmt)) (w : ℕ) → T (called_by (header gs) b w) → w < length gs
called_by_lt gs None w t = absurd t
called_by_lt gs (Some ss) w t = called_in_lt gs ss w t

edge_append : (cs ds : List Call) (g h : ℕ) → edge (cs ++ ds) g h ≡ (edge cs g h || edge ds g h)
unfolding edge
edge_append [] ds g h = refl
edge_append (c ∷ cs) ds g h = ap (λ (b : Bool). between c g h || b) (edge_append cs ds g h) ∙ sym (or_assoc (between c g h) (edge cs g h) (edge ds g h))

-- the calls that the rules list of a body by gate v are those tests
edge_stmt : (gs : List Gate) (v : ℕ) (s : Stmt) (g h : ℕ) → edge (stmt_calls gs v s) g h ≡ (eqb v g && called (header gs) s h)
unfolding edge stmt_calls called
edge_stmt gs v (u sp o x y z) g h = sym (and-false (eqb v g))
edge_stmt gs v (cx sp x y) g h = sym (and-false (eqb v g))
edge_stmt gs v (measure sp x y) g h = sym (and-false (eqb v g))
edge_stmt gs v (reset sp o) g h = sym (and-false (eqb v g))
edge_stmt gs v (barrier sp os) g h = sym (and-false (eqb v g))
edge_stmt gs v (call sp ns x es os) g h = go (is_gate gs x) ∙ ap (λ (b : Bool). eqb v g && b) (sym (numbered_is gs x h))
  where
    go : (b : Bool) → edge (pick b (record { from = v; to = number_of gs x; span = sp } ∷ []) []) g h ≡ (eqb v g && (b && eqb (number_of gs x) h))
    go true = or-false (eqb v g && eqb (number_of gs x) h)
    go false = sym (and-false (eqb v g))
edge_stmt gs v (if sp o vs w s) g h = edge_stmt gs v s g h
edge_stmt gs v missing g h = sym (and-false (eqb v g))

edge_stmts : (gs : List Gate) (v : ℕ) (ss : List Stmt) (g h : ℕ) → edge (stmts_calls gs v ss) g h ≡ (eqb v g && called_in (header gs) ss h)
unfolding edge stmts_calls called_in
edge_stmts gs v [] g h = sym (and-false (eqb v g))
edge_stmts gs v (s ∷ ss) g h =
    edge_append (stmt_calls gs v s) (stmts_calls gs v ss) g h ∙ ap₂ (λ (a b : Bool). a || b) (edge_stmt gs v s g h) (edge_stmts gs v ss g h)
    ∙ sym (and-or_distrib_left (eqb v g) (called (header gs) s h) (called_in (header gs) ss h))

edge_body : (gs : List Gate) (v : ℕ) (b : Option (List Stmt)) (g h : ℕ) → edge (body_calls gs v b) g h ≡ (eqb v g && called_by (header gs) b h)
unfolding edge
edge_body gs v None g h = sym (and-false (eqb v g))
edge_body gs v (Some ss) g h = edge_stmts gs v ss g h

-- d stands for g and its body calls h
abbrev pub Calls : List Gate → List Decl → Gate → ℕ → ℕ → Type 0
Calls gs ds d g h = Declares d ds × (number_of gs d.name ≡ g) × T (called_by (header gs) d.body h)

-- a call in the list stands in the body of a declared gate, and back
edge_declared : (gs : List Gate) (ds : List Decl) (g h : ℕ) → T (edge (decl_calls gs ds) g h) → (d : Gate) × Calls gs ds d g h
unfolding decl_calls edge
edge_declared gs [] g h t = absurd t
edge_declared gs (include sp x ∷ ds) g h t = edge_declared gs ds g h t
edge_declared gs (reg c d o ∷ ds) g h t = edge_declared gs ds g h t
edge_declared gs (gate d ∷ ds) g h t =
    let bs : List Call = body_calls gs (number_of gs d.name) d.body in
    ⊎_elim
    (λ k. let a = and_T (eqb (number_of gs d.name) g) (called_by (header gs) d.body h) (subst T (edge_body gs (number_of gs d.name) d.body g h) k) in
    (d, (inl refl, eqb→eq (number_of gs d.name) g a.0, a.1)))
    (λ k. let r = edge_declared gs ds g h k in (r.0, (inr r.1.0, r.1.1, r.1.2)))
    (or_T (edge bs g h) (edge (decl_calls gs ds) g h) (subst T (edge_append bs (decl_calls gs ds) g h) t))
edge_declared gs (top s ∷ ds) g h t = edge_declared gs ds g h t

declared_edge : (gs : List Gate) (ds : List Decl) (d : Gate) (g h : ℕ) → Calls gs ds d g h → T (edge (decl_calls gs ds) g h)
unfolding decl_calls edge
declared_edge gs [] d g h c = c.0
declared_edge gs (include sp x ∷ ds) d g h c = declared_edge gs ds d g h c
declared_edge gs (reg c e o ∷ ds) d g h k = declared_edge gs ds d g h k
declared_edge gs (gate f ∷ ds) d g h (m, e, t) =
    subst T (sym (edge_append (listed f) (decl_calls gs ds) g h)) (go (declared_edge gs ds d g h) m)
  where
    -- the calls of a gate's body, as the rules list them
    listed : Gate → List Call
    listed k = body_calls gs (number_of gs k.name) k.body

    own : T (edge (listed d) g h)
    own =
        let n : ℕ = number_of gs d.name in
        let q : T (eqb n g) = subst (λ (x : ℕ). T (eqb n x)) e (eqb_refl n) in
        subst T (sym (edge_body gs n d.body g h)) (T_and (eqb n g) (called_by (header gs) d.body h) q t)

    go : (Calls gs ds d g h → T (edge (decl_calls gs ds) g h)) → (d ≡ f) ⊎ Declares d ds → T (edge (listed f) g h || edge (decl_calls gs ds) g h)
    go ih (inl q) = or_left (edge (listed f) g h) (edge (decl_calls gs ds) g h) (subst (λ (k : Gate). T (edge (listed k) g h)) q own)
    go ih (inr m) = or_right (edge (listed f) g h) (edge (decl_calls gs ds) g h) (ih (m, e, t))
declared_edge gs (top s ∷ ds) d g h c = declared_edge gs ds d g h c

-- ---- the calls of a program

pub calls_within : (p : Program) → Within (length (gates_of p)) (edge (calls_of p))
unfolding calls_of gates_of
calls_within p g h t =
    let gs : List Gate = entries [] p.decls in
    let c = edge_declared gs p.decls g h t in
    let a = number_of_lem gs c.0.name (declared_gate [] p.decls c.0 c.1.0) in
    (omega (arith, a.0, c.1.1), called_by_lt gs c.0.body h c.1.2)

-- the calls in the body of a first entry are calls of the program
pub body_calls_lem : (p : Program) (g h : ℕ) → g < length (gates_of p) → T (called_by (header (gates_of p)) (gate_at (gates_of p) g).body h) → T (edge (calls_of p) g h)
unfolding calls_of
body_calls_lem p g h b t =
    declared_edge (gates_of p) p.decls (gate_at (gates_of p) g) g h (gate_declared p g b, number_at (gates_of p) (gates_once p) g b, t)

-- and where no gate name is seen before, all calls of the program are those
pub own_calls : (p : Program) → decl_errors [] p.decls ≡ [] → (g h : ℕ) → T (edge (calls_of p) g h)
    → T (called_by (header (gates_of p)) (gate_at (gates_of p) g).body h)
unfolding calls_of
own_calls p fresh g h t =
    let gs : List Gate = gates_of p in
    let c = edge_declared gs p.decls g h t in
    let i = first_entry c.0 c.1.0 in
    let e : i.0 ≡ g = sym (number_at gs (gates_once p) i.0 i.1) ∙ ap (λ (d : Gate). number_of gs d.name) i.2 ∙ c.1.1 in
    subst (λ (d : Gate). T (called_by (header gs) d.body h)) (sym i.2 ∙ ap (gate_at gs) e) c.1.2
  where
    first_entry : (d : Gate) → Declares d p.decls → (i : ℕ) × (i < length (gates_of p)) × (gate_at (gates_of p) i ≡ d)
    first_entry d m = unfold gates_of in own_entry [] p.decls d fresh m
