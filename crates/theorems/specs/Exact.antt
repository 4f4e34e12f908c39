-- No error is listed for nothing: where check lists one at a statement the run is stuck, and recursion nests past any depth.
use Rattle.rules.specs.declared.Header.{Header}
use Rattle.std.specs.Prelude.{◌≡◌, refl, ◌↔◌, Bool, true, false, ◌&&◌, eqb, length, Option, Some, None}
use Rattle.std.proofs.Common.{sym, ◌∙◌, arith}
use Rattle.std.proofs.Math.Path.{subst}
use Rattle.std.proofs.Math.Logic.{⊎_elim}
use mathlib.Core.List.{List, [], ◌∷◌, map}
use Prim.Native.Nat.{ℕ, zero, suc, ◌+◌, ◌<◌}
use Rattle.std.proofs.Math.Dec.{T, eqb→eq}
use Rattle.rules.specs.declared.Reg.{Reg}
use Rattle.rules.specs.Basics.{pick}
use Rattle.rules.specs.Syntax.{Stmt, u, cx, measure, reset, barrier, call, if, missing, Gate, Program}
use Rattle.rules.specs.Checking.{gate_at, header, gates_of, argument, registers, top_scope, body_scope, Scope, Asked, quantum, classic, assert_reg, stmt_errors, stmts_errors, top_errors, body_errors}
use Rattle.rules.specs.Run.{Entry, Out, stuck, done, turns, Place, size_only, sizes, common, lanes, spread, all_known, run, runs, body_place, run_body, run_gate, top_place, tops, run_at}
use Rattle.theorems.specs.Words.{Reach, NoWalk, Each, calls_in, numbered, called, called_in, called_by}
use Rattle.theorems.specs.Search.{T_and, or_T}
use Rattle.theorems.specs.Walks.{endless}
use Rattle.theorems.specs.Callees.{own_calls}
use Rattle.theorems.specs.Agree.{clear_nil, callable, pairing, fits, passes, pass_all, stmt_clear, stmts_clear, sizes_cons, sizes_nil}
use Rattle.theorems.specs.Rows.{latest_each, fitting, arguments}
use Rattle.theorems.specs.Runs.{stuck_done, both_done, guard_done, with_done, calling_done, spread_done, if_done}
use Rattle.theorems.specs.Admitted.{Sound, top_errors_lem}
use Rattle.theorems.specs.Progress.{gate_fine, fine_done}

-- ---- statements

-- a run that ended passed its tests
spread_pairs : (P : Place) (qs : List Asked) (f : List ℕ → Out) (es : List Entry) → spread P qs f ≡ done es → T (pairing (sizes P.scope qs))
spread_pairs P qs f es e = let s = spread_done P qs f es e in rw s.have s.pair

run_passes : (f : ℕ → List ℕ → Out) (P : Place) (s : Stmt) (es : List Entry) → run f P s ≡ done es → T (passes P.scope s)
unfolding run passes
run_passes f P (u sp o x y z) es e =
    let g = guard_done (all_known P.scope.params (x ∷ y ∷ z ∷ [])) _ es e in
    T_and (pairing (sizes P.scope (quantum o ∷ []))) (all_known P.scope.params (x ∷ y ∷ z ∷ [])) (spread_pairs P (quantum o ∷ []) _ es g.1) g.0
run_passes f P (cx sp x y) es e = spread_pairs P (quantum x ∷ quantum y ∷ []) _ es e
run_passes f P (measure sp x y) es e = spread_pairs P (quantum x ∷ classic y ∷ []) _ es e
run_passes f P (reset sp o) es e = spread_pairs P (quantum o ∷ []) _ es e
run_passes f P (barrier sp os) es e = let w = with_done (sizes P.scope (map quantum os)) _ es e in rw w.1 tt
run_passes f P (call sp ns x xs os) es e =
    let k : Bool = all_known P.scope.params xs in
    let c = calling_done (P.scope.gates x) (length xs) (length os) _ es e in
    let g = guard_done k _ es c.ran in
    let q = spread_pairs P (map quantum os) (f c.header.number) es g.1 in
    T_and (callable (P.scope.gates x) (length xs) (length os)) (pairing (sizes P.scope (map quantum os)) && k) c.counts
    (T_and (pairing (sizes P.scope (map quantum os))) k q g.0)
run_passes f P (if sp o vs v s) es e =
    let k = if_done P o v (run f P s) es e in
    T_and (fits v (size_only (assert_reg P.scope.regs 0 (classic o)))) (passes P.scope s)
    (subst (λ (z : Option ℕ). T (fits v z)) (sym k.have) k.fit) (run_passes f P s k.inner k.ran)
run_passes f P missing es e = tt

runs_pass : (f : ℕ → List ℕ → Out) (P : Place) (ss : List Stmt) (es : List Entry) → runs f P ss ≡ done es → T (pass_all P.scope ss)
unfolding runs pass_all
runs_pass f P [] es e = tt
runs_pass f P (s ∷ ss) es e =
    let b = both_done (run f P s) (runs f P ss) es e in
    T_and (passes P.scope s) (pass_all P.scope ss) (run_passes f P s b.left b.one) (runs_pass f P ss b.right b.two)

-- what cannot have ended is stuck
never_done : (o : Out) → ((es : List Entry) → o ≡ done es → ⊥) → o ≡ stuck
never_done stuck h = refl
never_done (done es) h = absurd (h es refl)

pub error_stuck : (f : ℕ → List ℕ → Out) (P : Place) (s : Stmt) → (stmt_errors P.scope s ≡ [] → ⊥) → run f P s ≡ stuck
error_stuck f P s h =
    never_done (run f P s) (λ es e. h (clear_nil (stmt_errors P.scope s) (subst T (sym (stmt_clear P.scope s)) (run_passes f P s es e))))

errors_stuck : (f : ℕ → List ℕ → Out) (P : Place) (ss : List Stmt) → (stmts_errors P.scope ss ≡ [] → ⊥) → runs f P ss ≡ stuck
errors_stuck f P ss h =
    never_done (runs f P ss) (λ es e. h (clear_nil (stmts_errors P.scope ss) (subst T (sym (stmts_clear P.scope ss)) (runs_pass f P ss es e))))

-- so a gate whose body has errors is stuck whenever it runs, and a program with errors at top level always
pub body_stuck : (gs : List Gate) (d g : ℕ) (qs : List ℕ) → (body_errors (body_scope gs (gate_at gs g)) (gate_at gs g).body ≡ [] → ⊥)
    → run_gate gs d g qs ≡ stuck
unfolding run_gate body_place
body_stuck gs zero g qs h = refl
body_stuck gs (suc d) g qs h = go (gate_at gs g).body h
  where
    go : (b : Option (List Stmt)) → (body_errors (body_scope gs (gate_at gs g)) b ≡ [] → ⊥) → run_body gs (run_gate gs d) (gate_at gs g) b qs ≡ stuck
    go None h = absurd (h refl)
    go (Some ss) h = errors_stuck (run_gate gs d) (body_place gs (gate_at gs g) qs) ss h

pub top_stuck : (p : Program) (d : ℕ) → (top_errors (top_scope (gates_of p) p.decls) p.decls ≡ [] → ⊥) → run_at d p ≡ stuck
unfolding run_at top_place
top_stuck p d h =
    errors_stuck (run_gate (gates_of p) d) (top_place (gates_of p) p.decls) (tops p.decls)
    (λ e. h (top_errors_lem (top_scope (gates_of p) p.decls) p.decls ∙ e))

-- ---- calls that are reached

-- no row that a name means is empty
abbrev Solid : Scope → Type 0
Solid C = (x : ℕ) (r : Reg) → C.regs x ≡ Some r → 0 < r.size

-- so a statement runs at least once
common_some : (C : Scope) → Solid C → (qs : List Asked) (ns : List ℕ) → sizes C qs ≡ Some ns → 0 < common ns
unfolding common
common_some C solid [] ns e = rw (sizes_nil C ns e) (omega arith)
common_some C solid (q ∷ qs) ns e =
    let s = sizes_cons C q qs ns e in
    let f = fitting C.regs 0 q s.head (s.one 0) in
    let h = f.some (solid q.operand.name f.row f.found) in
    subst (λ (l : List ℕ). 0 < common l) (sym s.all) (go (eqb s.head 1) s.head (common s.tail) h (common_some C solid qs s.tail s.rest))
  where
    go : (b : Bool) (n k : ℕ) → 0 < n → 0 < k → 0 < pick b k n
    go true n k x y = y
    go false n k x y = x

turns_first : (k : ℕ) (f : ℕ → Out) (es : List Entry) → 0 < k → turns k 0 f ≡ done es → (fs : List Entry) × (f 0 ≡ done fs)
unfolding turns
turns_first zero f es h e = absurd (omega arith)
turns_first (suc k) f es h e = let b = both_done (f 0) (turns k 1 f) es e in (b.left, b.one)

module _ (f : ℕ → List ℕ → Out) (P : Place) (solid : Solid P.scope) (c : ℕ) where
  -- a call of c ended too
  abbrev Ended : Type 0
  Ended = (qs : List ℕ) × (es : List Entry) × (f c qs ≡ done es)

  run_reaches : (s : Stmt) (es : List Entry) → run f P s ≡ done es → T (called P.scope.gates s c) → Ended
  unfolding run called
  run_reaches (u sp o x y z) es e t = absurd t
  run_reaches (cx sp x y) es e t = absurd t
  run_reaches (measure sp x y) es e t = absurd t
  run_reaches (reset sp o) es e t = absurd t
  run_reaches (barrier sp os) es e t = absurd t
  run_reaches (call sp ns x xs os) es e t =
      let k = calling_done (P.scope.gates x) (length xs) (length os) _ es e in
      let g : ℕ = k.header.number in
      let s = spread_done P (map quantum os) (f g) es (guard_done (all_known P.scope.params xs) _ es k.ran).1 in
      let n = common_some P.scope solid (map quantum os) s.sized s.have in
      let r = turns_first (common s.sized) (λ j. f g (lanes P j s.sized (map quantum os))) es n s.ran in
      let q : g ≡ c = eqb→eq g c (subst (λ (h : Option Header). T (numbered h c)) k.known t) in
      let b : List ℕ = lanes P 0 s.sized (map quantum os) in
      (b, r.0, subst (λ (g : ℕ). f g b ≡ done r.0) q r.1)
  run_reaches (if sp o vs v s) es e t = let k = if_done P o v (run f P s) es e in run_reaches s k.inner k.ran t
  run_reaches missing es e t = absurd t

  runs_reach : (ss : List Stmt) (es : List Entry) → runs f P ss ≡ done es → T (called_in P.scope.gates ss c) → Ended
  unfolding runs called_in
  runs_reach [] es e t = absurd t
  runs_reach (s ∷ ss) es e t =
      let b = both_done (run f P s) (runs f P ss) es e in
      ⊎_elim (run_reaches s b.left b.one) (runs_reach ss b.right b.two) (or_T (called P.scope.gates s c) (called_in P.scope.gates ss c) t)

solid_body : (gs : List Gate) (g : Gate) → Solid (body_scope gs g)
unfolding body_scope
solid_body gs g x r e =
    let a = latest_each (λ r. (r.size ≡ 1) × (r.classical ≡ false)) (map argument g.args) x r (arguments g.args) e in
    omega (arith, a.0)

-- ---- depth

-- some number is above all of a list
above : (qs : List ℕ) → (k : ℕ) × Each (λ q. q < k) qs
above [] = (0, tt)
above (q ∷ qs) = let a = above qs in (suc (q + a.0), (omega arith, more a.0 qs a.1))
  where
    more : (k : ℕ) (l : List ℕ) → Each (λ x. x < k) l → Each (λ x. x < suc (q + k)) l
    more k [] e = tt
    more k (x ∷ l) e = (omega (arith, e.0), more k l e.1)

module _ (p : Program) (S : Sound p) where
  -- a run of g that ended within depth d: no d calls one after another begin at g
  gate_ended : (d g : ℕ) (qs : List ℕ) (es : List Entry) → run_gate (gates_of p) d g qs ≡ done es → NoWalk (calls_in p) d g
  unfolding run_gate body_place body_scope
  gate_ended zero g qs es e v w = stuck_done es e
  gate_ended (suc d) g qs es e v (c, t, w) =
      go (gate_at (gates_of p) g).body e (own_calls p S.headers g c t) (λ rs fs k. gate_ended d c rs fs k v w)
    where
      gs : List Gate
      gs = gates_of p

      go : (b : Option (List Stmt)) → run_body gs (run_gate gs d) (gate_at gs g) b qs ≡ done es → T (called_by (header gs) b c)
          → ((rs : List ℕ) (fs : List Entry) → run_gate gs d c rs ≡ done fs → ⊥) → ⊥
      go None e t h = t
      go (Some ss) e t h =
          let r = runs_reach (run_gate gs d) (body_place gs (gate_at gs g) qs) (solid_body gs (gate_at gs g)) c ss es e t in
          h r.0 r.1 r.2

  -- .. and the other way round: the depth that a gate needs is told by its calls alone
  pub gate_ends : (d g : ℕ) (qs : List ℕ) → g < length (gates_of p) → length qs ≡ length (gate_at (gates_of p) g).args
      → ((es : List Entry) × (run_gate (gates_of p) d g qs ≡ done es)) ↔ NoWalk (calls_in p) d g
  gate_ends d g qs b len = (
    λ r. gate_ended d g qs r.0 r.1,
    λ few. let a = above qs in
        let r = fine_done (λ _. a.0) (run_gate (gates_of p) d g qs) (gate_fine p S (λ _. a.0) d g qs few b len a.1) in
        (r.0, r.1),
  )

  -- a gate that comes to one that reaches itself is stuck within every depth
  pub recursion_stuck : (g h : ℕ) → Reach (calls_in p) g h → Reach (calls_in p) h h → (d : ℕ) (qs : List ℕ) → run_gate (gates_of p) d g qs ≡ stuck
  recursion_stuck g h a r d qs = never_done (run_gate (gates_of p) d g qs) (λ es e. endless (calls_in p) g h a r d (gate_ended d g qs es e))

  -- .. and so is the whole program, if its top level calls such a gate
  pub program_stuck : (g h : ℕ) → T (called_in (header (gates_of p)) (tops p.decls) g) → Reach (calls_in p) g h → Reach (calls_in p) h h
      → (d : ℕ) → run_at d p ≡ stuck
  unfolding run_at top_place top_scope
  program_stuck g h t a r d =
      never_done (run_at d p) (λ es e.
      let solid : Solid (top_scope (gates_of p) p.decls) = λ x s q. latest_each (λ r. 0 < r.size) (registers p.decls) x s S.rows q in
      let k = runs_reach (run_gate (gates_of p) d) (top_place (gates_of p) p.decls) solid g (tops p.decls) es e t in
      endless (calls_in p) g h a r d (gate_ended d g k.0 k.1 k.2))
