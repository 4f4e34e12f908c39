-- The count is the length of the run.
use Rattle.rules.specs.declared.Header.{Header}
use Rattle.std.specs.Prelude.{◌≡◌, Bool, ◌&&◌, T, ltb, set, drop, Option, Some, None}
use Rattle.std.proofs.Math.Path.{refl, sym, ap, ap₂, subst}
use Rattle.std.proofs.Common.{◌∙◌, zero-mul, mul-one, not-suc-le-zero, ltb→lt, lt→ltb, length-set, drop_of_length-le, drop-cons, get_or-set_same, get_or-set_other}
use mathlib.Core.List.{List, [], ◌∷◌, ◌++◌, map}
use Prim.Native.Nat.{ℕ, zero, suc, ◌+◌, ◌*◌, ◌≤◌, ◌<◌, min}
use Rattle.std.proofs.Math.Decide.{dec_le, dec_lt}
use native.Mathlib.Omega.{arith}
use Rattle.std.proofs.Math.Dec.{eqb_refl}
use Rattle.std.proofs.Math.ListN.{length, length-append}
use Rattle.rules.specs.Syntax.{Stmt, u, cx, measure, reset, barrier, call, if, missing, Gate, Program}
use Rattle.rules.specs.Checking.{gate_at, gates_of, Asked, quantum, classic, header, Scope, top_scope, body_scope, assert_reg}
use Rattle.rules.specs.Calls.{errors}
use Rattle.rules.specs.Order.{order_of}
use Rattle.rules.specs.Run.{Entry, barrier_end_e, opaque_e, if_end_e, Out, done, turns, Place, start_of, size_only, sizes, common, lanes, spread, all_known, qubits_from, barrier_qubits, run, runs, body_place, run_body, run_gate, top_place, tops, run_at, run_of}
use Rattle.theorems.specs.Words.{NoWalk, CalleesFirst, calls_in, numbered, called, called_in, called_by}
use Rattle.theorems.specs.Search.{and_T, or_left, or_right}
use Rattle.theorems.specs.Walks.{no_long}
use Rattle.theorems.specs.Callees.{called_in_lt, calls_within, body_calls_lem}
use Rattle.theorems.specs.Agree.{bool_same, sizes_cons, sizes_nil, pairing, fits, passes, pass_all, callable}
use Rattle.theorems.specs.Runs.{stuck_done, both_done, guard_done, with_done, calling_done, spread_done, if_done}
use Rattle.theorems.specs.Admitted.{Sound, pass_body, admitted, order_admitted}
use Rattle.theorems.specs.Count.{times, sum, call_count, stmt_count, stmts_count, body_count, gate_count, program_count, counts, Solves, at, fill}

-- ---- the length of a run that ended

done_length : (es fs : List Entry) → done es ≡ done fs → length fs ≡ length es
done_length es fs e = let k : fs ≡ es = cc in ap length k

turns_length : (k j m : ℕ) (f : ℕ → Out) (es : List Entry) → turns k j f ≡ done es
    → ((i : ℕ) (fs : List Entry) → f i ≡ done fs → length fs ≡ m) → length es ≡ k * m
unfolding turns
turns_length zero j m f es e h = done_length [] es e ∙ sym (zero-mul m)
turns_length (suc k) j m f es e h =
    let b = both_done (f j) (turns k (suc j) f) es e in
    omega (arith, ap length b.all, length-append b.left b.right, h j b.left b.one, turns_length k (suc j) m f b.right b.two h)

spread_length : (P : Place) (qs : List Asked) (m : ℕ) (f : List ℕ → Out) (es : List Entry) → spread P qs f ≡ done es
    → ((bs : List ℕ) (fs : List Entry) → f bs ≡ done fs → length fs ≡ m) → length es ≡ times (sizes P.scope qs) * m
spread_length P qs m f es e h =
    let s = spread_done P qs f es e in
    rw s.have (turns_length (common s.sized) 0 m (λ j. f (lanes P j s.sized qs)) es s.ran (λ j. h (lanes P j s.sized qs)))

-- one entry a turn
ones_length : (P : Place) (qs : List Asked) (f : List ℕ → Entry) (es : List Entry) → spread P qs (λ bs. done (f bs ∷ [])) ≡ done es
    → length es ≡ times (sizes P.scope qs)
ones_length P qs f es e =
    spread_length P qs 1 (λ bs. done (f bs ∷ [])) es e (λ bs fs q. done_length (f bs ∷ []) fs q) ∙ mul-one (times (sizes P.scope qs))

qubits_length : (k q : ℕ) → length (qubits_from k q) ≡ k
unfolding qubits_from
qubits_length zero q = refl
qubits_length (suc k) q = ap suc (qubits_length k (suc q))

barrier_length : (P : Place) (qs : List Asked) (ns : List ℕ) → sizes P.scope qs ≡ Some ns → length (barrier_qubits P ns qs) ≡ sum ns
unfolding barrier_qubits sum
barrier_length P [] ns e = rw (sizes_nil P.scope ns e) refl
barrier_length P (q ∷ qs) ns e =
    let s = sizes_cons P.scope q qs ns e in
    subst (λ (l : List ℕ). length (barrier_qubits P l (q ∷ qs)) ≡ sum l) (sym s.all)
    (length-append (qubits_from s.head (start_of P q.operand)) (barrier_qubits P s.tail qs)
    ∙ ap₂ (λ (a b : ℕ). a + b) (qubits_length s.head (start_of P q.operand)) (barrier_length P qs s.tail s.rest))

module _ (f : ℕ → List ℕ → Out) (t : ℕ → ℕ) (h : (c : ℕ) (qs : List ℕ) (es : List Entry) → f c qs ≡ done es → length es ≡ t c) where
  run_length : (P : Place) (s : Stmt) (es : List Entry) → run f P s ≡ done es → length es ≡ stmt_count P.scope t s
  unfolding run stmt_count
  run_length P (u sp o x y z) es e =
      ones_length P (quantum o ∷ []) _ es (guard_done (all_known P.scope.params (x ∷ y ∷ z ∷ [])) _ es e).1
  run_length P (cx sp x y) es e = ones_length P (quantum x ∷ quantum y ∷ []) _ es e
  run_length P (measure sp x y) es e = ones_length P (quantum x ∷ classic y ∷ []) _ es e
  run_length P (reset sp o) es e = ones_length P (quantum o ∷ []) _ es e
  run_length P (barrier sp os) es e =
      let w = with_done (sizes P.scope (map quantum os)) _ es e in
      let b = barrier_qubits P w.0 (map quantum os) in
      let n = barrier_length P (map quantum os) w.0 w.1 in
      rw w.1 (done_length (b ++ (barrier_end_e ∷ [])) es w.2 ∙ length-append b (barrier_end_e ∷ []) ∙ ap (λ (k : ℕ). k + 1) n)
  run_length P (call sp ns x xs os) es e =
      let c = calling_done (P.scope.gates x) (length xs) (length os) _ es e in
      let g = guard_done (all_known P.scope.params xs) _ es c.ran in
      rw c.known (spread_length P (map quantum os) (t c.header.number) (f c.header.number) es g.1 (h c.header.number))
  run_length P (if sp o vs v s) es e =
      let k = if_done P o v (run f P s) es e in
      omega (arith, ap length k.all, length-append k.inner (if_end_e ∷ []), run_length P s k.inner k.ran)
  run_length P missing es e = done_length [] es e

  runs_length : (P : Place) (ss : List Stmt) (es : List Entry) → runs f P ss ≡ done es → length es ≡ stmts_count P.scope t ss
  unfolding runs stmts_count
  runs_length P [] es e = done_length [] es e
  runs_length P (s ∷ ss) es e =
      let b = both_done (run f P s) (runs f P ss) es e in
      ap length b.all ∙ length-append b.left b.right
      ∙ ap₂ (λ (x y : ℕ). x + y) (run_length P s b.left b.one) (runs_length P ss b.right b.two)

-- a run of a gate has as many entries as its count for that depth, whatever the qubits
pub gate_length : (gs : List Gate) (d g : ℕ) (qs : List ℕ) (es : List Entry) → run_gate gs d g qs ≡ done es → length es ≡ counts gs d g
unfolding run_gate counts gate_count body_place
gate_length gs zero g qs es e = absurd (stuck_done es e)
gate_length gs (suc d) g qs es e = go (gate_at gs g).body (gate_length gs d) e
  where
    go : (b : Option (List Stmt)) → ((c : ℕ) (rs : List ℕ) (fs : List Entry) → run_gate gs d c rs ≡ done fs → length fs ≡ counts gs d c)
        → run_body gs (run_gate gs d) (gate_at gs g) b qs ≡ done es → length es ≡ body_count gs (counts gs d) (gate_at gs g) b
    go None ih e = done_length (opaque_e (gate_at gs g).name qs ∷ []) es e
    go (Some ss) ih e = runs_length (run_gate gs d) (counts gs d) ih (body_place gs (gate_at gs g) qs) ss es e

pub program_length : (p : Program) (d : ℕ) (es : List Entry) → run_at d p ≡ done es → length es ≡ program_count p (counts (gates_of p) d)
unfolding run_at program_count top_place
program_length p d es e =
    let gs : List Gate = gates_of p in
    runs_length (run_gate gs d) (counts gs d) (gate_length gs d) (top_place gs p.decls) (tops p.decls) es e

-- ---- no further than to a cap: the count looks at the table for the gates called alone, and there no further than to the cap

pub min_mul : (cap k x : ℕ) → min cap (k * x) ≡ min cap (k * min cap x)
min_mul cap zero x = simp zero-mul
min_mul cap (suc k) x = elim (dec_le x cap) [
  | yes h ↦ let e : min cap x ≡ x = omega arith in rw e refl
  | no h ↦ let e : min cap x ≡ cap = omega arith in rw e (omega arith)
]

module _ (cap : ℕ) (t v : ℕ → ℕ) where
  -- the two tables agree on the gates that the test names
  abbrev Agrees : (ℕ → Bool) → Type 0
  Agrees b = (c : ℕ) → T (b c) → min cap (t c) ≡ min cap (v c)

  call_capped : (found : Option Header) (params args : ℕ) → T (callable found params args) → Agrees (numbered found)
      → min cap (call_count found t) ≡ min cap (call_count found v)
  call_capped None params args k h = absurd k
  call_capped (Some g) params args k h = h g.number (eqb_refl g.number)

  stmt_capped : (C : Scope) (s : Stmt) → T (passes C s) → Agrees (called C.gates s) → min cap (stmt_count C t s) ≡ min cap (stmt_count C v s)
  unfolding stmt_count passes called
  stmt_capped C (u sp o x y z) k h = refl
  stmt_capped C (cx sp x y) k h = refl
  stmt_capped C (measure sp x y) k h = refl
  stmt_capped C (reset sp o) k h = refl
  stmt_capped C (barrier sp os) k h = refl
  stmt_capped C (call sp ns x es os) k h =
      let n : ℕ = times (sizes C (map quantum os)) in
      let a = and_T (callable (C.gates x) (length es) (length os)) (pairing (sizes C (map quantum os)) && all_known C.params es) k in
      let b = call_capped (C.gates x) (length es) (length os) a.0 h in
      min_mul cap n (call_count (C.gates x) t) ∙ ap (λ (z : ℕ). min cap (n * z)) b ∙ sym (min_mul cap n (call_count (C.gates x) v))
  stmt_capped C (if sp o vs w s) k h =
      omega (arith, stmt_capped C s (and_T (fits w (size_only (assert_reg C.regs 0 (classic o)))) (passes C s) k).1 h)
  stmt_capped C missing k h = refl

  stmts_capped : (C : Scope) (ss : List Stmt) → T (pass_all C ss) → Agrees (called_in C.gates ss)
      → min cap (stmts_count C t ss) ≡ min cap (stmts_count C v ss)
  unfolding stmts_count pass_all called_in
  stmts_capped C [] k h = refl
  stmts_capped C (s ∷ ss) k h =
      let a = and_T (passes C s) (pass_all C ss) k in
      let x = stmt_capped C s a.0 (λ c b. h c (or_left (called C.gates s c) (called_in C.gates ss c) b)) in
      let y = stmts_capped C ss a.1 (λ c b. h c (or_right (called C.gates s c) (called_in C.gates ss c) b)) in
      omega arith

  body_capped : (gs : List Gate) (g : Gate) (b : Option (List Stmt)) → T (pass_body gs g b) → Agrees (called_by (header gs) b)
      → min cap (body_count gs t g b) ≡ min cap (body_count gs v g b)
  unfolding body_scope
  body_capped gs g None k h = refl
  body_capped gs g (Some ss) k h = stmts_capped (body_scope gs g) ss k h

module _ (p : Program) (S : Sound p) (cap : ℕ) where
  gate_capped : (t v : ℕ → ℕ) (g : ℕ) → g < length (gates_of p) → ((c : ℕ) → T (calls_in p g c) → min cap (t c) ≡ min cap (v c))
      → min cap (gate_count (gates_of p) t g) ≡ min cap (gate_count (gates_of p) v g)
  unfolding gate_count
  gate_capped t v g b h =
      let d : Gate = gate_at (gates_of p) g in
      body_capped cap t v (gates_of p) d d.body (S.bodies g b) (λ c k. h c (body_calls_lem p g c b k))

  solved_counts : (t : ℕ → ℕ) → Solves cap p t → (d g : ℕ) → g < length (gates_of p) → NoWalk (calls_in p) d g
      → min cap (t g) ≡ min cap (counts (gates_of p) d g)
  unfolding counts
  solved_counts t s zero g b few = absurd (few g refl)
  solved_counts t s (suc d) g b few =
      let h = gate_capped t (counts (gates_of p) d) g b (λ c e. solved_counts t s d c (calls_within p g c e).1 (λ v w. few v (c, e, w))) in
      omega (arith, s g b)

module _ (p : Program) (ok : errors p ≡ []) (cap : ℕ) where
  enough : (g : ℕ) → g < length (gates_of p) → NoWalk (calls_in p) (length (gates_of p)) g
  enough = no_long (calls_in p) (length (gates_of p)) (calls_within p) (admitted p ok).1

  -- a table that solves its own equation holds the counts, no further than to the cap
  pub solved : (t : ℕ → ℕ) → Solves cap p t → (g : ℕ) → g < length (gates_of p) → t g ≡ min cap (counts (gates_of p) (length (gates_of p)) g)
  solved t s g b = omega (arith, s g b, solved_counts p (admitted p ok).0 cap t s (length (gates_of p)) g b (enough g b))

  pub solved_once : (t v : ℕ → ℕ) → Solves cap p t → Solves cap p v → (g : ℕ) → g < length (gates_of p) → t g ≡ v g
  solved_once t v s w g b = solved t s g b ∙ sym (solved v w g b)

  pub solved_program : (t : ℕ → ℕ) → Solves cap p t → (es : List Entry) → run_of p ≡ done es → min cap (program_count p t) ≡ min cap (length es)
  unfolding program_count run_of top_scope
  solved_program t s es e =
      let n : ℕ = length (gates_of p) in
      let S = (admitted p ok).0 in
      stmts_capped cap t (counts (gates_of p) n) (top_scope (gates_of p) p.decls) (tops p.decls) S.main
      (λ c k. let b = called_in_lt (gates_of p) (tops p.decls) c k in solved_counts p S cap t s n c b (enough c b))
      ∙ ap (λ (x : ℕ). min cap x) (sym (program_length p n es e))

-- ---- one pass along the order

module _ (p : Program) (S : Sound p) (cap : ℕ) (l : List ℕ) (P : CalleesFirst (length (gates_of p)) (calls_in p) l) where
  -- what place g gets
  abbrev worth : List ℕ → ℕ → ℕ
  worth t g = min cap (gate_count (gates_of p) (at t) g)

  -- the first i gates of the list hold what they must
  abbrev Filled : ℕ → List ℕ → Type 0
  Filled i t = (j : ℕ) → j < i → at t (at l j) ≡ worth t (at l j)

  -- a store for place i leaves what the gates up to it look at
  kept : (i v j : ℕ) (t : List ℕ) → i < length l → j ≤ i → worth (set t (at l i) v) (at l j) ≡ worth t (at l j)
  kept i v j t h le =
      gate_capped p S cap (at (set t (at l i) v)) (at t) (at l j) (P.placed.below j (omega arith)) (λ c e.
      let s = P.placed.after j (omega arith) c e in
      ap (λ (x : ℕ). min cap x) (get_or-set_other t (at l i) c v 0 (λ q.
      let z : s.0 ≡ i = P.placed.once s.0 i (omega (arith, s.1)) h (s.2 ∙ q) in
      omega (arith, s.1))))

  fill_next : (i : ℕ) (t : List ℕ) → i < length l → length t ≡ length l → Filled i t → Filled (suc i) (set t (at l i) (worth t (at l i)))
  fill_next i t h len f j k = elim (dec_lt j i) [
    | yes a ↦
        get_or-set_other t (at l i) (at l j) (worth t (at l i)) 0 (λ q. let z : j ≡ i = P.placed.once j i (omega arith) h q in omega arith)
        ∙ f j a ∙ sym (kept i (worth t (at l i)) j t h (omega arith))
    | no a ↦
        let e : i ≡ j = omega arith in
        let b : at l i < length t = omega (arith, P.placed.below i h, P.count) in
        subst (λ (z : ℕ). at (set t (at l i) (worth t (at l i))) (at l z) ≡ worth (set t (at l i) (worth t (at l i))) (at l z)) e
        (get_or-set_same t (at l i) (worth t (at l i)) 0 b ∙ sym (kept i (worth t (at l i)) i t h (omega arith)))
  ]

  fill_rest : (k i : ℕ) (t : List ℕ) → i + k ≡ length l → length t ≡ length l → Filled i t → Filled (length l) (fill (gates_of p) cap (drop i l) t)
  unfolding fill
  fill_rest zero i t e len f =
      subst (λ (x : List ℕ). Filled (length l) (fill (gates_of p) cap x t)) (sym (drop_of_length-le l {i = i} (omega arith))) (λ j k. f j (omega arith))
  fill_rest (suc k) i t e len f =
      let h : i < length l = omega arith in
      let v : ℕ = worth t (at l i) in
      subst (λ (x : List ℕ). Filled (length l) (fill (gates_of p) cap x t)) (sym (drop-cons l i 0 h))
      (fill_rest k (suc i) (set t (at l i) v) (omega arith) (length-set t (at l i) v ∙ len) (fill_next i t h len f))

  filled : (t : List ℕ) → length t ≡ length (gates_of p) → Solves cap p (at (fill (gates_of p) cap l t))
  filled t len g h =
      let s = P.every g h in
      let r = fill_rest (length l) 0 t (omega arith) (len ∙ sym P.count) (λ j k. absurd (not-suc-le-zero k)) s.0 (omega (arith, s.1, P.count)) in
      subst (λ (z : ℕ). at (fill (gates_of p) cap l t) z ≡ worth (fill (gates_of p) cap l t) z) s.2 r

-- filled along the order a table solves its equation, whatever it held before
pub order_filled : (p : Program) → errors p ≡ [] → (cap : ℕ) (t : List ℕ) → length t ≡ length (gates_of p)
    → Solves cap p (at (fill (gates_of p) cap (order_of p) t))
order_filled p ok cap t len = filled p (admitted p ok).0 cap (order_of p) (order_admitted p ok) t len

-- a count that goes no further than to one over a limit tells what is over the limit
pub over_limit : (limit a b : ℕ) → min (suc limit) a ≡ min (suc limit) b → ltb limit a ≡ ltb limit b
over_limit limit a b e =
    bool_same (ltb limit a) (ltb limit b)
    (λ t. let h = ltb→lt limit a t in lt→ltb limit b (omega arith))
    (λ t. let h = ltb→lt limit b t in lt→ltb limit a (omega arith))
