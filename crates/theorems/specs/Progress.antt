-- A statement that passes is not stuck, and so neither is a program without errors.
use Rattle.std.specs.Prelude.{◌≡◌, ◌⊎◌, true, false, ◌&&◌, ◌||◌, ltb, leb, length, get_or, Option, Some, None}
use Rattle.std.proofs.Math.Path.{refl, sym, subst}
use Rattle.std.proofs.Common.{ap, ◌∙◌, inl, inr, eqb→eq, leb→le}
use Rattle.std.proofs.Math.Bool.{Bool}
use mathlib.Core.List.{List, [], ◌∷◌, ◌++◌, map}
use Prim.Native.Nat.{ℕ, zero, suc, ◌+◌, ◌^◌, ◌≤◌, ◌<◌}
use native.Mathlib.Omega.{arith}
use Rattle.std.proofs.Math.Dec.{T, eqb, eqb_refl}
use Rattle.rules.specs.declared.Operand.{Operand}
use Rattle.rules.specs.declared.Header.{Header}
use Rattle.rules.specs.Basics.{pick}
use Rattle.rules.specs.Syntax.{Stmt, u, cx, measure, reset, barrier, call, if, missing, Gate, Program}
use Rattle.rules.specs.Checking.{gate_at, number_of, is_gate, header_of, header, gates_of, top_scope, body_scope, Asked, quantum, classic, Sized, size, bad, assert_reg}
use Rattle.rules.specs.Calls.{errors}
use Rattle.rules.specs.Run.{Entry, barrier_end_e, if_e, if_end_e, Out, stuck, done, both, guard, with, turns, Place, start_of, size_only, sizes, common, paired, lanes, spread, all_known, qubits_from, barrier_qubits, calling, run, runs, body_place, run_body, run_gate, top_place, tops, run_at, run_of}
use Rattle.theorems.specs.Words.{NoWalk, Each, calls_in, totals, Inside, numbered, called, called_in, called_by}
use Rattle.theorems.specs.Search.{and_T, or_T, or_left, or_right}
use Rattle.theorems.specs.Walks.{no_long}
use Rattle.theorems.specs.Callees.{called_in_lt, calls_within, body_calls_lem}
use Rattle.theorems.specs.Agree.{callable, pairing, fits, is, passes, pass_all, sizes_cons, sizes_nil}
use Rattle.theorems.specs.Rows.{Bounded, top_bounded, body_bounded}
use Rattle.theorems.specs.Runs.{if_run, deeper}
use Rattle.theorems.specs.Admitted.{Sound, pass_body, admitted}

-- ---- runs that end, with bits that are there

-- not stuck, and each entry's bits are there
abbrev pub Fine : (Bool → ℕ) → Out → Type 0
Fine tot stuck = ⊥
Fine tot (done es) = Each (Inside tot) es

each_append : {A : Type 0} (P : A → Type 0) (xs ys : List A) → Each P xs → Each P ys → Each P (xs ++ ys)
each_append P [] ys a b = b
each_append P (x ∷ xs) ys a b = (a.0, each_append P xs ys a.1 b)

-- a bit for each operand, below the total of its kind
abbrev Under : (Bool → ℕ) → List ℕ → List Asked → Type 0
Under tot [] [] = Unit {0}
Under tot [] (q ∷ qs) = ⊥
Under tot (b ∷ bs) [] = ⊥
Under tot (b ∷ bs) (q ∷ qs) = (b < tot q.classical) × Under tot bs qs

-- what is known of a name counts the arguments of its gate
abbrev Arity : List Gate → (ℕ → Option Header) → Type 0
Arity gs gates = (x : ℕ) (h : Header) → gates x ≡ Some h → h.args ≡ length (gate_at gs h.number).args

header_arity : (gs : List Gate) → Arity gs (header gs)
unfolding header
header_arity gs x h = go (is_gate gs x)
  where
    go : (b : Bool) → pick b (Some (header_of gs (number_of gs x))) None ≡ Some h → h.args ≡ length (gate_at gs h.number).args
    go true e = let q : header_of gs (number_of gs x) ≡ h = cc in subst (λ (k : Header). k.args ≡ length (gate_at gs k.number).args) q refl
    go false e = let k : ◌≡◌ {A = ℕ} 0 1 = cc in absurd (omega arith)

module _ (tot : Bool → ℕ) where
  fine_both : (a b : Out) → Fine tot a → Fine tot b → Fine tot (both a b)
  fine_both stuck b f g = f
  fine_both (done es) stuck f g = g
  fine_both (done es) (done fs) f g = each_append (Inside tot) es fs f g

  fine_guard : (b : Bool) (o : Out) → T b → Fine tot o → Fine tot (guard b o)
  fine_guard true o t f = f
  fine_guard false o t f = absurd t

  fine_calling : (found : Option Header) (params args : ℕ) (f : ℕ → Out) → T (callable found params args)
      → ((h : Header) → found ≡ Some h → h.args ≡ args → Fine tot (f h.number)) → Fine tot (calling found params args f)
  fine_calling None params args f t r = absurd t
  fine_calling (Some h) params args f t r =
      fine_guard (callable (Some h) params args) (f h.number) t
      (r h refl (eqb→eq h.args args (and_T (eqb h.params params) (eqb h.args args) t).1))

  fine_turns : (k j : ℕ) (f : ℕ → Out) → ((i : ℕ) → i < j + k → Fine tot (f i)) → Fine tot (turns k j f)
  unfolding turns
  fine_turns zero j f h = tt
  fine_turns (suc k) j f h = fine_both (f j) (turns k (suc j) f) (h j (omega arith)) (fine_turns k (suc j) f (λ i l. h i (omega arith)))

  first_under : (bs : List ℕ) (q : Asked) (qs : List Asked) → Under tot bs (q ∷ qs) → get_or bs 0 0 < tot q.classical
  first_under [] q qs a = absurd a
  first_under (b ∷ bs) q qs a = a.0

  second_under : (bs : List ℕ) (q r : Asked) (qs : List Asked) → Under tot bs (q ∷ r ∷ qs) → get_or bs 1 0 < tot r.classical
  second_under [] q r qs a = absurd a
  second_under (b ∷ bs) q r qs a = first_under bs r qs a.1

  quantum_under : (bs : List ℕ) (os : List Operand) → Under tot bs (map quantum os) → Each (λ q. q < tot false) bs × (length bs ≡ length os)
  quantum_under [] [] a = (tt, refl)
  quantum_under [] (o ∷ os) a = absurd a
  quantum_under (b ∷ bs) [] a = absurd a
  quantum_under (b ∷ bs) (o ∷ os) a = let r = quantum_under bs os a.1 in ((a.0, r.0), ap suc r.1)

  fine_qubits : (k q : ℕ) → q + k ≤ tot false → Each (Inside tot) (qubits_from k q)
  unfolding qubits_from
  fine_qubits zero q h = tt
  fine_qubits (suc k) q h = (omega arith, fine_qubits k (suc q) (omega arith))

  module _ (P : Place) (B : Bounded tot P) where
    -- the bit of an operand in turn j
    lane_lt : (q : Asked) (n k j : ℕ) → assert_reg P.scope.regs 0 q ≡ size n → T (leb n 1 || eqb n k) → j < k
        → start_of P q.operand + pick (eqb n 1) 0 j < tot q.classical
    lane_lt q n k j e m l = go (eqb n 1) refl (B q n e) (or_T (leb n 1) (eqb n k) m)
      where
        go : (b : Bool) → eqb n 1 ≡ b → (0 < n) × (start_of P q.operand + n ≤ tot q.classical) → T (leb n 1) ⊎ T (eqb n k)
            → start_of P q.operand + pick b 0 j < tot q.classical
        go true x z m = omega arith
        go false x z (inl y) =
            let a = leb→le n 1 y in
            let c : n ≡ 1 = omega arith in
            absurd (subst T (ap (λ (v : ℕ). eqb v 1) (sym c) ∙ x) tt)
        go false x z (inr y) = let a = eqb→eq n k y in omega arith

    lanes_under : (k j : ℕ) (qs : List Asked) (ns : List ℕ) → sizes P.scope qs ≡ Some ns → T (paired k ns) → j < k → Under tot (lanes P j ns qs) qs
    unfolding lanes paired
    lanes_under k j [] ns e p l = rw (sizes_nil P.scope ns e) tt
    lanes_under k j (q ∷ qs) ns e p l =
        let s = sizes_cons P.scope q qs ns e in
        subst (λ (z : List ℕ). T (paired k z) → Under tot (lanes P j z (q ∷ qs)) (q ∷ qs)) (sym s.all)
        (λ p. let a = and_T (leb s.head 1 || eqb s.head k) (paired k s.tail) p in
        (lane_lt q s.head k j (s.one 0) a.0 l, lanes_under k j qs s.tail s.rest a.1 l)) p

    fine_spread : (qs : List Asked) (f : List ℕ → Out) → T (pairing (sizes P.scope qs)) → ((bs : List ℕ) → Under tot bs qs → Fine tot (f bs))
        → Fine tot (spread P qs f)
    unfolding spread
    fine_spread qs f t h = go (sizes P.scope qs) refl t
      where
        go : (x : Option (List ℕ)) → sizes P.scope qs ≡ x → T (pairing x)
            → Fine tot (with x (λ ns. guard (paired (common ns) ns) (turns (common ns) 0 (λ j. f (lanes P j ns qs)))))
        go None e t = absurd t
        go (Some ns) e t =
            fine_guard (paired (common ns) ns) (turns (common ns) 0 (λ j. f (lanes P j ns qs))) t
            (fine_turns (common ns) 0 (λ j. f (lanes P j ns qs)) (λ j l. h (lanes P j ns qs) (lanes_under (common ns) j qs ns e t (omega arith))))

    fine_barrier : (os : List Operand) (ns : List ℕ) → sizes P.scope (map quantum os) ≡ Some ns → Each (Inside tot) (barrier_qubits P ns (map quantum os))
    unfolding barrier_qubits
    fine_barrier [] ns e = rw (sizes_nil P.scope ns e) tt
    fine_barrier (o ∷ os) ns e =
        let s = sizes_cons P.scope (quantum o) (map quantum os) ns e in
        subst (λ (z : List ℕ). Each (Inside tot) (barrier_qubits P z (quantum o ∷ map quantum os))) (sym s.all)
        (each_append (Inside tot) (qubits_from s.head (start_of P o)) (barrier_qubits P s.tail (map quantum os))
        (fine_qubits s.head (start_of P o) (B (quantum o) s.head (s.one 0)).1) (fine_barrier os s.tail s.rest))

    fine_if : (o : Operand) (v : ℕ) (r : Out) → T (fits v (size_only (assert_reg P.scope.regs 0 (classic o)))) → Fine tot r → Fine tot (if_run P o v r)
    fine_if o v r t f = go (assert_reg P.scope.regs 0 (classic o)) refl t
      where
        go : (z : Sized) → assert_reg P.scope.regs 0 (classic o) ≡ z → T (fits v (size_only z))
            → Fine tot (with (size_only z) (λ w. guard (ltb v (2 ^ w)) (both (done (if_e (start_of P o) w v ∷ [])) (both r (done (if_end_e ∷ []))))))
        go (bad x) e t = absurd t
        go (size w) e t =
            let b = B (classic o) w e in
            fine_guard (ltb v (2 ^ w)) _ t
            (fine_both (done (if_e (start_of P o) w v ∷ [])) (both r (done (if_end_e ∷ []))) ((omega arith, b.1), tt)
            (fine_both r (done (if_end_e ∷ [])) f (tt, tt)))

    module _ (gs : List Gate) (arity : Arity gs P.scope.gates) (f : ℕ → List ℕ → Out) where
      -- the calls to the gates that the test names end well
      abbrev CallsFine : (ℕ → Bool) → Type 0
      CallsFine t = (c : ℕ) (qs : List ℕ) → T (t c) → length qs ≡ length (gate_at gs c).args → Each (λ q. q < tot false) qs → Fine tot (f c qs)

      run_fine : (s : Stmt) → T (passes P.scope s) → CallsFine (called P.scope.gates s) → Fine tot (run f P s)
      unfolding run passes called
      run_fine (u sp o x y z) t h =
          let a = and_T (pairing (sizes P.scope (quantum o ∷ []))) (all_known P.scope.params (x ∷ y ∷ z ∷ [])) t in
          fine_guard (all_known P.scope.params (x ∷ y ∷ z ∷ [])) _ a.1
          (fine_spread (quantum o ∷ []) _ a.0 (λ bs k. (first_under bs (quantum o) [] k, tt)))
      run_fine (cx sp x y) t h =
          fine_spread (quantum x ∷ quantum y ∷ []) _ t
          (λ bs k. ((first_under bs (quantum x) (quantum y ∷ []) k, second_under bs (quantum x) (quantum y) [] k), tt))
      run_fine (measure sp x y) t h =
          fine_spread (quantum x ∷ classic y ∷ []) _ t
          (λ bs k. ((first_under bs (quantum x) (classic y ∷ []) k, second_under bs (quantum x) (classic y) [] k), tt))
      run_fine (reset sp o) t h = fine_spread (quantum o ∷ []) _ t (λ bs k. (first_under bs (quantum o) [] k, tt))
      run_fine (barrier sp os) t h = go (sizes P.scope (map quantum os)) refl t
        where
          go : (x : Option (List ℕ)) → sizes P.scope (map quantum os) ≡ x → T (is x)
              → Fine tot (with x (λ ns. done (barrier_qubits P ns (map quantum os) ++ (barrier_end_e ∷ []))))
          go None e t = absurd t
          go (Some ns) e t = each_append (Inside tot) (barrier_qubits P ns (map quantum os)) (barrier_end_e ∷ []) (fine_barrier os ns e) (tt, tt)
      run_fine (call sp ns x es os) t h =
          let k : Bool = all_known P.scope.params es in
          let a = and_T (callable (P.scope.gates x) (length es) (length os)) (pairing (sizes P.scope (map quantum os)) && k) t in
          let b = and_T (pairing (sizes P.scope (map quantum os))) k a.1 in
          fine_calling (P.scope.gates x) (length es) (length os) _ a.0 (λ g e n.
          let i : T (numbered (P.scope.gates x) g.number) = rw e (eqb_refl g.number) in
          fine_guard k _ b.1 (fine_spread (map quantum os) (f g.number) b.0 (λ bs m.
          let r = quantum_under bs os m in
          h g.number bs i (r.1 ∙ sym n ∙ arity x g e) r.0)))
      run_fine (if sp o vs v s) t h =
          let a = and_T (fits v (size_only (assert_reg P.scope.regs 0 (classic o)))) (passes P.scope s) t in
          fine_if o v (run f P s) a.0 (run_fine s a.1 h)
      run_fine missing t h = tt

      runs_fine : (ss : List Stmt) → T (pass_all P.scope ss) → CallsFine (called_in P.scope.gates ss) → Fine tot (runs f P ss)
      unfolding runs pass_all called_in
      runs_fine [] t h = tt
      runs_fine (s ∷ ss) t h =
          let a = and_T (passes P.scope s) (pass_all P.scope ss) t in
          fine_both (run f P s) (runs f P ss)
          (run_fine s a.0 (λ c qs k. h c qs (or_left (called P.scope.gates s c) (called_in P.scope.gates ss c) k)))
          (runs_fine ss a.1 (λ c qs k. h c qs (or_right (called P.scope.gates s c) (called_in P.scope.gates ss c) k)))

-- ---- gates and programs

module _ (p : Program) (S : Sound p) where
  -- a call of g within depth d ends well, if no d calls one after another begin at g
  pub gate_fine : (tot : Bool → ℕ) (d g : ℕ) (qs : List ℕ) → NoWalk (calls_in p) d g → g < length (gates_of p)
      → length qs ≡ length (gate_at (gates_of p) g).args → Each (λ q. q < tot false) qs → Fine tot (run_gate (gates_of p) d g qs)
  unfolding run_gate body_place body_scope
  gate_fine tot zero g qs few b len a = absurd (few g refl)
  gate_fine tot (suc d) g qs few b len a =
      go (gate_at (gates_of p) g).body refl (S.bodies g b)
      (λ c rs e. gate_fine tot d c rs (λ v w. few v (c, e, w)) (calls_within p g c e).1)
    where
      gs : List Gate
      gs = gates_of p

      go : (o : Option (List Stmt)) → (gate_at gs g).body ≡ o → T (pass_body gs (gate_at gs g) o)
          → ((c : ℕ) (rs : List ℕ) → T (calls_in p g c) → length rs ≡ length (gate_at gs c).args → Each (λ q. q < tot false) rs → Fine tot (run_gate gs d c rs))
          → Fine tot (run_body gs (run_gate gs d) (gate_at gs g) o qs)
      go None e t ih = (a, tt)
      go (Some ss) e t ih =
          runs_fine tot (body_place gs (gate_at gs g) qs) (body_bounded tot gs (gate_at gs g) qs len a) gs (header_arity gs) (run_gate gs d) ss t
          (λ c rs k. ih c rs (body_calls_lem p g c b (subst (λ (o : Option (List Stmt)). T (called_by (header gs) o c)) (sym e) k)))

  -- the whole program within a depth that is enough for its calls
  pub program_fine : (d : ℕ) → ((g : ℕ) → g < length (gates_of p) → NoWalk (calls_in p) d g) → Fine (totals p) (run_at d p)
  unfolding run_at top_place top_scope
  program_fine d few =
      runs_fine (totals p) (top_place (gates_of p) p.decls) (top_bounded (gates_of p) p.decls S.rows) (gates_of p) (header_arity (gates_of p))
      (run_gate (gates_of p) d) (tops p.decls) S.main
      (λ c rs k. let b = called_in_lt (gates_of p) (tops p.decls) c k in gate_fine (totals p) d c rs (few c b) b)

pub fine_done : (tot : Bool → ℕ) (o : Out) → Fine tot o → (es : List Entry) × (o ≡ done es) × Each (Inside tot) es
fine_done tot stuck f = absurd f
fine_done tot (done es) f = (es, refl, f)

pub progress : (p : Program) → errors p ≡ [] → (es : List Entry) × (run_of p ≡ done es) × Each (Inside (totals p)) es
unfolding run_of
progress p e =
    let a = admitted p e in
    let n : ℕ = length (gates_of p) in
    fine_done (totals p) (run_at n p) (program_fine p a.0 n (no_long (calls_in p) n (calls_within p) a.1))

-- more depth changes nothing
pub progress_deeper : (p : Program) → errors p ≡ [] → (d : ℕ) → length (gates_of p) ≤ d → run_at d p ≡ run_of p
unfolding run_of
progress_deeper p e d h = let r = progress p e in deeper p (length (gates_of p)) d h r.0 r.1 ∙ sym r.1
