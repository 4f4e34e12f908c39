-- Of a program without errors what is written is its run.
use Rattle.std.specs.Prelude.{◌≡◌, ◌⊎◌, Bool, ◌||◌, leb, replicate, Option, Some, None}
use Rattle.std.proofs.Math.Path.{refl, sym, ap, ap₂, subst}
use Rattle.std.proofs.Common.{◌∙◌, mod-lt, eq-eqb, ne_eqb, eqb-true, lit<}
use Rattle.std.proofs.Math.Logic.{⊎_elim}
use Rattle.std.proofs.Math.Bool.{true, false}
use mathlib.Core.List.{List, [], ◌∷◌, ◌++◌, map}
use Prim.Native.Nat.{ℕ, zero, suc, ◌+◌, ◌-◌, ◌*◌, ◌<◌, ◌≤◌}
use native.Mathlib.Omega.{arith}
use Rattle.std.proofs.Math.Decide.{ℕ_discrete}
use Rattle.std.proofs.Math.Dec.{T, eqb, leb→le, eqb→eq}
use Rattle.std.proofs.Math.ListN.{length, get_or, length-map}
use Rattle.rules.specs.declared.Operand.{Operand}
use Rattle.rules.specs.declared.Reg.{Reg}
use Rattle.rules.specs.declared.Header.{Header}
use Rattle.rules.specs.Basics.{pick}
use Rattle.rules.specs.Reading.{load_at}
use Rattle.rules.specs.Syntax.{Stmt, u, cx, measure, reset, barrier, call, if, missing, Gate}
use Rattle.rules.specs.Grouping.{stmts}
use Rattle.rules.specs.Checking.{gate_at, number_of, is_gate, header_of, header, body_scope, latest, later, argument, Asked, quantum, classic, Sized, size, bad, assert_reg}
use Rattle.rules.specs.Run.{Entry, u_e, cx_e, measure_e, reset_e, barrier_e, barrier_end_e, opaque_e, if_e, if_end_e, bits_bytes, entry_field, Out, done, turns, Place, start_of, size_only, sizes, common, paired, lanes, spread, all_known, qubits_from, barrier_qubits, run, runs, body_place, run_body, run_gate}
use Rattle.theorems.specs.Words.{Each}
use Rattle.theorems.specs.Search.{and_T, or_T}
use Rattle.theorems.specs.Gates.{number_of_lem}
use Rattle.theorems.specs.Agree.{sizes_cons, sizes_nil, callable}
use Rattle.theorems.specs.Rows.{Bounded, body_bounded, latest_each, fitting}
use Rattle.theorems.specs.Runs.{stuck_done, both_done, guard_done, with_done, calling_done, spread_done, if_done}
use Rattle.theorems.specs.Count.{counts}
use Rattle.theorems.specs.Counted.{gate_length}
use Rattle.views.specs.View.{name_in, named_in, row_in, args_in, next_in, rest}
use Rattle.views.specs.Steps.{gate_at_place}
use Rattle.output.specs.Bytes.{plus}
use Rattle.tables.specs.Tables.{gate_in}
use Rattle.counts.specs.Sums.{size_in, sizes_in}
use Rattle.counts.specs.Places.{gate_here, Placed}
use Rattle.entries.specs.declared.Kind.{Kind}
use Rattle.entries.specs.declared.Kind.TheVariants.{U, Reset, Barrier}
use Rattle.entries.specs.Kinds.{one_of}
use Rattle.run.specs.Lines.{start_in, lane_of, lanes_in, turn_list, spread_in, two_of, one_turns, two_turns, barrier_row, line, lines, top_line, top_lines, frame_of, gate_lines}
use Rattle.expand.specs.Tables.{Measures, sizes_same, body_single, body_measures, frame_bits}
use Rattle.expand.specs.Counting.{counts_deeper}

done_same : (es fs : List Entry) → done es ≡ done fs → fs ≡ es
done_same es fs e = cc

size_size : (z : Sized) (n : ℕ) → size_only z ≡ Some n → z ≡ size n
size_size (size m) n e = cc
size_size (bad x) n e = let k : ◌≡◌ {A = ℕ} 0 1 = cc in absurd (omega arith)

-- ---- turns

turns_same : (k j : ℕ) (f : ℕ → Out) (g : ℕ → List Entry) (es : List Entry) → turns k j f ≡ done es → ((i : ℕ) → i < j + k → (fs : List Entry) → f i ≡ done fs → fs ≡ g i) → es ≡ turn_list k j g
unfolding turns turn_list
turns_same zero j f g es e h = done_same [] es e
turns_same (suc k) j f g es e h =
    let b = both_done (f j) (turns k (suc j) f) es e in
    b.all ∙ ap₂ (λ (x y : List Entry). x ++ y) (h j (omega arith) b.left b.one) (turns_same k (suc j) f g b.right b.two (λ i l. h i (omega arith)))

each_append : {A : Type 0} (Q : A → Type 0) (xs ys : List A) → Each Q xs → Each Q ys → Each Q (xs ++ ys)
each_append Q [] ys a b = b
each_append Q (x ∷ xs) ys a b = (a.0, each_append Q xs ys a.1 b)

turns_each : (Q : Entry → Type 0) (k j : ℕ) (f : ℕ → Out) (es : List Entry) → turns k j f ≡ done es → ((i : ℕ) → i < j + k → (fs : List Entry) → f i ≡ done fs → Each Q fs) → Each Q es
unfolding turns
turns_each Q zero j f es e h = subst (Each Q) (sym (done_same [] es e)) tt
turns_each Q (suc k) j f es e h =
    let b = both_done (f j) (turns k (suc j) f) es e in
    subst (Each Q) (sym b.all) (each_append Q b.left b.right (h j (omega arith) b.left b.one) (turns_each Q k (suc j) f b.right b.two (λ i l. h i (omega arith))))

turns_empty : (k j : ℕ) → turn_list k j (λ i. []) ≡ []
unfolding turn_list
turns_empty zero j = refl
turns_empty (suc k) j = turns_empty k (suc j)

common_last : (n : ℕ) → pick (eqb n 1) 1 n ≡ n
common_last n = go (eqb n 1) refl
  where
    go : (b : Bool) → eqb n 1 ≡ b → pick b 1 n ≡ n
    go true e = sym (eqb-true n 1 e)
    go false e = refl

-- ---- where a statement runs, by tables; every bit is below 4,096

pub record Stands (P : Place) (gates regs bits : List ℕ) : Type 0 where
  pub sized : Measures P.scope regs
  pub begun : (q : Asked) (n : ℕ) → assert_reg P.scope.regs 0 q ≡ size n → P.bit q.operand.name ≡ get_or bits q.operand.name 0
  pub known : (x : ℕ) → P.scope.gates x ≡ gate_in gates x
  pub bounded : Bounded (λ k. 4096) P

abbrev pub Low : List ℕ → Type 0
Low bs = Each (λ b. b < 4096) bs

-- no entry takes more bytes than a call on 255 qubits
unfoldable pub Short : Entry → Type 0
Short e = length (entry_field e) ≤ 1025

qubits_short : (k q : ℕ) → Each Short (qubits_from k q)
unfolding qubits_from Short entry_field
qubits_short zero q = tt
qubits_short (suc k) q = (omega arith, qubits_short k (suc q))

barrier_short : (P : Place) (ns : List ℕ) (qs : List Asked) → Each Short (barrier_qubits P ns qs)
unfolding barrier_qubits
barrier_short P [] qs = tt
barrier_short P (n ∷ ns) [] = tt
barrier_short P (n ∷ ns) (q ∷ qs) = each_append Short (qubits_from n (start_of P q.operand)) (barrier_qubits P ns qs) (qubits_short n (start_of P q.operand)) (barrier_short P ns qs)

bits_length : (qs : List ℕ) → length (bits_bytes qs) ≡ 4 * length qs
unfolding bits_bytes
bits_length [] = omega arith
bits_length (q ∷ qs) = omega (arith, bits_length qs)

opaque_short : (x : ℕ) (qs : List ℕ) → length qs ≤ 255 → Short (opaque_e x qs)
unfolding Short entry_field
opaque_short x qs h = omega (arith, bits_length qs)

module _ (P : Place) (gates regs bits : List ℕ) (S : Stands P gates regs bits) where
  start_same : (q : Asked) (n : ℕ) → assert_reg P.scope.regs 0 q ≡ size n → start_of P q.operand ≡ start_in bits q.operand
  unfolding start_of start_in
  start_same q n e =
      let b = S.bounded q n e in
      let s = S.begun q n e in
      let x : ℕ = pick q.operand.indexed q.operand.index 0 in
      rw (← s) (omega arith)

  lanes_same : (qs : List Asked) (ns : List ℕ) → sizes P.scope qs ≡ Some ns → (j : ℕ) → j ≤ 4096 → lanes P j ns qs ≡ lanes_in regs bits j qs
  unfolding lanes lanes_in
  lanes_same [] ns e j l = rw (sizes_nil P.scope ns e) refl
  lanes_same (q ∷ qs) ns e j l =
      let s = sizes_cons P.scope q qs ns e in
      let a = S.sized q s.head (s.one 0) in
      let b = start_same q s.head (s.one 0) in
      let c = S.bounded q s.head (s.one 0) in
      subst (λ (l : List ℕ). lanes P j l (q ∷ qs) ≡ lanes_in regs bits j (q ∷ qs)) (sym s.all)
      (ap₂ (λ (x : ℕ) (l : List ℕ). x ∷ l) (lane (start_of P q.operand) (start_in bits q.operand) s.head (eqb s.head 1) (eqb (size_in regs q) 1) b (ap (λ (n : ℕ). eqb n 1) a) c.1) (lanes_same qs s.tail s.rest j l))
    where
      small : (b : Bool) → pick b 0 j ≤ j
      small true = omega arith
      small false = omega arith

      lane : (x y n : ℕ) (c d : Bool) → x ≡ y → c ≡ d → x + n ≤ 4096 → x + pick c 0 j ≡ plus y (pick d 0 j)
      lane x y n c d e f h = rw (← e, ← f) (omega (arith, small c))

  lanes_low : (qs : List Asked) (ns : List ℕ) → sizes P.scope qs ≡ Some ns → (k j : ℕ) → T (paired k ns) → j < k → Low (lanes P j ns qs) × (length (lanes P j ns qs) ≡ length qs)
  unfolding lanes paired
  lanes_low [] ns e k j t l = rw (sizes_nil P.scope ns e) (tt, refl)
  lanes_low (q ∷ qs) ns e k j t l =
      let s = sizes_cons P.scope q qs ns e in
      subst (λ (l : List ℕ). T (paired k l) → Low (lanes P j l (q ∷ qs)) × (length (lanes P j l (q ∷ qs)) ≡ suc (length qs))) (sym s.all)
      (λ t.
      let a = and_T (leb s.head 1 || eqb s.head k) (paired k s.tail) t in
      let r = lanes_low qs s.tail s.rest k j a.1 l in
      ((one s.head (or_T (leb s.head 1) (eqb s.head k) a.0) (S.bounded q s.head (s.one 0)), r.0), ap suc r.1)) t
    where
      one : (n : ℕ) → T (leb n 1) ⊎ T (eqb n k) → (0 < n) × (start_of P q.operand + n ≤ 4096) → start_of P q.operand + pick (eqb n 1) 0 j < 4096
      one n m b = elim (ℕ_discrete n 1) [
        | yes e ↦ rw (eq-eqb n 1 e) (omega arith)
        | no e ↦
            let z : n ≡ k = ⊎_elim (λ x. let y = leb→le n 1 x in absurd (e (omega arith))) (λ x. eqb→eq n k x) m in
            rw (ne_eqb n 1 e) (omega arith)
      ]

  common_small : (qs : List Asked) (ns : List ℕ) → sizes P.scope qs ≡ Some ns → common ns ≤ 4096
  unfolding common
  common_small [] ns e = rw (sizes_nil P.scope ns e) (omega arith)
  common_small (q ∷ qs) ns e =
      let s = sizes_cons P.scope q qs ns e in
      let c = S.bounded q s.head (s.one 0) in
      subst (λ (l : List ℕ). common l ≤ 4096) (sym s.all) (go (eqb s.head 1) s.head (common s.tail) (omega (arith, c.1)) (common_small qs s.tail s.rest))
    where
      go : (b : Bool) (m n : ℕ) → m ≤ 4096 → n ≤ 4096 → pick b n m ≤ 4096
      go true m n h k = k
      go false m n h k = h

  spread_same : (qs : List Asked) (f : List ℕ → Out) (g : List ℕ → List Entry) (es : List Entry) → spread P qs f ≡ done es
      → ((bs : List ℕ) → length bs ≡ length qs → Low bs → (fs : List Entry) → f bs ≡ done fs → fs ≡ g bs) → es ≡ spread_in regs bits qs g
  unfolding spread_in
  spread_same qs f g es e h =
      let s = spread_done P qs f es e in
      let n = sizes_same P.scope regs S.sized qs s.sized s.have in
      let c = common_small qs s.sized s.have in
      turns_same (common s.sized) 0 _ (λ j. g (lanes_in regs bits j qs)) es s.ran (λ i l fs d.
      let r = lanes_low qs s.sized s.have (common s.sized) i s.pair (omega arith) in
      h (lanes P i s.sized qs) r.1 r.0 fs d ∙ ap g (lanes_same qs s.sized s.have i (omega arith)))
      ∙ ap (λ (l : List ℕ). turn_list (common l) 0 (λ j. g (lanes_in regs bits j qs))) n

  spread_empty : (qs : List Asked) → spread_in regs bits qs (λ bs. []) ≡ []
  unfolding spread_in
  spread_empty qs = turns_empty (common (sizes_in regs qs)) 0

  -- a property of the entries of every turn is one of all
  spread_each : (Q : Entry → Type 0) (qs : List Asked) (f : List ℕ → Out) (es : List Entry) → spread P qs f ≡ done es
      → ((bs : List ℕ) → length bs ≡ length qs → Low bs → (fs : List Entry) → f bs ≡ done fs → Each Q fs) → Each Q es
  spread_each Q qs f es e h =
      let s = spread_done P qs f es e in
      turns_each Q (common s.sized) 0 _ es s.ran (λ i l fs d.
      let r = lanes_low qs s.sized s.have (common s.sized) i s.pair (omega arith) in
      h (lanes P i s.sized qs) r.1 r.0 fs d)

  -- entries of one bit and of two
  ones : (q : Asked) (k : Kind) → spread_in regs bits (q ∷ []) (λ bs. one_of k (get_or bs 0 0) ∷ []) ≡ one_turns k (start_in bits q.operand) (size_in regs q)
  unfolding spread_in sizes_in lanes_in one_turns common
  ones q k = rw (common_last (size_in regs q)) refl

  twos : (b : Bool) (q r : Asked) → spread_in regs bits (q ∷ r ∷ []) (λ bs. two_of b (get_or bs 0 0) (get_or bs 1 0) ∷ [])
      ≡ two_turns b (start_in bits q.operand) (size_in regs q) (start_in bits r.operand) (size_in regs r)
  unfolding spread_in sizes_in lanes_in two_turns common
  twos b q r = rw (common_last (size_in regs r)) refl

  -- a barrier's qubits
  qubits : (n k j s : ℕ) → j + k ≡ n → s + n ≤ 4096 → qubits_from k (s + j) ≡ turn_list k j (λ i. barrier_e (lane_of s n i) ∷ [])
  unfolding qubits_from turn_list
  qubits n zero j s e h = refl
  qubits n (suc k) j s e h =
      let z : suc (s + j) ≡ s + suc j = omega arith in
      ap₂ (λ (x : ℕ) (l : List Entry). barrier_e x ∷ l) one (ap (qubits_from k) z ∙ qubits n k (suc j) s (omega arith) h)
    where
      one : s + j ≡ lane_of s n j
      one = elim (ℕ_discrete n 1) [ yes q ↦ rw (eq-eqb n 1 q) (omega arith) | no q ↦ rw (ne_eqb n 1 q) (omega arith) ]

  barrier_same : (qs : List Asked) (ns : List ℕ) → sizes P.scope qs ≡ Some ns → barrier_qubits P ns qs ≡ barrier_row regs bits qs
  unfolding barrier_qubits barrier_row one_turns
  barrier_same [] ns e = rw (sizes_nil P.scope ns e) refl
  barrier_same (q ∷ qs) ns e =
      let s = sizes_cons P.scope q qs ns e in
      let a = S.sized q s.head (s.one 0) in
      let b = start_same q s.head (s.one 0) in
      let c = S.bounded q s.head (s.one 0) in
      let z : start_of P q.operand + 0 ≡ start_of P q.operand = omega arith in
      let w = ap (qubits_from s.head) (sym z) ∙ qubits s.head s.head 0 (start_of P q.operand) (omega arith) c.1 in
      let v : qubits_from s.head (start_of P q.operand) ≡ one_turns Barrier (start_in bits q.operand) (size_in regs q) =
      w ∙ ap₂ (λ (x n : ℕ). turn_list n 0 (λ i. barrier_e (lane_of x n i) ∷ [])) b a in
      subst (λ (l : List ℕ). barrier_qubits P l (q ∷ qs) ≡ barrier_row regs bits (q ∷ qs)) (sym s.all)
      (ap₂ (λ (x y : List Entry). x ++ y) v (barrier_same qs s.tail s.rest))

  -- ---- statements

  module _ (f : ℕ → List ℕ → Out) (f' : ℕ → List ℕ → List Entry) (table : List ℕ)
      (same : (x : ℕ) (h : Header) → P.scope.gates x ≡ Some h → (bs : List ℕ) → length bs ≡ h.args → Low bs → (es : List Entry) → f h.number bs ≡ done es → es ≡ f' h.number bs)
      (nothing : (x : ℕ) (h : Header) → P.scope.gates x ≡ Some h → get_or table h.number 0 ≡ 0 → (bs : List ℕ) (es : List Entry) → f h.number bs ≡ done es → es ≡ []) where
    run_same : (s : Stmt) (es : List Entry) → run f P s ≡ done es → es ≡ top_line f' gates table regs bits s
    unfolding run top_line line
    run_same (u sp o x y z) es e =
        spread_same (quantum o ∷ []) _ (λ bs. u_e (get_or bs 0 0) ∷ []) es (guard_done (all_known P.scope.params (x ∷ y ∷ z ∷ [])) _ es e).1 (λ bs l w fs d. done_same _ fs d) ∙ ones (quantum o) U
    run_same (cx sp x y) es e = spread_same (quantum x ∷ quantum y ∷ []) _ (λ bs. cx_e (get_or bs 0 0) (get_or bs 1 0) ∷ []) es e (λ bs l w fs d. done_same _ fs d) ∙ twos false (quantum x) (quantum y)
    run_same (measure sp x y) es e = spread_same (quantum x ∷ classic y ∷ []) _ (λ bs. measure_e (get_or bs 0 0) (get_or bs 1 0) ∷ []) es e (λ bs l w fs d. done_same _ fs d) ∙ twos true (quantum x) (classic y)
    run_same (reset sp o) es e = spread_same (quantum o ∷ []) _ (λ bs. reset_e (get_or bs 0 0) ∷ []) es e (λ bs l w fs d. done_same _ fs d) ∙ ones (quantum o) Reset
    run_same (barrier sp os) es e =
        let w = with_done (sizes P.scope (map quantum os)) _ es e in
        done_same _ es w.2 ∙ ap (λ (l : List Entry). l ++ (barrier_end_e ∷ [])) (barrier_same (map quantum os) w.0 w.1)
    run_same (call sp ns x xs os) es e =
        let c = calling_done (P.scope.gates x) (length xs) (length os) _ es e in
        let g = guard_done (all_known P.scope.params xs) _ es c.ran in
        let h = c.header in
        let k : T (callable (Some h) (length xs) (length os)) = rw c.known at c.counts in
        let a = eqb→eq h.args (length os) (and_T (eqb h.params (length xs)) (eqb h.args (length os)) k).1 in
        let m = length-map os quantum in
        let i : gate_in gates x ≡ Some h = sym (S.known x) ∙ c.known in
        rw i (go (eqb (get_or table h.number 0) 0) refl c.known g.1 (λ bs l. l ∙ m ∙ sym a))
      where
        go : {h : Header} (b : Bool) → eqb (get_or table h.number 0) 0 ≡ b → P.scope.gates x ≡ Some h → spread P (map quantum os) (f h.number) ≡ done es
            → ((bs : List ℕ) → length bs ≡ length (map quantum os) → length bs ≡ h.args)
            → es ≡ pick b [] (spread_in regs bits (map quantum os) (f' h.number))
        go {h} true q k r l =
            spread_same (map quantum os) (f h.number) (λ bs. []) es r (λ bs n w fs d. nothing x h k (eqb-true _ 0 q) bs fs d) ∙ spread_empty (map quantum os)
        go {h} false q k r l = spread_same (map quantum os) (f h.number) (f' h.number) es r (λ bs n w fs d. same x h k bs (l bs n) w fs d)
    run_same (if sp o vs v s) es e =
        let k = if_done P o v (run f P s) es e in
        let z = size_size (assert_reg P.scope.regs 0 (classic o)) k.width k.have in
        let a = S.sized (classic o) k.width z in
        let b = start_same (classic o) k.width z in
        k.all ∙ (rw (← a, ← b) (ap (λ (l : List Entry). if_e (start_of P o) k.width v ∷ (l ++ (if_end_e ∷ []))) (run_same s k.inner k.ran)))
    run_same missing es e = done_same [] es e

    pub runs_same : (ss : List Stmt) (es : List Entry) → runs f P ss ≡ done es → es ≡ top_lines f' gates table regs bits ss
    unfolding runs top_lines
    runs_same [] es e = done_same [] es e
    runs_same (s ∷ ss) es e =
        let b = both_done (run f P s) (runs f P ss) es e in
        b.all ∙ ap₂ (λ (x y : List Entry). x ++ y) (run_same s b.left b.one) (runs_same ss b.right b.two)

    -- every entry takes few bytes, if those of the calls do
    module _ (few : (x : ℕ) (h : Header) → P.scope.gates x ≡ Some h → (bs : List ℕ) → length bs ≡ h.args → Low bs → (es : List Entry) → f h.number bs ≡ done es → Each Short es) where
      run_short : (s : Stmt) (es : List Entry) → run f P s ≡ done es → Each Short es
      unfolding run Short entry_field
      run_short (u sp o x y z) es e =
          spread_each Short (quantum o ∷ []) _ es (guard_done (all_known P.scope.params (x ∷ y ∷ z ∷ [])) _ es e).1 (λ bs l w fs d. subst (Each Short) (sym (done_same _ fs d)) (omega arith, tt))
      run_short (cx sp x y) es e = spread_each Short (quantum x ∷ quantum y ∷ []) _ es e (λ bs l w fs d. subst (Each Short) (sym (done_same _ fs d)) (omega arith, tt))
      run_short (measure sp x y) es e = spread_each Short (quantum x ∷ classic y ∷ []) _ es e (λ bs l w fs d. subst (Each Short) (sym (done_same _ fs d)) (omega arith, tt))
      run_short (reset sp o) es e = spread_each Short (quantum o ∷ []) _ es e (λ bs l w fs d. subst (Each Short) (sym (done_same _ fs d)) (omega arith, tt))
      run_short (barrier sp os) es e =
          let w = with_done (sizes P.scope (map quantum os)) _ es e in
          subst (Each Short) (sym (done_same _ es w.2))
          (each_append Short (barrier_qubits P w.0 (map quantum os)) (barrier_end_e ∷ []) (barrier_short P w.0 (map quantum os)) (omega arith, tt))
      run_short (call sp ns x xs os) es e =
          let c = calling_done (P.scope.gates x) (length xs) (length os) _ es e in
          let g = guard_done (all_known P.scope.params xs) _ es c.ran in
          let k : T (callable (Some c.header) (length xs) (length os)) = rw c.known at c.counts in
          let a = eqb→eq c.header.args (length os) (and_T (eqb c.header.params (length xs)) (eqb c.header.args (length os)) k).1 in
          spread_each Short (map quantum os) (f c.header.number) es g.1 (λ bs l w fs d. few x c.header c.known bs (l ∙ length-map os quantum ∙ sym a) w fs d)
      run_short (if sp o vs v s) es e =
          let k = if_done P o v (run f P s) es e in
          subst (Each Short) (sym k.all) (omega arith, each_append Short k.inner (if_end_e ∷ []) (run_short s k.inner k.ran) (omega arith, tt))
      run_short missing es e = subst (Each Short) (sym (done_same [] es e)) tt

      pub runs_short : (ss : List Stmt) (es : List Entry) → runs f P ss ≡ done es → Each Short es
      unfolding runs
      runs_short [] es e = subst (Each Short) (sym (done_same [] es e)) tt
      runs_short (s ∷ ss) es e =
          let b = both_done (run f P s) (runs f P ss) es e in
          subst (Each Short) (sym b.all) (each_append Short b.left b.right (run_short s b.left b.one) (runs_short ss b.right b.two))

    -- where nothing classical is, there is no IF
    module _ (plain : (o : Operand) (n : ℕ) → assert_reg P.scope.regs 0 (classic o) ≡ size n → ⊥) where
      line_same : (s : Stmt) (es : List Entry) → run f P s ≡ done es → es ≡ line f' gates table regs bits s
      unfolding top_line run line
      line_same (u sp o x y z) es e = run_same (u sp o x y z) es e
      line_same (cx sp x y) es e = run_same (cx sp x y) es e
      line_same (measure sp x y) es e = run_same (measure sp x y) es e
      line_same (reset sp o) es e = run_same (reset sp o) es e
      line_same (barrier sp os) es e = run_same (barrier sp os) es e
      line_same (call sp ns x xs os) es e = run_same (call sp ns x xs os) es e
      line_same (if sp o vs v s) es e =
          let k = if_done P o v (run f P s) es e in
          absurd (plain o k.width (size_size (assert_reg P.scope.regs 0 (classic o)) k.width k.have))
      line_same missing es e = run_same missing es e

      pub lines_same : (ss : List Stmt) (es : List Entry) → runs f P ss ≡ done es → es ≡ lines f' gates table regs bits ss
      unfolding runs lines
      lines_same [] es e = done_same [] es e
      lines_same (s ∷ ss) es e =
          let b = both_done (run f P s) (runs f P ss) es e in
          b.all ∙ ap₂ (λ (x y : List Entry). x ++ y) (line_same s b.left b.one) (lines_same ss b.right b.two)

-- ---- gates

row_row : (r s : Reg) → Some r ≡ Some s → r ≡ s
row_row r s e = cc

no_row : (s : Reg) → None ≡ Some s → ⊥
no_row s e = let k : ◌≡◌ {A = ℕ} 0 1 = cc in omega arith

latest_name : (rs : List Reg) (x : ℕ) (r : Reg) → latest rs x ≡ Some r → r.name ≡ x
unfolding latest
latest_name [] x r e = absurd (no_row r e)
latest_name (s ∷ rs) x r e = go (latest_name rs x r) (latest rs x) refl (eqb s.name x) refl e
  where
    go : (latest rs x ≡ Some r → r.name ≡ x) → (f : Option Reg) → latest rs x ≡ f → (b : Bool) → eqb s.name x ≡ b → later f (pick b (Some s) None) ≡ Some r → r.name ≡ x
    go ih (Some t) q b i e = ih (q ∙ e)
    go ih None q true i e = ap (λ (z : Reg). z.name) (sym (row_row s r e)) ∙ eqb-true s.name x i
    go ih None q false i e = absurd (no_row r e)

names_small : (k : ℕ) (s : List ℕ) (at : ℕ) → Each (λ r. r.name < 512) (map argument (row_in named_in 6 k s at))
unfolding row_in named_in
names_small zero s at = tt
names_small (suc k) s at = (mod-lt _ (lit< tt), names_small k s (at + 6))

name_small : (k : ℕ) (s : List ℕ) (at x : ℕ) (r : Reg) → latest (map argument (row_in named_in 6 k s at)) x ≡ Some r → x < 512
name_small k s at x r e =
    let rs : List Reg = map argument (row_in named_in 6 k s at) in
    subst (λ (n : ℕ). n < 512) (latest_name rs x r e) (latest_each (λ r. r.name < 512) rs x r (names_small k s at) e)

pub header_number : (gs : List Gate) (x : ℕ) (h : Header) → header gs x ≡ Some h → (h.number < length gs) × (h.args ≡ length (gate_at gs h.number).args)
unfolding header
header_number gs x h e = go (is_gate gs x) refl e
  where
    go : (b : Bool) → is_gate gs x ≡ b → pick b (Some (header_of gs (number_of gs x))) None ≡ Some h → (h.number < length gs) × (h.args ≡ length (gate_at gs h.number).args)
    go true i e =
        let q : header_of gs (number_of gs x) ≡ h = cc in
        let n = number_of_lem gs x (subst T (sym i) tt) in
        subst (λ (k : Header). (k.number < length gs) × (k.args ≡ length (gate_at gs k.number).args)) q (n.0, refl)
    go false i e = let k : ◌≡◌ {A = ℕ} 0 1 = cc in absurd (omega arith)

no_classic : true ≡ false → ⊥
no_classic e = subst T e tt

empty : (es : List Entry) → length es ≡ 0 → es ≡ []
empty [] e = refl
empty (x ∷ es) e = absurd (omega arith)

module _ (gs : List Gate) (gates img places table : List ℕ) (eg : (x : ℕ) → header gs x ≡ gate_in gates x) (at : Placed img gs places) (room : length gs ≤ length places)
    (low : (g : ℕ) → g < length gs → get_or table g 0 ≡ 0 → counts gs (length gs) g ≡ 0) (few : (g : ℕ) → g < length gs → length (gate_at gs g).args ≤ 255) where
  -- a gate that counts nothing writes nothing
  pub nothing_run : (d : ℕ) → d ≤ length gs → (x : ℕ) (h : Header) → header gs x ≡ Some h → get_or table h.number 0 ≡ 0 → (bs : List ℕ) (es : List Entry) → run_gate gs d h.number bs ≡ done es → es ≡ []
  nothing_run d l x h k z bs es e =
      let n : (length gs - d) + d ≡ length gs = omega arith in
      let m = subst (λ (j : ℕ). counts gs d h.number ≤ counts gs j h.number) n (counts_deeper gs d (length gs - d) h.number) in
      empty es (omega (arith, gate_length gs d h.number bs es e, low h.number (header_number gs x h k).0 z))

  body_stands : (place : ℕ) (qs : List ℕ) → length qs ≡ length (gate_here img place).args → Low qs
      → Stands (body_place gs (gate_here img place) qs) gates [] (frame_of (load_at img place) qs (replicate 512 0))
  unfolding body_place body_scope gate_at_place args_in
  body_stands place qs len w =
      let here : Gate = gate_here img place in
      record {
        sized = body_measures gs here;
        begun = λ q n e.
            let f = fitting (latest (map argument here.args)) 0 q n e in
            frame_bits (map argument here.args) qs q.operand.name (name_small _ _ _ q.operand.name f.row f.found) (len ∙ sym (length-map here.args argument));
        known = eg;
        bounded = body_bounded (λ k. 4096) gs here qs len w;
      }

  -- what a gate writes is its run, and no entry of it is long
  abbrev Written : (d g : ℕ) → List ℕ → List Entry → Type 0
  Written d g qs es = (es ≡ gate_lines img gates table places d g qs) × Each Short es

  pub gate_run : (d : ℕ) → d ≤ length gs → (g : ℕ) → g < length gs → (qs : List ℕ) → length qs ≡ length (gate_at gs g).args → Low qs → (es : List Entry) → run_gate gs d g qs ≡ done es
      → Written d g qs es
  unfolding run_gate gate_lines gate_at_place body_place body_scope
  gate_run zero l g h qs len w es e = absurd (stuck_done es e)
  gate_run (suc d) l g h qs len w es e =
      subst (λ (x : Gate). length qs ≡ length x.args → run_body gs (run_gate gs d) x x.body qs ≡ done es → Written (suc d) g qs es) (at.at g h (omega arith))
      (by (λ x h k bs n low fs e. let q = header_number gs x h k in gate_run d (omega arith) h.number q.0 bs (n ∙ q.1) low fs e) (eqb (get_or (load_at img (get_or places g 0)) 10 0) 1)) len e
    where
      place : ℕ
      place = get_or places g 0

      ss : List Stmt
      ss = stmts false (rest img (next_in img place))

      frame : List ℕ
      frame = frame_of (load_at img place) qs (replicate 512 0)

      by : ((x : ℕ) (h : Header) → header gs x ≡ Some h → (bs : List ℕ) → length bs ≡ h.args → Low bs → (fs : List Entry) → run_gate gs d h.number bs ≡ done fs → Written d h.number bs fs)
          → (b : Bool) → length qs ≡ length (gate_here img place).args → run_body gs (run_gate gs d) (gate_here img place) (pick b (Some ss) None) qs ≡ done es
          → (es ≡ pick b (lines (gate_lines img gates table places d) gates table [] frame ss) (opaque_e (name_in (load_at img place) 8) qs ∷ [])) × Each Short es
      by callee true n e =
          let S = body_stands place qs n w in (
            lines_same (body_place gs (gate_here img place) qs) gates [] frame S (run_gate gs d) (gate_lines img gates table places d) table (λ x h k bs n low fs e. (callee x h k bs n low fs e).0) (nothing_run d (omega arith))
                (λ o n e. no_classic (body_single gs (gate_here img place) (classic o) n e).1) ss es e,
            runs_short (body_place gs (gate_here img place) qs) gates [] frame S (run_gate gs d) (gate_lines img gates table places d) table (λ x h k bs n low fs e. (callee x h k bs n low fs e).0) (nothing_run d (omega arith))
                (λ x h k bs n low fs e. (callee x h k bs n low fs e).1) ss es e,
          )
      by callee false n e =
          let q = done_same (opaque_e (gate_here img place).name qs ∷ []) es e in
          (q, subst (Each Short) (sym q) (opaque_short (gate_here img place).name qs (omega (arith, few g h, len)), tt))
