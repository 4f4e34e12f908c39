-- Of a program without errors the sums by tables are the counts of its run.
use Rattle.rules.specs.declared.Header.{Header}
use Rattle.std.specs.Prelude.{◌≡◌, Bool, true, false, ◌&&◌, ℕ, zero, suc, ◌+◌, ◌<◌, ◌≤◌, min, eqb, get_or, set, Option, Some, None}
use Rattle.std.proofs.Math.Path.{refl, ap, ap₂, subst}
use Rattle.std.proofs.Common.{sym}
use mathlib.Core.List.{List, [], ◌∷◌, map}
use native.Mathlib.Omega.{arith}
use Rattle.std.proofs.Math.Nat.{mul-le-mul_left}
use Rattle.std.proofs.Math.Dec.{T}
use Rattle.std.proofs.Math.ListN.{length}
use Rattle.rules.specs.Basics.{pick}
use Rattle.rules.specs.Reading.{load_at}
use Rattle.rules.specs.Syntax.{Stmt, u, cx, measure, reset, barrier, call, if, missing, Gate}
use Rattle.rules.specs.Grouping.{stmts}
use Rattle.rules.specs.Checking.{Scope, gate_at, header, body_scope, Asked, quantum, classic, assert_reg}
use Rattle.rules.specs.Run.{size_only, sizes, common, all_known}
use Rattle.theorems.specs.Words.{Each}
use Rattle.theorems.specs.Search.{and_T}
use Rattle.theorems.specs.Agree.{is, pairing, fits, passes, pass_all, callable}
use Rattle.theorems.specs.Admitted.{pass_body}
use Rattle.theorems.specs.Count.{times, sum, barrier_count, call_count, stmt_count, stmts_count, body_count, gate_count, counts, at, fill}
use Rattle.views.specs.View.{next_in, rest}
use Rattle.views.specs.Steps.{gate_at_place}
use Rattle.tables.specs.Tables.{gate_in}
use Rattle.counts.specs.Sums.{sizes_in, stmt_sum, stmts_sum, gate_sum, sum_fill}
use Rattle.counts.specs.Places.{gate_here, Placed}
use Rattle.expand.specs.Tables.{Measures, sizes_same, body_measures}

module _ (C : Scope) (gates regs : List ℕ) (M : Measures C regs) (eg : (x : ℕ) → C.gates x ≡ gate_in gates x) (t : ℕ → ℕ) where
  times_same : (qs : List Asked) → T (pairing (sizes C qs)) → common (sizes_in regs qs) ≡ times (sizes C qs)
  times_same qs k = go (sizes C qs) refl k
    where
      go : (o : Option (List ℕ)) → sizes C qs ≡ o → T (pairing o) → common (sizes_in regs qs) ≡ times o
      go None e k = absurd k
      go (Some ns) e k = ap common (sym (sizes_same C regs M qs ns e))

  barrier_same : (qs : List Asked) → T (is (sizes C qs)) → sum (sizes_in regs qs) + 1 ≡ barrier_count (sizes C qs)
  barrier_same qs k = go (sizes C qs) refl k
    where
      go : (o : Option (List ℕ)) → sizes C qs ≡ o → T (is o) → sum (sizes_in regs qs) + 1 ≡ barrier_count o
      go None e k = absurd k
      go (Some ns) e k = ap (λ (l : List ℕ). sum l + 1) (sym (sizes_same C regs M qs ns e))

  stmt_same : (s : Stmt) → T (passes C s) → stmt_sum gates regs t s ≡ stmt_count C t s
  unfolding stmt_sum stmt_count passes
  stmt_same (u sp o x y z) k = times_same (quantum o ∷ []) (and_T (pairing (sizes C (quantum o ∷ []))) (all_known C.params (x ∷ y ∷ z ∷ [])) k).0
  stmt_same (cx sp x y) k = times_same (quantum x ∷ quantum y ∷ []) k
  stmt_same (measure sp x y) k = times_same (quantum x ∷ classic y ∷ []) k
  stmt_same (reset sp o) k = times_same (quantum o ∷ []) k
  stmt_same (barrier sp os) k = barrier_same (map quantum os) k
  stmt_same (call sp ns x es os) k =
      let a = and_T (callable (C.gates x) (length es) (length os)) (pairing (sizes C (map quantum os)) && all_known C.params es) k in
      let b = and_T (pairing (sizes C (map quantum os))) (all_known C.params es) a.1 in
      rw (← eg x, times_same (map quantum os) b.0) refl
  stmt_same (if sp o vs v s) k = ap (λ (n : ℕ). n + 2) (stmt_same s (and_T (fits v (size_only (assert_reg C.regs 0 (classic o)))) (passes C s) k).1)
  stmt_same missing k = refl

  pub stmts_same : (ss : List Stmt) → T (pass_all C ss) → stmts_sum gates regs t ss ≡ stmts_count C t ss
  unfolding stmts_sum stmts_count pass_all
  stmts_same [] k = refl
  stmts_same (s ∷ ss) k =
      let a = and_T (passes C s) (pass_all C ss) k in
      ap₂ (λ (m n : ℕ). m + n) (stmt_same s a.0) (stmts_same ss a.1)

-- ---- gates

module _ (gs : List Gate) (gates : List ℕ) (eg : (x : ℕ) → header gs x ≡ gate_in gates x) (img : List ℕ) where
  pub gate_same : (t : ℕ → ℕ) (place : ℕ) (g : Gate) → gate_here img place ≡ g → T (pass_body gs g g.body) → gate_sum img gates t place ≡ body_count gs t g g.body
  unfolding gate_sum gate_at_place body_scope
  gate_same t place g e k =
      subst (λ (x : Gate). T (pass_body gs x x.body) → gate_sum img gates t place ≡ body_count gs t x x.body) e (go (eqb (get_or (load_at img place) 10 0) 1)) k
    where
      here : Gate
      here = gate_here img place

      ss : List Stmt
      ss = stmts false (rest img (next_in img place))

      go : (b : Bool) → T (pass_body gs here (pick b (Some ss) None)) → pick b (stmts_sum gates [] t ss) 1 ≡ body_count gs t here (pick b (Some ss) None)
      go true k = stmts_same (body_scope gs here) gates [] (body_measures gs here) eg t ss k
      go false k = refl

  module _ (bodies : (g : ℕ) → g < length gs → T (pass_body gs (gate_at gs g) (gate_at gs g).body)) (places : List ℕ) (P : Placed img gs places) (room : length gs ≤ length places) where
    pub fill_same : (l t : List ℕ) → Each (λ g. g < length gs) l → sum_fill img gates places l t ≡ fill gs 4097 l t
    unfolding sum_fill fill gate_count
    fill_same [] t a = refl
    fill_same (g ∷ l) t a =
        let h : g < length gs = a.0 in
        let e = gate_same (at t) (get_or places g 0) (gate_at gs g) (P.at g h (omega arith)) (bodies g h) in
        rw e (fill_same l (set t g (min 4097 (gate_count gs (at t) g))) a.1)

-- ---- with more depth no gate counts less

module _ (t v : ℕ → ℕ) (h : (c : ℕ) → t c ≤ v c) where
  call_more : (found : Option Header) → call_count found t ≤ call_count found v
  call_more None = omega arith
  call_more (Some g) = h g.number

  stmt_more : (C : Scope) (s : Stmt) → stmt_count C t s ≤ stmt_count C v s
  unfolding stmt_count
  stmt_more C (u sp o x y z) = omega arith
  stmt_more C (cx sp x y) = omega arith
  stmt_more C (measure sp x y) = omega arith
  stmt_more C (reset sp o) = omega arith
  stmt_more C (barrier sp os) = omega arith
  stmt_more C (call sp ns x es os) = mul-le-mul_left (times (sizes C (map quantum os))) (call_more (C.gates x))
  stmt_more C (if sp o vs w s) = omega (arith, stmt_more C s)
  stmt_more C missing = omega arith

  stmts_more : (C : Scope) (ss : List Stmt) → stmts_count C t ss ≤ stmts_count C v ss
  unfolding stmts_count
  stmts_more C [] = omega arith
  stmts_more C (s ∷ ss) = omega (arith, stmt_more C s, stmts_more C ss)

  body_more : (gs : List Gate) (g : Gate) (b : Option (List Stmt)) → body_count gs t g b ≤ body_count gs v g b
  body_more gs g None = omega arith
  body_more gs g (Some ss) = stmts_more (body_scope gs g) ss

counts_more : (gs : List Gate) (d g : ℕ) → counts gs d g ≤ counts gs (suc d) g
unfolding counts gate_count
counts_more gs zero g = omega arith
counts_more gs (suc d) g = body_more (counts gs d) (counts gs (suc d)) (counts_more gs d) gs (gate_at gs g) (gate_at gs g).body

pub counts_deeper : (gs : List Gate) (d k g : ℕ) → counts gs d g ≤ counts gs (k + d) g
counts_deeper gs d zero g = let e : 0 + d ≡ d = omega arith in subst (λ (n : ℕ). counts gs d g ≤ counts gs n g) (sym e) (omega arith)
counts_deeper gs d (suc k) g =
    let e : suc k + d ≡ suc (k + d) = omega arith in
    subst (λ (n : ℕ). counts gs d g ≤ counts gs n g) (sym e) (omega (arith, counts_deeper gs d k g, counts_more gs (k + d) g))
