-- Runs that end: what their parts came to, and that more depth changes nothing.
use Rattle.std.specs.Prelude.{◌≡◌, refl, Bool, true, false, ℕ, zero, suc, ◌^◌, ◌≤◌, T, ltb, length, Option, Some, None}
use Rattle.std.proofs.Common.{sym, ap, arith}
use mathlib.Core.List.{List, [], ◌∷◌, ◌++◌, map}
use Rattle.rules.specs.declared.Operand.{Operand}
use Rattle.rules.specs.declared.Header.{Header}
use Rattle.rules.specs.Syntax.{Stmt, u, cx, measure, reset, barrier, call, if, missing, Gate, Program}
use Rattle.rules.specs.Checking.{gate_at, gates_of, Asked, quantum, classic, assert_reg}
use Rattle.rules.specs.Run.{Entry, Out, stuck, done, both, guard, with, turns, Place, size_only, sizes, common, paired, lanes, spread, all_known, calling, if_e, if_end_e, start_of, run, runs, body_place, run_body, run_gate, top_place, tops, run_at}
use Rattle.theorems.specs.Agree.{callable}

-- ---- the parts of a run that ended

pub stuck_done : (es : List Entry) → stuck ≡ done es → ⊥
stuck_done es e = let k : ◌≡◌ {A = ℕ} 0 1 = cc in omega arith

pub record Both (a b : Out) (es : List Entry) : Type 0 where
  pub left : List Entry
  pub right : List Entry
  pub one : a ≡ done left
  pub two : b ≡ done right
  pub all : es ≡ left ++ right

pub both_done : (a b : Out) (es : List Entry) → both a b ≡ done es → Both a b es
both_done stuck b es e = absurd (stuck_done es e)
both_done (done xs) stuck es e = absurd (stuck_done es e)
both_done (done xs) (done ys) es e = record { left = xs; right = ys; one = refl; two = refl; all = cc }

pub guard_done : (b : Bool) (o : Out) (es : List Entry) → guard b o ≡ done es → T b × (o ≡ done es)
guard_done true o es e = (tt, e)
guard_done false o es e = absurd (stuck_done es e)

pub with_done : {A : Type 0} (x : Option A) (f : A → Out) (es : List Entry) → with x f ≡ done es → (a : A) × (x ≡ Some a) × (f a ≡ done es)
with_done None f es e = absurd (stuck_done es e)
with_done (Some a) f es e = (a, refl, e)

pub record Spread (P : Place) (qs : List Asked) (f : List ℕ → Out) (es : List Entry) : Type 0 where
  pub sized : List ℕ
  pub have : sizes P.scope qs ≡ Some sized
  pub pair : T (paired (common sized) sized)
  pub ran : turns (common sized) 0 (λ j. f (lanes P j sized qs)) ≡ done es

pub spread_done : (P : Place) (qs : List Asked) (f : List ℕ → Out) (es : List Entry) → spread P qs f ≡ done es → Spread P qs f es
unfolding spread
spread_done P qs f es e =
    let w = with_done (sizes P.scope qs) _ es e in
    let g = guard_done (paired (common w.0) w.0) _ es w.2 in
    record { sized = w.0; have = w.1; pair = g.0; ran = g.1 }

pub record Called (found : Option Header) (params args : ℕ) (f : ℕ → Out) (es : List Entry) : Type 0 where
  pub header : Header
  pub known : found ≡ Some header
  pub counts : T (callable found params args)
  pub ran : f header.number ≡ done es

pub calling_done : (found : Option Header) (params args : ℕ) (f : ℕ → Out) (es : List Entry) → calling found params args f ≡ done es
    → Called found params args f es
calling_done None params args f es e = absurd (stuck_done es e)
calling_done (Some h) params args f es e =
    let g = guard_done (callable (Some h) params args) (f h.number) es e in
    record { header = h; known = refl; counts = g.0; ran = g.1 }

-- IF: the governed statement's run in its place
abbrev pub if_run : Place → Operand → ℕ → Out → Out
if_run P o v r =
    with (size_only (assert_reg P.scope.regs 0 (classic o))) (λ w.
    guard (ltb v (2 ^ w)) (both (done (if_e (start_of P o) w v ∷ [])) (both r (done (if_end_e ∷ [])))))

pub record Governs (P : Place) (o : Operand) (v : ℕ) (r : Out) (es : List Entry) : Type 0 where
  pub width : ℕ
  pub have : size_only (assert_reg P.scope.regs 0 (classic o)) ≡ Some width
  pub fit : T (ltb v (2 ^ width))
  pub inner : List Entry
  pub ran : r ≡ done inner
  pub all : es ≡ if_e (start_of P o) width v ∷ (inner ++ (if_end_e ∷ []))

pub if_done : (P : Place) (o : Operand) (v : ℕ) (r : Out) (es : List Entry) → if_run P o v r ≡ done es → Governs P o v r es
if_done P o v r es e =
    let w = with_done (size_only (assert_reg P.scope.regs 0 (classic o))) _ es e in
    let g = guard_done (ltb v (2 ^ w.0)) _ es w.2 in
    let b = both_done (done (if_e (start_of P o) w.0 v ∷ [])) _ es g.1 in
    let c = both_done r (done (if_end_e ∷ [])) b.right b.two in
    record {
      width = w.0;
      have = w.1;
      fit = g.0;
      inner = c.left;
      ran = c.one;
      all = joined w.0 c.left c.right b.left b.right b.one c.two c.all b.all;
    }
  where
    joined : (w : ℕ) (i j k l : List Entry) → done (if_e (start_of P o) w v ∷ []) ≡ done k → done (if_end_e ∷ []) ≡ done j → l ≡ i ++ j → es ≡ k ++ l
        → es ≡ if_e (start_of P o) w v ∷ (i ++ (if_end_e ∷ []))
    joined w i j k l p q r s = cc

-- ---- more depth

-- where a ends, b ends with the same entries
abbrev pub Follows : Out → Out → Type 0
Follows a b = (es : List Entry) → a ≡ done es → b ≡ done es

follows_both : {a b c d : Out} → Follows a c → Follows b d → Follows (both a b) (both c d)
follows_both {a} {b} {c} {d} f g es e = let k = both_done a b es e in rw (f k.left k.one, g k.right k.two) (ap done (sym k.all))

follows_guard : (b : Bool) {o p : Out} → Follows o p → Follows (guard b o) (guard b p)
follows_guard true f = f
follows_guard false f = λ es e. e

follows_with : {A : Type 0} (x : Option A) {f g : A → Out} → ((a : A) → Follows (f a) (g a)) → Follows (with x f) (with x g)
follows_with None h = λ es e. e
follows_with (Some a) h = h a

follows_turns : (k j : ℕ) {f g : ℕ → Out} → ((i : ℕ) → Follows (f i) (g i)) → Follows (turns k j f) (turns k j g)
unfolding turns
follows_turns zero j h = λ es e. e
follows_turns (suc k) j h = follows_both (h j) (follows_turns k (suc j) h)

follows_spread : (P : Place) (qs : List Asked) {f g : List ℕ → Out} → ((bs : List ℕ) → Follows (f bs) (g bs)) → Follows (spread P qs f) (spread P qs g)
unfolding spread
follows_spread P qs h =
    follows_with (sizes P.scope qs) (λ ns. follows_guard (paired (common ns) ns) (follows_turns (common ns) 0 (λ j. h (lanes P j ns qs))))

follows_calling : (found : Option Header) (params args : ℕ) {f g : ℕ → Out} → ((c : ℕ) → Follows (f c) (g c))
    → Follows (calling found params args f) (calling found params args g)
follows_calling None params args h = λ es e. e
follows_calling (Some k) params args h = follows_guard (callable (Some k) params args) (h k.number)

follows_if : (P : Place) (o : Operand) (v : ℕ) {r t : Out} → Follows r t → Follows (if_run P o v r) (if_run P o v t)
follows_if P o v {r} {t} h =
    follows_with (size_only (assert_reg P.scope.regs 0 (classic o))) (λ w.
    follows_guard (ltb v (2 ^ w)) (around (done (if_e (start_of P o) w v ∷ [])) (done (if_end_e ∷ []))))
  where
    around : (a b : Out) → Follows (both a (both r b)) (both a (both t b))
    around a b = follows_both {a = a} {b = both r b} {c = a} {d = both t b} (λ es e. e) (follows_both {a = r} {b = b} {c = t} {d = b} h (λ es e. e))

module _ {f h : ℕ → List ℕ → Out} (more : (g : ℕ) (qs : List ℕ) → Follows (f g qs) (h g qs)) where
  follows_run : (P : Place) (s : Stmt) → Follows (run f P s) (run h P s)
  unfolding run
  follows_run P (u sp o x y z) = λ es e. e
  follows_run P (cx sp x y) = λ es e. e
  follows_run P (measure sp x y) = λ es e. e
  follows_run P (reset sp o) = λ es e. e
  follows_run P (barrier sp os) = λ es e. e
  follows_run P (call sp ns x es os) =
      follows_calling (P.scope.gates x) (length es) (length os) (λ g.
      follows_guard (all_known P.scope.params es) (follows_spread P (map quantum os) (more g)))
  follows_run P (if sp o vs v s) = follows_if P o v (follows_run P s)
  follows_run P missing = λ es e. e

  follows_runs : (P : Place) (ss : List Stmt) → Follows (runs f P ss) (runs h P ss)
  unfolding runs
  follows_runs P [] = λ es e. e
  follows_runs P (s ∷ ss) = follows_both (follows_run P s) (follows_runs P ss)

  follows_body : (gs : List Gate) (g : Gate) (b : Option (List Stmt)) (qs : List ℕ) → Follows (run_body gs f g b qs) (run_body gs h g b qs)
  follows_body gs g None qs = λ es e. e
  follows_body gs g (Some ss) qs = follows_runs (body_place gs g qs) ss

follows_deeper : (gs : List Gate) (d k g : ℕ) (qs : List ℕ) → d ≤ k → Follows (run_gate gs d g qs) (run_gate gs k g qs)
unfolding run_gate
follows_deeper gs zero k g qs h = λ es e. absurd (stuck_done es e)
follows_deeper gs (suc d) zero g qs h = absurd (omega arith)
follows_deeper gs (suc d) (suc k) g qs h = follows_body (λ c rs. follows_deeper gs d k c rs (omega arith)) gs (gate_at gs g) (gate_at gs g).body qs

-- a run that ends within a depth ends with the same entries within any greater depth
pub deeper : (p : Program) (d k : ℕ) → d ≤ k → Follows (run_at d p) (run_at k p)
unfolding run_at
deeper p d k h = follows_runs (λ g qs. follows_deeper (gates_of p) d k g qs h) (top_place (gates_of p) p.decls) (tops p.decls)
