-- The recursion errors of a program: one for each leader, with its cycle and the earliest calls.
use Rattle.std.specs.Prelude.{◌≡◌, refl, ◌↔◌, Bool, true, false, ◌||◌, ℕ, zero, suc, ◌<◌, T, eqb, length, get_or}
use Rattle.std.proofs.Common.{sym, ap, subst, inl, inr, zero-le, suc-le-suc, not-suc-le-zero, le_of_suc-le-suc, arith, eqb→eq}
use mathlib.Core.List.{List, [], ◌∷◌, map, cons≢nil}
use Rattle.std.proofs.Math.Dec.{eqb_refl}
use Rattle.rules.specs.Basics.{pick}
use Rattle.rules.specs.Syntax.{Program}
use Rattle.rules.specs.Errors.{Error}
use Rattle.rules.specs.Checking.{gates_of}
use Rattle.rules.specs.Calls.{Call, calls_of, between, edge, earliest, pairs, group_error, recursion_errors}
use Rattle.theorems.specs.Words.{Chain, Acyclic, In, calls_in, leaders_in, cycle_in, no_call, Earliest, Shows, OneEach}
use Rattle.theorems.specs.Search.{and_T, T_and}
use Rattle.theorems.specs.Groups.{listed_lowest, no_leaders, none_leads}
use Rattle.theorems.specs.Cycles.{cycle_length, cycle_chain}
use Rattle.theorems.specs.Callees.{calls_within}

earliest_first : (cs : List Call) (g h : ℕ) → T (edge cs g h) → Earliest cs g h (earliest cs g h)
unfolding edge earliest
earliest_first [] g h t = absurd t
earliest_first (c ∷ cs) g h t = go (between c g h) refl t (earliest_first cs g h)
  where
    go : (b : Bool) → between c g h ≡ b → T (b || edge cs g h) → (T (edge cs g h) → Earliest cs g h (earliest cs g h))
        → Earliest (c ∷ cs) g h (pick b c.span (earliest cs g h))
    go true e t ih =
        let a = and_T (eqb c.from g) (eqb c.to h) (subst T (sym e) tt) in
        record {
          place = 0;
          there = suc-le-suc zero-le;
          by = eqb→eq c.from g a.0;
          of = eqb→eq c.to h a.1;
          span = refl;
          first = λ i l. absurd (not-suc-le-zero l);
        }
    go false e t ih =
        let f = ih t in
        record { place = suc f.place; there = suc-le-suc f.there; by = f.by; of = f.of; span = f.span; first = before f.place f.first }
      where
        before : (k : ℕ) → ((i : ℕ) → i < k → (get_or cs i no_call).from ≡ g → (get_or cs i no_call).to ≡ h → ⊥)
            → (i : ℕ) → i < suc k → (get_or (c ∷ cs) i no_call).from ≡ g → (get_or (c ∷ cs) i no_call).to ≡ h → ⊥
        before k f zero l x y =
            let p = subst (λ (z : ℕ). T (eqb c.from z)) x (eqb_refl c.from) in
            let q = subst (λ (z : ℕ). T (eqb c.to z)) y (eqb_refl c.to) in
            subst T e (T_and (eqb c.from g) (eqb c.to h) p q)
        before k f (suc i) l x y = f i (le_of_suc-le-suc l) x y

chain_shows : (p : Program) (g : ℕ) (ws : List ℕ) (v : ℕ) → Chain (calls_in p) g ws v → Shows p g ws (pairs (gates_of p) (calls_of p) g ws)
unfolding pairs
chain_shows p g [] v c = tt
chain_shows p g (w ∷ ws) v (e, c) = (refl, earliest_first (calls_of p) g w e, chain_shows p w ws v c)

pub listed_cycle : (p : Program) (g : ℕ) → In g (leaders_in p) → Chain (calls_in p) g (cycle_in p g) g × (0 < length (cycle_in p g))
listed_cycle p g i =
    let n : ℕ = length (gates_of p) in
    let r = (listed_lowest n (calls_in p) (calls_within p) g i).1.0 in
    (cycle_chain n (calls_in p) (calls_within p) g r, omega (arith, cycle_length n (calls_in p) (calls_within p) g))

each_leader : (p : Program) (l : List ℕ) → ((g : ℕ) → In g l → In g (leaders_in p)) → OneEach p l (map (group_error (gates_of p) (calls_of p)) l)
unfolding group_error
each_leader p [] s = tt
each_leader p (g ∷ l) s =
    let c = (listed_cycle p g (s g (inl refl))).0 in
    ((pairs (gates_of p) (calls_of p) g (cycle_in p g), refl, chain_shows p g (cycle_in p g) g c), each_leader p l (λ h i. s h (inr i)))

pub one_each : (p : Program) → OneEach p (leaders_in p) (recursion_errors (gates_of p) (calls_of p))
unfolding recursion_errors
one_each p = each_leader p (leaders_in p) (λ g i. i)

-- no recursion is listed just where no gate reaches itself
map_nil : (f : ℕ → Error) (l : List ℕ) → map f l ≡ [] → l ≡ []
map_nil f [] e = refl
map_nil f (x ∷ xs) e = absurd (cons≢nil e)

pub none_recursive : (p : Program) → (recursion_errors (gates_of p) (calls_of p) ≡ []) ↔ Acyclic (calls_in p)
unfolding recursion_errors
none_recursive p = (
  λ e. no_leaders (length (gates_of p)) (calls_in p) (calls_within p) (map_nil (group_error (gates_of p) (calls_of p)) (leaders_in p) e),
  λ a. ap (map (group_error (gates_of p) (calls_of p))) (none_leads (length (gates_of p)) (calls_in p) (calls_within p) a),
)
