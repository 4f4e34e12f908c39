-- The words that the promises are written in. A graph of calls is a test on gates' numbers: `E g h` says that g calls h.
use Rattle.rules.specs.declared.Header.{Header}
use Rattle.std.specs.Prelude.{◌≡◌, ◌⊎◌, Bool, true, false, ◌||◌, List, [], ◌∷◌, map, ℕ, zero, suc, ◌+◌, ◌≤◌, ◌<◌, T, eqb, ltb, length, get_or, Option, Some, None}
use Rattle.rules.specs.declared.Answer.TheVariants.{Done, Machine, Entries}
use Rattle.rules.specs.Basics.{pick}
use Rattle.rules.specs.Syntax.{Stmt, u, cx, measure, reset, barrier, call, if, missing, Program}
use Rattle.rules.specs.Errors.{Error, recursive_definition}
use Rattle.rules.specs.Checking.{gate_at, gates_of, registers}
use Rattle.rules.specs.Graph.{leaders, cycle}
use Rattle.rules.specs.Calls.{Call, calls_of, edge}
use Rattle.rules.specs.Run.{Entry, u_e, cx_e, measure_e, reset_e, barrier_e, barrier_end_e, opaque_e, if_e, if_end_e, entry_field, bits_of}
use Rattle.rules.specs.Answers.{Result, unchanged, lay, too_wide}

-- ---- calls, one after another

-- g comes to h by exactly k calls
abbrev pub Walk : (ℕ → ℕ → Bool) → ℕ → ℕ → ℕ → Type 0
Walk E zero g h = g ≡ h
Walk E (suc k) g h = (c : ℕ) × T (E g c) × Walk E k c h

-- g comes to h by one call or more
abbrev pub Reach : (ℕ → ℕ → Bool) → ℕ → ℕ → Type 0
Reach E g h = (k : ℕ) × Walk E (suc k) g h

-- g and h are in one group: each reaches the other
abbrev pub Together : (ℕ → ℕ → Bool) → ℕ → ℕ → Type 0
Together E g h = Reach E g h × Reach E h g

-- g reaches itself, and no lower gate is in its group
abbrev pub Lowest : (ℕ → ℕ → Bool) → ℕ → Type 0
Lowest E g = Reach E g g × ((h : ℕ) → h < g → Together E g h → ⊥)

-- no gate reaches itself
abbrev pub Acyclic : (ℕ → ℕ → Bool) → Type 0
Acyclic E = (g : ℕ) → Reach E g g → ⊥

-- every call is by and of a gate below n
abbrev pub Within : ℕ → (ℕ → ℕ → Bool) → Type 0
Within n E = (g h : ℕ) → T (E g h) → (g < n) × (h < n)

-- no k calls one after another begin at g
abbrev pub NoWalk : (ℕ → ℕ → Bool) → ℕ → ℕ → Type 0
NoWalk E k g = (h : ℕ) → Walk E k g h → ⊥

-- the gates cs, one after another, are a way from g to h: g calls the first of them, and so on, and the last is h
abbrev pub Chain : (ℕ → ℕ → Bool) → ℕ → List ℕ → ℕ → Type 0
Chain E g [] h = g ≡ h
Chain E g (c ∷ cs) h = T (E g c) × Chain E c cs h

-- ---- lists of numbers

abbrev pub In : ℕ → List ℕ → Type 0
In g [] = ⊥
In g (x ∷ xs) = (g ≡ x) ⊎ In g xs

-- each is greater than those before it, and the first is at least i
abbrev pub Rising : ℕ → List ℕ → Type 0
Rising i [] = Unit {0}
Rising i (x ∷ xs) = (i ≤ x) × Rising (suc x) xs

-- where two lists of one length first differ, xs has the lower number
abbrev pub NotAfter : List ℕ → List ℕ → Type 0
NotAfter [] ys = Unit {0}
NotAfter (x ∷ xs) [] = ⊥
NotAfter (x ∷ xs) (y ∷ ys) = (x < y) ⊎ ((x ≡ y) × NotAfter xs ys)

-- ---- lists of anything

abbrev pub Each : {A : Type 0} → (A → Type 0) → List A → Type 0
Each P [] = Unit {0}
Each P (x ∷ xs) = P x × Each P xs

-- ---- order

-- l lists gates below n, none twice, and each after the gates that it calls
pub record Placed (n : ℕ) (E : ℕ → ℕ → Bool) (l : List ℕ) : Type 0 where
  pub below : (i : ℕ) → i < length l → get_or l i 0 < n
  pub once : (i j : ℕ) → i < length l → j < length l → get_or l i 0 ≡ get_or l j 0 → i ≡ j
  pub after : (i : ℕ) → i < length l → (w : ℕ) → T (E (get_or l i 0) w) → (j : ℕ) × (j < i) × (get_or l j 0 ≡ w)

-- .. and all of them
pub record CalleesFirst (n : ℕ) (E : ℕ → ℕ → Bool) (l : List ℕ) : Type 0 where
  pub placed : Placed n E l
  pub count : length l ≡ n
  pub every : (g : ℕ) → g < n → (i : ℕ) × (i < n) × (get_or l i 0 ≡ g)

-- ---- the calls of a program

-- what is known of a name is that it is gate g's
abbrev pub numbered : Option Header → ℕ → Bool
numbered None g = false
numbered (Some h) g = eqb h.number g

-- the statement calls gate g, where `gates` tells what is known of a name
unfoldable pub called : (gates : ℕ → Option Header) → Stmt → ℕ → Bool
called gates (u sp o x y z) g = false
called gates (cx sp x y) g = false
called gates (measure sp x y) g = false
called gates (reset sp o) g = false
called gates (barrier sp os) g = false
called gates (call sp ns x es os) g = numbered (gates x) g
called gates (if sp o vs v s) g = called gates s g
called gates missing g = false

-- one of the statements does
unfoldable pub called_in : (gates : ℕ → Option Header) → List Stmt → ℕ → Bool
called_in gates [] g = false
called_in gates (s ∷ ss) g = called gates s g || called_in gates ss g

abbrev pub called_by : (gates : ℕ → Option Header) → Option (List Stmt) → ℕ → Bool
called_by gates None g = false
called_by gates (Some ss) g = called_in gates ss g

-- which gate of the program calls which
abbrev pub calls_in : Program → ℕ → ℕ → Bool
calls_in p = edge (calls_of p)

-- the gates that stand for a group each in the error list
abbrev pub leaders_in : Program → List ℕ
leaders_in p = leaders (length (gates_of p)) (calls_in p)

-- the gates of the cycle shown for a leader, its start left out
abbrev pub cycle_in : Program → ℕ → List ℕ
cycle_in p g = cycle (length (gates_of p)) (calls_in p) g

abbrev pub no_call : Call
no_call = record { from = 0; to = 0; span = 0 }

-- there is a call of h by g in the list, and the first such has the span sp
pub record Earliest (cs : List Call) (g h sp : ℕ) : Type 0 where
  pub place : ℕ
  pub there : place < length cs
  pub by : (get_or cs place no_call).from ≡ g
  pub of : (get_or cs place no_call).to ≡ h
  pub span : (get_or cs place no_call).span ≡ sp
  pub first : (i : ℕ) → i < place → (get_or cs i no_call).from ≡ g → (get_or cs i no_call).to ≡ h → ⊥

-- a pair for each gate of the way from g: its definition span, and the span of the earliest call of it by the gate before
abbrev pub Shows : Program → ℕ → List ℕ → List (ℕ × ℕ) → Type 0
Shows p g [] [] = Unit {0}
Shows p g [] (x ∷ xs) = ⊥
Shows p g (w ∷ ws) [] = ⊥
Shows p g (w ∷ ws) (x ∷ xs) = (x.0 ≡ (gate_at (gates_of p) w).decl) × Earliest (calls_of p) g w x.1 × Shows p w ws xs

-- an error for each gate of the list, in its order, that shows the gate's cycle
abbrev pub OneEach : Program → List ℕ → List Error → Type 0
OneEach p [] [] = Unit {0}
OneEach p [] (e ∷ es) = ⊥
OneEach p (g ∷ gs) [] = ⊥
OneEach p (g ∷ gs) (e ∷ es) = ((xs : List (ℕ × ℕ)) × (e ≡ recursive_definition xs) × Shows p g (cycle_in p g) xs) × OneEach p gs es

-- ---- the run of a program

-- how many bits there are: quantum ones for `false`, classical ones for `true`
abbrev pub totals : Program → Bool → ℕ
totals p c = bits_of c (registers p.decls)

-- the bits that an entry names are there
abbrev pub Inside : (Bool → ℕ) → Entry → Type 0
Inside tot (u_e q) = q < tot false
Inside tot (cx_e x y) = (x < tot false) × (y < tot false)
Inside tot (measure_e q b) = (q < tot false) × (b < tot true)
Inside tot (reset_e q) = q < tot false
Inside tot (barrier_e q) = q < tot false
Inside tot barrier_end_e = Unit {0}
Inside tot (opaque_e x qs) = Each (λ q. q < tot false) qs
Inside tot (if_e b w v) = (b < tot true) × (b + w ≤ tot true)
Inside tot if_end_e = Unit {0}

-- what expand answers for a run that came to es, with a count in the place of its length
abbrev pub expanded : Program → (count : ℕ) → List Entry → (out : List ℕ) → Result
expanded p count es out =
    pick (too_wide p) (unchanged Machine out) (pick (ltb 4096 count) (unchanged Entries out) (lay Done (map entry_field es) out))
