-- The run of a program: its entries, or stuck.
use Rattle.rules.specs.declared.Header.{Header}
use Rattle.std.specs.Prelude.{ℕ, zero, suc, ◌+◌, ◌^◌, List, [], ◌∷◌, ◌++◌, map, Bool, true, false, ◌&&◌, ◌||◌, length, get_or, ltb, leb, eqb, Option, Some, None}
use Rattle.rules.specs.declared.Operand.{Operand}
use Rattle.rules.specs.declared.Reg.{Reg}
use Rattle.rules.specs.Basics.{pick}
use Rattle.rules.specs.Syntax.{Expr, pi, real, int, var, two, one, Stmt, u, cx, measure, reset, barrier, call, if, missing, Gate, Decl, include, reg, gate, top, Program}
use Rattle.rules.specs.Errors.{bytes2, bytes4, bytes8, tagged}
use Rattle.rules.specs.Checking.{gate_at, gates_of, argument, registers, Scope, top_scope, body_scope, Asked, quantum, classic, Sized, size, bad, assert_reg}

-- ---- entries. 01: "Entries are fields: 32 U qubit; 33 CX two; 34 MEASURE qubit, bit; 35 RESET qubit; 36 one barrier qubit each, .. then 37 empty;
-- 38 opaque call: name, qubits; 39 IF first bit, width (4 bytes each), value (8), then the governed entries, then 40 empty. Bit numbers take 4 bytes."

pub data Entry : Type 0 where
  u_e : (qubit : ℕ) → Entry
  cx_e : (copy xor : ℕ) → Entry
  measure_e : (qubit bit : ℕ) → Entry
  reset_e : (qubit : ℕ) → Entry
  barrier_e : (qubit : ℕ) → Entry
  barrier_end_e : Entry
  opaque_e : (name : ℕ) → (qubits : List ℕ) → Entry
  if_e : (bit width value : ℕ) → Entry
  if_end_e : Entry

unfoldable pub bits_bytes : List ℕ → List ℕ
bits_bytes [] = []
bits_bytes (q ∷ qs) = bytes4 q ++ bits_bytes qs

unfoldable pub entry_field : Entry → List ℕ
entry_field (u_e q) = tagged 32 (bytes4 q)
entry_field (cx_e x y) = tagged 33 (bytes4 x ++ bytes4 y)
entry_field (measure_e q b) = tagged 34 (bytes4 q ++ bytes4 b)
entry_field (reset_e q) = tagged 35 (bytes4 q)
entry_field (barrier_e q) = tagged 36 (bytes4 q)
entry_field barrier_end_e = tagged 37 []
entry_field (opaque_e x qs) = tagged 38 (bytes2 x ++ bits_bytes qs)
entry_field (if_e b w v) = tagged 39 (bytes4 b ++ (bytes4 w ++ bytes8 v))
entry_field if_end_e = tagged 40 []

-- ---- what a run comes to

pub data Out : Type 0 where
  stuck : Out
  done : List Entry → Out

-- one after another
abbrev pub both : Out → Out → Out
both stuck o = stuck
both (done es) stuck = stuck
both (done es) (done fs) = done (es ++ fs)

-- stuck unless the test holds
abbrev pub guard : Bool → Out → Out
guard true o = o
guard false o = stuck

abbrev pub with : {A : Type 0} → Option A → (A → Out) → Out
with None f = stuck
with (Some x) f = f x

-- f j, f (j + 1), .. : k of them
unfoldable pub turns : ℕ → ℕ → (ℕ → Out) → Out
turns zero j f = done []
turns (suc k) j f = both (f j) (turns k (suc j) f)

-- ---- bits

abbrev pub no_reg : Reg
no_reg = record { name = 0; span = 0; classical = false; size = 0 }

-- the number of the latest row with this name among the first k, and `other` where there is none
unfoldable pub latest_of : (other k : ℕ) → List Reg → ℕ → ℕ
latest_of other zero rs x = other
latest_of other (suc k) rs x = pick (eqb (get_or rs k no_reg).name x) k (latest_of other k rs x)

-- 01: "Quantum bits are numbered across QREGs in declaration order from 0, classical bits likewise." The first bit of each register.
unfoldable pub starts_from : (quantum classical : ℕ) → List Reg → List ℕ
starts_from q c [] = []
starts_from q c (r ∷ rs) = pick r.classical (c ∷ starts_from q (c + r.size) rs) (q ∷ starts_from (q + r.size) c rs)

-- how many bits there are of a kind
unfoldable pub bits_of : (classical : Bool) → List Reg → ℕ
bits_of k [] = 0
bits_of true (r ∷ rs) = pick r.classical r.size 0 + bits_of true rs
bits_of false (r ∷ rs) = pick r.classical 0 r.size + bits_of false rs

-- the first bit of a name, where the rows begin at the starts
unfoldable pub bit_of : List Reg → (starts : List ℕ) → ℕ → ℕ
bit_of rs starts x = get_or starts (latest_of (length rs) (length rs) rs x) 0

-- Where a statement runs: what names mean, and the first bit of each.
pub record Place : Type 0 where
  pub scope : Scope
  pub bit : ℕ → ℕ

-- the first bit that an operand names
unfoldable pub start_of : Place → Operand → ℕ
start_of P o = P.bit o.name + pick o.indexed o.index 0

-- ---- sizes and pairing, by the operand rule of check

abbrev pub size_only : Sized → Option ℕ
size_only (size n) = Some n
size_only (bad e) = None

abbrev pub and_sizes : Option ℕ → Option (List ℕ) → Option (List ℕ)
and_sizes None l = None
and_sizes (Some n) None = None
and_sizes (Some n) (Some l) = Some (n ∷ l)

-- 01: stuck at "an undeclared .. register .. a wrong kind; an index outside"
unfoldable pub sizes : Scope → List Asked → Option (List ℕ)
sizes C [] = Some []
sizes C (q ∷ qs) = and_sizes (size_only (assert_reg C.regs 0 q)) (sizes C qs)

-- the common size: the first that isn't 1
unfoldable pub common : List ℕ → ℕ
common [] = 1
common (n ∷ ns) = pick (eqb n 1) (common ns) n

-- 01: stuck at "sizes that don't pair": each is at most 1, or k
unfoldable pub paired : ℕ → List ℕ → Bool
paired k [] = true
paired k (n ∷ ns) = (leb n 1 || eqb n k) && paired k ns

-- the bits of the operands in turn j. 01: "size-one operands repeating"
unfoldable pub lanes : Place → (j : ℕ) → List ℕ → List Asked → List ℕ
lanes P j [] qs = []
lanes P j (n ∷ ns) [] = []
lanes P j (n ∷ ns) (q ∷ qs) = (start_of P q.operand + pick (eqb n 1) 0 j) ∷ lanes P j ns qs

-- 01: "Any other statement runs once if all operands have size 1, else for j from 0 below the common size, size-one operands repeating."
unfoldable pub spread : Place → List Asked → (List ℕ → Out) → Out
spread P qs f = with (sizes P.scope qs) (λ ns. guard (paired (common ns) ns) (turns (common ns) 0 (λ j. f (lanes P j ns qs))))

-- ---- expressions: stuck at an undeclared parameter

unfoldable pub known : (ℕ → Bool) → Expr → Bool
known param (pi sp) = true
known param (real sp v) = true
known param (int sp v) = true
known param (var sp x) = param x
known param (two o sp x y) = known param x && known param y
known param (one o sp x) = known param x

unfoldable pub all_known : (ℕ → Bool) → List Expr → Bool
all_known param [] = true
all_known param (e ∷ es) = known param e && all_known param es

-- ---- statements

-- 01: "one barrier qubit each, operand by operand, lowest first within one"
unfoldable pub qubits_from : ℕ → ℕ → List Entry
qubits_from zero q = []
qubits_from (suc k) q = barrier_e q ∷ qubits_from k (suc q)

unfoldable pub barrier_qubits : Place → List ℕ → List Asked → List Entry
barrier_qubits P [] qs = []
barrier_qubits P (n ∷ ns) [] = []
barrier_qubits P (n ∷ ns) (q ∷ qs) = qubits_from n (start_of P q.operand) ++ barrier_qubits P ns qs

-- 01: stuck at "an undeclared gate .. a wrong count"; f is what a call of a gate comes to
abbrev pub calling : Option Header → (params args : ℕ) → (ℕ → Out) → Out
calling None params args f = stuck
calling (Some h) params args f = guard (eqb h.params params && eqb h.args args) (f h.number)

-- `f g qs` is what a call of gate g on the qubits qs comes to
unfoldable pub run : (f : ℕ → List ℕ → Out) → Place → Stmt → Out
run f P (u sp o x y z) =
    guard (all_known P.scope.params (x ∷ y ∷ z ∷ [])) (spread P (quantum o ∷ []) (λ qs. done (u_e (get_or qs 0 0) ∷ [])))
run f P (cx sp x y) = spread P (quantum x ∷ quantum y ∷ []) (λ qs. done (cx_e (get_or qs 0 0) (get_or qs 1 0) ∷ []))
run f P (measure sp x y) = spread P (quantum x ∷ classic y ∷ []) (λ qs. done (measure_e (get_or qs 0 0) (get_or qs 1 0) ∷ []))
run f P (reset sp o) = spread P (quantum o ∷ []) (λ qs. done (reset_e (get_or qs 0 0) ∷ []))
run f P (barrier sp os) =
    with (sizes P.scope (map quantum os)) (λ ns. done (barrier_qubits P ns (map quantum os) ++ (barrier_end_e ∷ [])))
run f P (call sp ns x es os) =
    calling (P.scope.gates x) (length es) (length os) (λ g. guard (all_known P.scope.params es) (spread P (map quantum os) (f g)))
run f P (if sp o vs v s) =
    with (size_only (assert_reg P.scope.regs 0 (classic o))) (λ w.
    guard (ltb v (2 ^ w)) (both (done (if_e (start_of P o) w v ∷ [])) (both (run f P s) (done (if_end_e ∷ [])))))
run f P missing = done []

unfoldable pub runs : (f : ℕ → List ℕ → Out) → Place → List Stmt → Out
runs f P [] = done []
runs f P (s ∷ ss) = both (run f P s) (runs f P ss)

-- ---- gates and programs

-- in a body the arguments' qubits are qs
unfoldable pub body_place : List Gate → Gate → List ℕ → Place
body_place gs g qs = record { scope = body_scope gs g; bit = bit_of (map argument g.args) qs }

-- 01: "A call to a gate with a body runs the body once for each j."; "38 opaque call: name, qubits"
abbrev pub run_body : List Gate → (f : ℕ → List ℕ → Out) → Gate → Option (List Stmt) → List ℕ → Out
run_body gs f g None qs = done (opaque_e g.name qs ∷ [])
run_body gs f g (Some ss) qs = runs f (body_place gs g qs) ss

-- 01: "The run carries an allowed call depth. It is stuck at: .. a call at depth 0."
unfoldable pub run_gate : List Gate → (depth : ℕ) → ℕ → List ℕ → Out
run_gate gs zero g qs = stuck
run_gate gs (suc d) g qs = run_body gs (run_gate gs d) (gate_at gs g) (gate_at gs g).body qs

unfoldable pub top_place : List Gate → List Decl → Place
top_place gs ds = record { scope = top_scope gs ds; bit = bit_of (registers ds) (starts_from 0 0 (registers ds)) }

unfoldable pub tops : List Decl → List Stmt
tops [] = []
tops (include sp x ∷ ds) = tops ds
tops (reg c d o ∷ ds) = tops ds
tops (gate g ∷ ds) = tops ds
tops (top s ∷ ds) = s ∷ tops ds

-- the run with an allowed call depth
unfoldable pub run_at : (depth : ℕ) → Program → Out
run_at d p = runs (run_gate (gates_of p) d) (top_place (gates_of p) p.decls) (tops p.decls)

-- 01: "Demand 3 starts with depth equal to the number of gates."
unfoldable pub run_of : Program → Out
run_of p = run_at (length (gates_of p)) p
