-- What is promised. Each statement follows from the rules of document 01 alone; its one line of proof names the page behind it.
-- The words are on the pages Words and Count; what they speak of (gates, calls, errors, the run) is on the pages of the rules. Gates go by number.
use Rattle.std.specs.Prelude.{◌≡◌, ◌↔◌, Bool, List, [], ◌∷◌, ℕ, ◌≤◌, ◌<◌, min, T, length}
use Rattle.rules.specs.Syntax.{Stmt, Gate, Program}
use Rattle.rules.specs.Grouping.{program}
use Rattle.rules.specs.Checking.{gate_at, header, gates_of, top_scope, body_scope, stmt_errors, top_errors, body_errors, local_errors}
use Rattle.rules.specs.Calls.{calls_of, recursion_errors, errors}
use Rattle.rules.specs.Order.{order, order_of}
use Rattle.rules.specs.Run.{Entry, Out, stuck, done, Place, run, run_gate, tops, run_at, run_of}
use Rattle.rules.specs.Answers.{expand_read}
use Rattle.theorems.specs.Words.{Within, Reach, Together, Lowest, Acyclic, NoWalk, Chain, In, Rising, NotAfter, Each, CalleesFirst, calls_in, leaders_in, cycle_in, OneEach, totals, Inside, called_in, expanded}
use Rattle.theorems.specs.Count.{program_count, counts, Solves, at, fill}
use Rattle.theorems.specs.Groups as groups
use Rattle.theorems.specs.Cycles as cycles
use Rattle.theorems.specs.Callees as callees
use Rattle.theorems.specs.Recursion as recursion
use Rattle.theorems.specs.Orders as orders
use Rattle.theorems.specs.Runs as runs
use Rattle.theorems.specs.Admitted as admitted
use Rattle.theorems.specs.Progress as progress
use Rattle.theorems.specs.Counted as counted
use Rattle.theorems.specs.Exact as exact
use Rattle.theorems.specs.Answered as answered

-- ---- Demand 2, recursion: "recursion is reported once for each group of gates that can reach each other and themselves, and never otherwise"

-- Every call is by a gate of the program and of a gate of the program.
pub calls_between_gates : (p : Program) → Within (length (gates_of p)) (calls_in p)
calls_between_gates = callees.calls_within

-- "Each such gate has exactly one leader listed": of each gate that reaches itself one listed gate is in its group, and no other.
pub reported_once : (p : Program) (g : ℕ) → Reach (calls_in p) g g
    → (h : ℕ) × In h (leaders_in p) × Together (calls_in p) g h × ((k : ℕ) → In k (leaders_in p) → Together (calls_in p) g k → k ≡ h)
reported_once p = groups.exactly_one (length (gates_of p)) (calls_in p) (callees.calls_within p)

-- "Each listed leader's gate reaches itself": a gate that is listed is a gate of the program, it reaches itself, and no lower gate is in its group.
pub reported_rightly : (p : Program) (g : ℕ) → In g (leaders_in p)
    → (g < length (gates_of p)) × Lowest (calls_in p) g
reported_rightly p = groups.listed_lowest (length (gates_of p)) (calls_in p) (callees.calls_within p)

-- 01: "Groups with a cycle are listed by lowest gate." The listed gates rise, so none is listed twice.
pub listed_by_lowest : (p : Program) → Rising 0 (leaders_in p)
listed_by_lowest p = groups.leaders_rise (length (gates_of p)) (calls_in p)

-- 01: "The cycle starts and ends at that gate": it is a chain of calls from the gate back to it, of one call or more.
pub cycle_real : (p : Program) (g : ℕ) → In g (leaders_in p) → Chain (calls_in p) g (cycle_in p g) g × (0 < length (cycle_in p g))
cycle_real = recursion.listed_cycle

-- 01: "is the shortest": no chain of calls from the gate back to it has fewer.
pub cycle_shortest : (p : Program) (g w : ℕ) (ws : List ℕ) → Chain (calls_in p) g (w ∷ ws) g → length (cycle_in p g) ≤ length (w ∷ ws)
cycle_shortest p = cycles.cycle_shortest (length (gates_of p)) (calls_in p) (callees.calls_within p)

-- 01: "and among those has the lowest next gate at each step": where it first differs from another of its length, it has the lower gate.
pub cycle_lowest : (p : Program) (g : ℕ) (ws : List ℕ) → Chain (calls_in p) g ws g → length ws ≡ length (cycle_in p g) → NotAfter (cycle_in p g) ws
cycle_lowest p = cycles.cycle_lowest (length (gates_of p)) (calls_in p) (callees.calls_within p)

-- One error for each listed gate, in that order. 01: "Each pair is the definition span of the gate reached and the span of the earliest call, in image
-- order, from the gate before." At each step there is such a call.
pub error_for_each : (p : Program) → OneEach p (leaders_in p) (recursion_errors (gates_of p) (calls_of p))
error_for_each = recursion.one_each

-- "No recursion listed means that no gate reaches itself"; and where no gate does, none is listed.
pub none_reported : (p : Program) → (recursion_errors (gates_of p) (calls_of p) ≡ []) ↔ Acyclic (calls_in p)
none_reported = recursion.none_recursive

-- ---- Order: "on such a program order lists every gate exactly once, callees first"

pub order_callees_first : (p : Program) → errors p ≡ [] → CalleesFirst (length (gates_of p)) (calls_in p) (order_of p)
order_callees_first = admitted.order_admitted

-- .. and so it does in every graph of n gates without a cycle
pub order_of_graph : (n : ℕ) (E : ℕ → ℕ → Bool) → Within n E → Acyclic E → CalleesFirst n E (order n E)
order_of_graph = orders.order_placed

-- ---- Demand 3, progress: "if an image is read and has no errors, its run, started with depth equal to the number of gates, is not stuck"

-- "It ends with a list of entries, each bit number in it is below its total."
pub never_stuck : (p : Program) → errors p ≡ [] → (es : List Entry) × (run_of p ≡ done es) × Each (Inside (totals p)) es
never_stuck = progress.progress

-- "Calls nest no deeper than the number of gates": with more depth allowed the run is the same.
pub depth_enough : (p : Program) → errors p ≡ [] → (d : ℕ) → length (gates_of p) ≤ d → run_at d p ≡ run_of p
depth_enough = progress.progress_deeper

-- Of any program, with errors or without: a run that ends within a depth ends with the same entries within every greater depth.
pub depth_more : (p : Program) (d k : ℕ) → d ≤ k → (es : List Entry) → run_at d p ≡ done es → run_at k p ≡ done es
depth_more = runs.deeper

-- ---- Count: "what decides 10 equals the length of the run, capped"

-- A run of a gate, within whatever depth it ends, has as many entries as the gate's count for that depth, on whatever qubits.
pub count_of_gate : (gs : List Gate) (d g : ℕ) (qs : List ℕ) (es : List Entry) → run_gate gs d g qs ≡ done es → length es ≡ counts gs d g
count_of_gate = counted.gate_length

-- The run of a program has as many entries as its statements add up to by those counts.
pub count_of_program : (p : Program) (d : ℕ) (es : List Entry) → run_at d p ≡ done es → length es ≡ program_count p (counts (gates_of p) d)
count_of_program = counted.program_length

-- Capped: a table that holds for each gate what its body adds up to by the table itself, no further than to the cap, ..
-- .. holds the gates' counts, no further than to the cap;
pub table_counts : (p : Program) → errors p ≡ [] → (cap : ℕ) (t : ℕ → ℕ) → Solves cap p t
    → (g : ℕ) → g < length (gates_of p) → t g ≡ min cap (counts (gates_of p) (length (gates_of p)) g)
table_counts = counted.solved

-- .. is the only one;
pub table_once : (p : Program) → errors p ≡ [] → (cap : ℕ) (t v : ℕ → ℕ) → Solves cap p t → Solves cap p v
    → (g : ℕ) → g < length (gates_of p) → t g ≡ v g
table_once = counted.solved_once

-- .. gives the length of the run, no further than to the cap;
pub table_program : (p : Program) → errors p ≡ [] → (cap : ℕ) (t : ℕ → ℕ) → Solves cap p t
    → (es : List Entry) → run_of p ≡ done es → min cap (program_count p t) ≡ min cap (length es)
table_program = counted.solved_program

-- .. and is what one pass over a list in the order of the gates leaves, whatever the list held.
pub table_filled : (p : Program) → errors p ≡ [] → (cap : ℕ) (t : List ℕ) → length t ≡ length (gates_of p)
    → Solves cap p (at (fill (gates_of p) cap (order_of p) t))
table_filled = counted.order_filled

-- "So expand refuses exactly for machine size, entry count or room, and otherwise writes exactly that run": its answer for a program without errors.
pub expand_answers : (p : Program) → errors p ≡ [] → (t : ℕ → ℕ) → Solves 4097 p t → (out : List ℕ)
    → (es : List Entry) × (run_of p ≡ done es) × (expand_read (program p) out ≡ expanded p (program_count p t) es out)
expand_answers = answered.expand_admitted

-- ---- Exactness: no error is listed for nothing

-- "A statement at which check lists an error of kinds 7 to 15 is one at which the run, reaching it, is stuck (in its scope, whatever the depth left)":
-- whatever a call comes to. The errors of an IF are those of its operand, its comparison and the statement that it governs: any of them makes the IF stuck.
pub error_sticks : (call : ℕ → List ℕ → Out) (P : Place) (s : Stmt) → (stmt_errors P.scope s ≡ [] → ⊥) → run call P s ≡ stuck
error_sticks = exact.error_stuck

-- So a gate with an error in its body is stuck whenever it runs, on whatever qubits and within whatever depth, ..
pub body_error_sticks : (gs : List Gate) (d g : ℕ) (qs : List ℕ) → (body_errors (body_scope gs (gate_at gs g)) (gate_at gs g).body ≡ [] → ⊥)
    → run_gate gs d g qs ≡ stuck
body_error_sticks = exact.body_stuck

-- .. and a program with an error at top level is stuck within whatever depth.
pub top_error_sticks : (p : Program) (d : ℕ) → (top_errors (top_scope (gates_of p) p.decls) p.decls ≡ [] → ⊥) → run_at d p ≡ stuck
top_error_sticks = exact.top_stuck

-- Of a program with no errors but recursion: a gate's run ends within depth d just where no d calls one after another begin at the gate. All calls in
-- bodies are reached, since there every operand has size 1.
pub depth_exact : (p : Program) → local_errors p ≡ [] → (d g : ℕ) (qs : List ℕ) → g < length (gates_of p) → length qs ≡ length (gate_at (gates_of p) g).args
    → ((es : List Entry) × (run_gate (gates_of p) d g qs ≡ done es)) ↔ NoWalk (calls_in p) d g
depth_exact p e = exact.gate_ends p (admitted.sound p e)

-- "A recursion listed is a gate whose calls nest past any depth": a gate that comes to one that reaches itself (itself, for one) is stuck within every
-- depth, on whatever qubits; ..
pub recursion_sticks : (p : Program) → local_errors p ≡ [] → (g h : ℕ) → Reach (calls_in p) g h → Reach (calls_in p) h h
    → (d : ℕ) (qs : List ℕ) → run_gate (gates_of p) d g qs ≡ stuck
recursion_sticks p e = exact.recursion_stuck p (admitted.sound p e)

-- .. and where the top level calls such a gate, the program is.
pub recursion_reached : (p : Program) → local_errors p ≡ [] → (g h : ℕ) → T (called_in (header (gates_of p)) (tops p.decls) g) → Reach (calls_in p) g h
    → Reach (calls_in p) h h → (d : ℕ) → run_at d p ≡ stuck
recursion_reached p e = exact.program_stuck p (admitted.sound p e)
