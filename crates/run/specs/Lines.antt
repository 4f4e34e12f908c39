-- What the code writes of a run, for any words in its tables and any bytes: nothing is tested, and no sum goes past the largest number.
use Rattle.rules.specs.declared.Header.{Header}
use Rattle.std.specs.Prelude.{◌≡◌, Bool, true, false, List, [], ◌∷◌, ◌++◌, map, ℕ, zero, suc, ◌-◌, ◌<◌, ◌≤◌, eqb, length, get_or, set, drop, replicate, Option, Some, None}
use Rattle.rules.specs.declared.Operand.{Operand}
use Rattle.rules.specs.declared.Reg.{Reg}
use Rattle.rules.specs.Basics.{pick}
use Rattle.rules.specs.Reading.{is_stmt, load_at}
use Rattle.rules.specs.Syntax.{Stmt, u, cx, measure, reset, barrier, call, if, missing}
use Rattle.rules.specs.Grouping.{stmts}
use Rattle.rules.specs.Checking.{Asked, quantum, classic, argument}
use Rattle.rules.specs.Run.{Entry, cx_e, measure_e, barrier_end_e, opaque_e, if_e, if_end_e, entry_field, common}
use Rattle.views.specs.View.{name_in, operand_in, row_in, args_in, next_in, rest}
use Rattle.views.specs.Steps.{after}
use Rattle.output.specs.Bytes.{plus}
use Rattle.output.specs.declared.Writer.{Writer}
use Rattle.output.specs.Writers.{Puts}
use Rattle.tables.specs.Tables.{gate_in}
use Rattle.counts.specs.Sums.{size_in, sizes_in}
use Rattle.entries.specs.declared.Kind.{Kind}
use Rattle.entries.specs.declared.Kind.TheVariants.{U, Reset, Barrier}
use Rattle.entries.specs.Kinds.{one_of}
use Rattle.run.specs.declared.Frame.{Frame}
use Rattle.run.specs.declared.Program.{Program}
use Rattle.run.specs.declared.Top.{Top}

-- ---- bits

-- the first bit that an operand names, by a table of the names' first bits
unfoldable pub start_in : (bits : List ℕ) → Operand → ℕ
start_in bits o = plus (get_or bits o.name 0) (pick o.indexed o.index 0)

-- the bit of an operand with a start and a size in turn j
abbrev pub lane_of : (start size j : ℕ) → ℕ
lane_of start n j = plus start (pick (eqb n 1) 0 j)

unfoldable pub lanes_in : (regs bits : List ℕ) → (j : ℕ) → List Asked → List ℕ
lanes_in regs bits j [] = []
lanes_in regs bits j (q ∷ qs) = lane_of (start_in bits q.operand) (size_in regs q) j ∷ lanes_in regs bits j qs

-- ---- turns

-- f j, f (j + 1), .. : k of them
unfoldable pub turn_list : ℕ → ℕ → (ℕ → List Entry) → List Entry
turn_list zero j f = []
turn_list (suc k) j f = f j ++ turn_list k (suc j) f

unfoldable pub spread_in : (regs bits : List ℕ) → List Asked → (List ℕ → List Entry) → List Entry
spread_in regs bits qs f = turn_list (common (sizes_in regs qs)) 0 (λ j. f (lanes_in regs bits j qs))

-- an entry of two bits
abbrev pub two_of : (measures : Bool) → ℕ → ℕ → Entry
two_of true = measure_e
two_of false = cx_e

unfoldable pub one_turns : Kind → (start size : ℕ) → List Entry
one_turns k start n = turn_list n 0 (λ j. one_of k (lane_of start n j) ∷ [])

unfoldable pub two_turns : (measures : Bool) → (x m y n : ℕ) → List Entry
two_turns b x m y n = turn_list (pick (eqb m 1) n m) 0 (λ j. two_of b (lane_of x m j) (lane_of y n j) ∷ [])

-- ---- statements

-- the qubits of a barrier, operand by operand
unfoldable pub barrier_row : (regs bits : List ℕ) → List Asked → List Entry
barrier_row regs bits [] = []
barrier_row regs bits (q ∷ qs) = one_turns Barrier (start_in bits q.operand) (size_in regs q) ++ barrier_row regs bits qs

-- a call of what is known of a name; 01: "walking calls that yield no entries" is a wrong build
abbrev pub called : Option Header → (counts : List ℕ) → (ℕ → List Entry) → List Entry
called None counts f = []
called (Some h) counts f = pick (eqb (get_or counts h.number 0) 0) [] (f h.number)

-- .. by what the code makes of the name
abbrev pub walked : Option ℕ → (ℕ → List Entry) → List Entry
walked None f = []
walked (Some g) f = f g

-- any statement; an IF here is what it governs alone
module _ (call' : ℕ → List ℕ → List Entry) (gates counts regs bits : List ℕ) where
  unfoldable pub line : Stmt → List Entry
  line (u sp o x y z) = one_turns U (start_in bits o) (size_in regs (quantum o))
  line (cx sp x y) = two_turns false (start_in bits x) (size_in regs (quantum x)) (start_in bits y) (size_in regs (quantum y))
  line (measure sp x y) = two_turns true (start_in bits x) (size_in regs (quantum x)) (start_in bits y) (size_in regs (classic y))
  line (reset sp o) = one_turns Reset (start_in bits o) (size_in regs (quantum o))
  line (barrier sp os) = barrier_row regs bits (map quantum os) ++ (barrier_end_e ∷ [])
  line (call sp ns x es os) = called (gate_in gates x) counts (λ g. spread_in regs bits (map quantum os) (call' g))
  line (if sp o vs v s) = line s
  line missing = []

  unfoldable pub lines : List Stmt → List Entry
  lines [] = []
  lines (s ∷ ss) = line s ++ lines ss

  -- with the beginnings and ends of IFs
  unfoldable pub top_line : Stmt → List Entry
  top_line (u sp o x y z) = line (u sp o x y z)
  top_line (cx sp x y) = line (cx sp x y)
  top_line (measure sp x y) = line (measure sp x y)
  top_line (reset sp o) = line (reset sp o)
  top_line (barrier sp os) = line (barrier sp os)
  top_line (call sp ns x es os) = line (call sp ns x es os)
  top_line (if sp o vs v s) = if_e (start_in bits o) (size_in regs (classic o)) v ∷ (top_line s ++ (if_end_e ∷ []))
  top_line missing = []

  unfoldable pub top_lines : List Stmt → List Entry
  top_lines [] = []
  top_lines (s ∷ ss) = top_line s ++ top_lines ss

-- any statement but a call and an IF, by its tag; for another field nothing
unfoldable pub plain_line : (regs bits : List ℕ) → (tag : ℕ) → List ℕ → List Entry
plain_line regs bits tag p =
    let x = operand_in p 4 in
    let y = operand_in p 19 in
    pick (eqb tag 16) (one_turns U (start_in bits x) (size_in regs (quantum x)))
    (pick (eqb tag 17) (two_turns false (start_in bits x) (size_in regs (quantum x)) (start_in bits y) (size_in regs (quantum y)))
    (pick (eqb tag 18) (two_turns true (start_in bits x) (size_in regs (quantum x)) (start_in bits y) (size_in regs (classic y)))
    (pick (eqb tag 19) (one_turns Reset (start_in bits x) (size_in regs (quantum x)))
    (pick (eqb tag 20) (barrier_row regs bits (map quantum (row_in operand_in 15 (get_or p 4 0) p 5)) ++ (barrier_end_e ∷ [])) []))))

-- ---- gates

-- the bit of each name: qs for the rows
unfoldable pub frame_fill : List Reg → (qs t : List ℕ) → List ℕ
frame_fill [] qs t = t
frame_fill (r ∷ rs) qs t = frame_fill rs (drop 1 qs) (set t r.name (get_or qs 0 0))

abbrev pub frame_of : (head qs zeros : List ℕ) → List ℕ
frame_of head qs zeros = frame_fill (map argument (args_in head)) qs zeros

-- a table of 512 words or more
abbrev pub full : List ℕ → List ℕ
full t = t ++ replicate (512 - length t) 0

-- the bits of names: those of a header's arguments over those of a table
abbrev pub sees : (bits head qs : List ℕ) → List ℕ
sees bits head qs = frame_of head qs (full bits)

-- the bit of one name: that of the latest row of the name
unfoldable pub seen : List Reg → (qs : List ℕ) → (b x : ℕ) → ℕ
seen [] qs b x = b
seen (r ∷ rs) qs b x = seen rs (drop 1 qs) (pick (eqb r.name x) (get_or qs 0 0) b) x

-- one run of gate g on qs, within a depth
unfoldable pub gate_lines : (img gates counts places : List ℕ) → (depth g : ℕ) → List ℕ → List Entry
gate_lines img gates counts places zero g qs = []
gate_lines img gates counts places (suc d) g qs =
    let place = get_or places g 0 in
    let head = load_at img place in
    pick (eqb (get_or head 10 0) 1)
    (lines (gate_lines img gates counts places d) gates counts [] (frame_of head qs (replicate 512 0)) (stmts false (rest img (next_in img place))))
    (opaque_e (name_in head 8) qs ∷ [])

-- ---- the same of what the code lends

-- the bits of the names in a frame
abbrev pub names : Frame → List ℕ
names f = sees f.bits.now f.head.now f.qs.now

-- the runs of a program's gates
abbrev pub gate_runs : Program → (depth g : ℕ) → List ℕ → List Entry
gate_runs p = gate_lines p.img.now p.gates.now p.counts.now p.places.now

-- a statement of the top level, without the beginnings and ends of IFs and with them
abbrev pub runs : Top → Stmt → List Entry
runs t = line (gate_runs t.program t.depth) t.program.gates.now t.program.counts.now t.frame.regs.now (names t.frame)

abbrev pub top_runs : Top → Stmt → List Entry
top_runs t = top_line (gate_runs t.program t.depth) t.program.gates.now t.program.counts.now t.frame.regs.now (names t.frame)

-- what a run of the statement at a place leaves: its entries, and the place after it
pub record Does (es : List Entry) (img : List ℕ) (at : ℕ) (w w' : Writer) (next : ℕ) : Type 0 where
  pub put : Puts entry_field w es w'
  pub left : rest img next ≡ after (rest img at)
  pub inside : next ≤ length img
  pub on : at ≤ length img → at ≤ next
  pub past : at < length img → is_stmt (get_or img at 0) ≡ true → at < next
