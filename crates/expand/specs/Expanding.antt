-- What expand answers for a program without errors, from what its parts give.
use Rattle.std.specs.Prelude.{◌≡◌, refl, Bool, true, false, ◌||◌, T, ltb, take, drop, replicate, Option, Some, None}
use Rattle.std.proofs.Common.{sym, ◌∙◌, arith, lt-ltb, le-ltb, ltb→lt, length-append}
use Rattle.std.proofs.Math.Path.{ap, ap₂, subst}
use mathlib.Core.List.{List, [], ◌∷◌, map}
use Prim.Native.Nat.{ℕ, zero, suc, ◌+◌, ◌*◌, ◌<◌, ◌≤◌, min}
use Rattle.std.proofs.Math.ListN.{length, get_or}
use Rattle.std.proofs.lemmas.List.{length-replicate}
use Rattle.rules.specs.declared.Answer.{Answer}
use Rattle.rules.specs.declared.Answer.TheVariants.{Done, Machine, Entries}
use Rattle.rules.specs.declared.Header.{Header}
use Rattle.rules.specs.declared.Reg.{Reg}
use Rattle.rules.specs.Basics.{pick}
use Rattle.rules.specs.Reading.{len_at, load_at}
use Rattle.rules.specs.Syntax.{Gate, Decl, Program}
use Rattle.rules.specs.Grouping.{program, read, decls, group}
use Rattle.rules.specs.Checking.{gate_at, gates_of, header, latest, registers, top_scope}
use Rattle.rules.specs.Calls.{errors}
use Rattle.rules.specs.Order.{order_of}
use Rattle.rules.specs.Run.{Entry, entry_field, done, bits_of, tops, Place, run_gate, top_place, run_at, run_of}
use Rattle.rules.specs.Answers.{Result, unchanged, flat, lay, too_wide, expand_read}
use Rattle.theorems.specs.Words.{Each, expanded}
use Rattle.theorems.specs.Admitted.{Sound, admitted, order_admitted}
use Rattle.theorems.specs.Rows.{top_bounded, fitting}
use Rattle.theorems.specs.Count.{program_count, counts, Solves, at, fill}
use Rattle.theorems.specs.Counted.{solved, solved_program, order_filled}
use Rattle.theorems.specs.Answered.{expand_admitted}
use Rattle.views.specs.View.{named_in, row_in, row_past, args_in, rest, program_in}
use Rattle.views.specs.Steps.{gate_at_place}
use Rattle.views.specs.Bridge.{bridge}
use Rattle.tables.specs.Tables.{gate_in, reg_in}
use Rattle.counts.specs.Sums.{stmts_sum, sum_fill}
use Rattle.counts.specs.Starts.{start_fill}
use Rattle.counts.specs.Places.{gate_list, Placed}
use Rattle.run.specs.Lines.{top_lines, gate_lines}
use Rattle.expand.specs.Tables.{top_measures, start_bits, gates_listed}
use Rattle.expand.specs.Counting.{stmts_same, fill_same}
use Rattle.expand.specs.Running.{Stands, Low, Short, runs_same, runs_short, nothing_run, gate_run, header_number}

-- the tables and the order are those of the program that the image spells
pub record Of (img gates regs order : List ℕ) (p : Program) : Type 0 where
  pub reads : read img ≡ program p
  pub clear : errors p ≡ []
  pub gates' : (x : ℕ) → header (gates_of p) x ≡ gate_in gates x
  pub regs' : (x : ℕ) → latest (registers p.decls) x ≡ reg_in regs x
  pub order' : order ≡ order_of p
  pub room : length order ≤ 128

-- the answer and the buffer are those of the program
abbrev pub Answers : (img gates regs order out : List ℕ) → Answer → (out' : List ℕ) → Type 0
Answers img gates regs order out r out' = (p : Program) → Of img gates regs order p → expand_read (program p) out ≡ record { answer = r; buffer = out' }

each_of : (Q : ℕ → Type 0) (l : List ℕ) → ((i : ℕ) → i < length l → Q (get_or l i 0)) → Each Q l
each_of Q [] h = tt
each_of Q (x ∷ l) h = (h 0 (omega arith), each_of Q l (λ i k. h (suc i) (omega arith)))

row_length : (k : ℕ) (s : List ℕ) (at : ℕ) → length (row_in named_in 6 k s at) ≡ k
unfolding row_in
row_length zero s at = refl
row_length (suc k) s at = ap suc (row_length k s (at + 6))

-- a list whose words are bytes has no others in its parts
take_byte : (l : List ℕ) → ((i : ℕ) → get_or l i 0 < 256) → (n i : ℕ) → get_or (take n l) i 0 < 256
take_byte l h zero i = omega arith
take_byte [] h (suc n) i = omega arith
take_byte (x ∷ l) h (suc n) zero = h 0
take_byte (x ∷ l) h (suc n) (suc i) = take_byte l (λ j. h (suc j)) n i

drop_byte : (l : List ℕ) → ((i : ℕ) → get_or l i 0 < 256) → (n i : ℕ) → get_or (drop n l) i 0 < 256
drop_byte l h zero i = h i
drop_byte [] h (suc n) i = omega arith
drop_byte (x ∷ l) h (suc n) i = drop_byte l (λ j. h (suc j)) n i

reg_small : (regs : List ℕ) (x : ℕ) (r : Reg) → reg_in regs x ≡ Some r → x < 512
unfolding reg_in
reg_small regs x r e = go (ltb x 512) _ refl e
  where
    go : (b : Bool) (f : Option Reg) → ltb x 512 ≡ b → pick b f None ≡ Some r → x < 512
    go true f q e = ltb→lt x 512 (subst T (sym q) tt)
    go false f q e = let k : ◌≡◌ {A = ℕ} 0 1 = cc in absurd (omega arith)

flat_short : (es : List Entry) → Each Short es → length (flat (map entry_field es)) ≤ 1025 * length es
unfolding flat Short
flat_short [] a = omega arith
flat_short (e ∷ es) a = omega (arith, length-append (entry_field e) (flat (map entry_field es)), flat_short es a.1, a.0)

wide_answer : (p : Program) (out : List ℕ) (x : Result) (k : Bool) → ltb 4096 (bits_of k (registers p.decls)) ≡ true → pick (too_wide p) (unchanged Machine out) x ≡ record { answer = Machine; buffer = out }
wide_answer p out x false q = rw q refl
wide_answer p out x true q = rw q (either (ltb 4096 (bits_of false (registers p.decls))))
  where
    either : (b : Bool) → pick (b || true) (unchanged Machine out) x ≡ record { answer = Machine; buffer = out }
    either true = refl
    either false = refl

-- what an image declares and says at the top level
abbrev pub declared : List ℕ → List Decl
declared img = decls false false (rest img 0)

-- what is written with the tables
abbrev pub writes : (img gates regs places table starts : List ℕ) → (depth : ℕ) → List Entry
writes img gates regs places table starts depth = top_lines (gate_lines img gates table places depth) gates table regs starts (tops (declared img))

module _ (img gates regs order : List ℕ) (p : Program) (O : Of img gates regs order p) where
  gs : List Gate
  gs = gates_of p

  decls_same : p.decls ≡ declared img
  unfolding program_in group
  decls_same = ap (λ (q : Program). q.decls) (bridge img p O.reads)

  S : Sound p
  S = (admitted p O.clear).0

  count : length order ≡ length (gates_of p)
  count = ap length O.order' ∙ (order_admitted p O.clear).count

  -- with any table that solves its equation the answer is known but for the count
  answer : (t : ℕ → ℕ) → Solves 4097 p t → (out : List ℕ) → (es : List Entry) × (run_of p ≡ done es) × (expand_read (program p) out ≡ expanded p (program_count p t) es out)
  answer = expand_admitted p O.clear

  -- too many bits of a kind
  pub too_wide_lem : (k : Bool) (n : ℕ) → n ≡ min 4097 (bits_of k (registers (declared img))) → 4096 < n → (out : List ℕ) → expand_read (program p) out ≡ record { answer = Machine; buffer = out }
  too_wide_lem k n e h out =
      let t : List ℕ = replicate (length (gates_of p)) 0 in
      let a = answer _ (order_filled p O.clear 4097 t (length-replicate {A = ℕ} (length (gates_of p)) 0)) out in
      let b : 4096 < bits_of k (registers p.decls) = rw decls_same (omega arith) in
      a.2 ∙ wide_answer p out _ k (lt-ltb 4096 (bits_of k (registers p.decls)) b)

  module _ (bytes : (i : ℕ) → get_or img i 0 < 256) (places : List ℕ) (size : length places ≡ 128) (P : Placed img (gate_list (declared img)) places) where
    placed : Placed img (gates_of p) places
    placed = subst (λ (l : List Gate). Placed img l places) (sym (gates_listed p S.headers ∙ ap gate_list decls_same)) P

    room : length (gates_of p) ≤ length places
    room = omega (arith, count, O.room)

    few : (g : ℕ) → g < length (gates_of p) → length (gate_at (gates_of p) g).args ≤ 255
    unfolding gate_at_place args_in
    few g h =
        let head : List ℕ = load_at img (get_or places g 0) in
        let b : get_or head 12 0 < 256 = take_byte (drop (get_or places g 0 + 3) img) (drop_byte img bytes (get_or places g 0 + 3)) (len_at img (get_or places g 0)) 12 in
        let n : length (row_in named_in 6 (get_or head 12 0) head (row_past 6 (get_or head 11 0) 13)) ≤ 255 = omega (arith, row_length (get_or head 12 0) head (row_past 6 (get_or head 11 0) 13)) in
        subst (λ (x : Gate). length x.args ≤ 255) (placed.at g h (omega (arith, room))) n

    below : Each (λ g. g < length (gates_of p)) order
    below =
        subst (Each (λ g. g < length (gates_of p))) (sym O.order')
        (each_of (λ g. g < length (gates_of p)) (order_of p) (order_admitted p O.clear).placed.below)

    module _ (t₀ t : List ℕ) (len : length t₀ ≡ length order) (et : t ≡ sum_fill img gates places order t₀) where
      solves : Solves 4097 p (at t)
      solves =
          subst (λ (l : List ℕ). Solves 4097 p (at l))
          (sym (et ∙ fill_same (gates_of p) gates O.gates' img S.bodies places placed room order t₀ below ∙ ap (λ (l : List ℕ). fill (gates_of p) 4097 l t₀) O.order'))
          (order_filled p O.clear 4097 t₀ (len ∙ count))

      counted : stmts_sum gates regs (at t) (tops (declared img)) ≡ program_count p (at t)
      unfolding program_count top_scope
      counted =
          ap (λ (l : List Decl). stmts_sum gates regs (at t) (tops l)) (sym decls_same)
          ∙ stmts_same (top_scope (gates_of p) p.decls) gates regs (top_measures (gates_of p) p.decls regs O.regs') O.gates' (at t) (tops p.decls) S.main

      module _ (q c : ℕ) (eq : q ≡ min 4097 (bits_of false (registers (declared img)))) (ec : c ≡ min 4097 (bits_of true (registers (declared img)))) (lq : q ≤ 4096) (lc : c ≤ 4096) where
        few_bits : (k : Bool) → bits_of k (registers p.decls) ≤ 4096
        few_bits true = rw decls_same (omega arith)
        few_bits false = rw decls_same (omega arith)

        narrow : too_wide p ≡ false
        narrow = rw (le-ltb 4096 _ (few_bits false), le-ltb 4096 _ (few_bits true)) refl

        -- too many entries
        pub too_many : (n : ℕ) → n ≡ min 4097 (stmts_sum gates regs (at t) (tops (declared img))) → 4096 < n → (out : List ℕ) → expand_read (program p) out ≡ record { answer = Entries; buffer = out }
        too_many n e h out =
            let a = answer (at t) solves out in
            let b : 4096 < program_count p (at t) = omega (arith, counted) in
            a.2 ∙ (rw (narrow, lt-ltb 4096 (program_count p (at t)) b) refl)

        stands : Stands (top_place (gates_of p) p.decls) gates regs (start_fill 0 0 (registers p.decls) (replicate 512 0))
        unfolding top_place top_scope
        stands = record {
          sized = top_measures (gates_of p) p.decls regs O.regs';
          begun = λ q n e.
              let f = fitting (latest (registers p.decls)) 0 q n e in
              start_bits (registers p.decls) q.operand.name (reg_small regs q.operand.name f.row (sym (O.regs' q.operand.name) ∙ f.found)) (few_bits false) (few_bits true);
          known = O.gates';
          bounded = λ q n e. let b = top_bounded (gates_of p) p.decls S.rows q n e in (b.0, omega (arith, b.1, few_bits q.classical));
        }

        low : (g : ℕ) → g < length (gates_of p) → get_or t g 0 ≡ 0 → counts (gates_of p) (length (gates_of p)) g ≡ 0
        low g h z = omega (arith, solved p O.clear 4097 (at t) solves g h)

        called : (x : ℕ) (h : Header) → header (gates_of p) x ≡ Some h → (bs : List ℕ) → length bs ≡ h.args → Low bs → (es : List Entry) → run_gate (gates_of p) (length (gates_of p)) h.number bs ≡ done es
            → (es ≡ gate_lines img gates t places (length (gates_of p)) h.number bs) × Each Short es
        called x h k bs n l es e =
            let q = header_number (gates_of p) x h k in
            gate_run (gates_of p) gates img places t O.gates' placed room low few (length (gates_of p)) (omega arith) h.number q.0 bs (n ∙ q.1) l es e

        silent : (x : ℕ) (h : Header) → header (gates_of p) x ≡ Some h → get_or t h.number 0 ≡ 0 → (bs : List ℕ) (es : List Entry) → run_gate (gates_of p) (length (gates_of p)) h.number bs ≡ done es → es ≡ []
        silent = nothing_run (gates_of p) gates img places t O.gates' placed room low few (length (gates_of p)) (omega arith)

        written : (es : List Entry) → run_of p ≡ done es
            → (es ≡ writes img gates regs places t (start_fill 0 0 (registers (declared img)) (replicate 512 0)) (length order)) × Each Short es
        unfolding run_of run_at top_place top_scope
        written es e =
            let P : Place = top_place (gates_of p) p.decls in
            let starts : List ℕ = start_fill 0 0 (registers p.decls) (replicate 512 0) in
            let f = gate_lines img gates t places (length (gates_of p)) in
            let a = runs_same P gates regs starts stands (run_gate (gates_of p) (length (gates_of p))) f t (λ x h k bs n l es e. (called x h k bs n l es e).0) silent (tops p.decls) es e in
            let b = runs_short P gates regs starts stands (run_gate (gates_of p) (length (gates_of p))) f t (λ x h k bs n l es e. (called x h k bs n l es e).0) silent (λ x h k bs n l es e. (called x h k bs n l es e).1) (tops p.decls) es e in
            (a ∙ ap₂ (λ (ds : List Decl) (n : ℕ). top_lines (gate_lines img gates t places n) gates t regs (start_fill 0 0 (registers ds) (replicate 512 0)) (tops ds)) decls_same (sym count), b)

        -- otherwise the run is laid
        pub laid : (n : ℕ) → n ≡ min 4097 (stmts_sum gates regs (at t) (tops (declared img))) → n ≤ 4096 → (out : List ℕ) →
            let es = writes img gates regs places t (start_fill 0 0 (registers (declared img)) (replicate 512 0)) (length order) in
            (expand_read (program p) out ≡ lay Done (map entry_field es) out) × (length es ≤ 4096) × (length (flat (map entry_field es)) ≤ 4198400)
        laid n e h out =
            let a = answer (at t) solves out in
            let w = written a.0 a.1 in
            let b : program_count p (at t) ≤ 4096 = omega (arith, counted) in
            let l : length a.0 ≤ 4096 = omega (arith, solved_program p O.clear 4097 (at t) solves a.0 a.1) in
            subst (λ (es : List Entry). (expand_read (program p) out ≡ lay Done (map entry_field es) out) × (length es ≤ 4096) × (length (flat (map entry_field es)) ≤ 4198400)) w.0
            (a.2 ∙ (rw (narrow, le-ltb 4096 (program_count p (at t)) b) refl), l, omega (arith, flat_short a.0 w.1))

-- the answer and the buffer where the entries are laid
pub record Lays (img gates regs places table : List ℕ) (depth : ℕ) (out : List ℕ) (r : Answer) (out' : List ℕ) : Type 0 where
  pub lays : (es : List Entry) → es ≡ writes img gates regs places table (start_fill 0 0 (registers (declared img)) (replicate 512 0)) depth
      → length es ≤ 4096 → length (flat (map entry_field es)) ≤ 4198400 → lay Done (map entry_field es) out ≡ record { answer = r; buffer = out' }

-- .. with a table of as many words as there are gates
pub record Counts (img gates regs order table out : List ℕ) (r : Answer) (out' : List ℕ) : Type 0 where
  pub gives : length table ≡ length order → Answers img gates regs order out r out'
