-- What each way out answers.
use mathlib.Core.Path.{◌≡◌, refl, sym, ap, ◌∙◌}
use mathlib.Core.Bool.{Bool, true, false}
use mathlib.Core.List.{List, [], ◌∷◌, ◌++◌, map, append-nil}
use Prim.Native.Nat.{ℕ, ◌+◌, ◌-◌, ◌<◌, ◌≤◌, min}
use native.Mathlib.Omega.{arith}
use native.Mathlib.Nat.{zero-add}
use borrow.Author.Tests.{lt-ltb, le-ltb}
use lib.Dec.{ltb}
use lib.ListN.{length, get_or, set, take, drop, replicate, length-take, length-map, length-set, length-replicate}
use lib.Seq.{sets, sets-eq}
use Rattle.rules.specs.declared.Answer.{Answer}
use Rattle.rules.specs.declared.Answer.TheVariants.{Done, Machine, Entries, Room}
use Rattle.rules.specs.declared.Reg.{Reg}
use Rattle.rules.specs.Basics.{pick}
use Rattle.rules.specs.Checking.{registers}
use Rattle.rules.specs.Run.{Entry, entry_field, bits_of, tops}
use Rattle.rules.specs.Answers.{flat, lay}
use Rattle.theorems.specs.Count.{at}
use Rattle.output.specs.declared.Sink.{Sink}
use Rattle.output.specs.Bytes.{most}
use Rattle.output.specs.Sinks.{Put, start}
use Rattle.counts.specs.Sums.{stmts_sum, sum_fill}
use Rattle.counts.specs.Starts.{start_fill}
use Rattle.counts.specs.Places.{gate_list, Placed}
use Rattle.run.specs.declared.Program.{Program}
use Rattle.run.specs.Lines.{full}
use Rattle.expand.specs.Expanding.{Answers, declared, writes, Lays, Counts, too_wide_lem, too_many, laid}

laid_over : (o bs : List ℕ) → length bs ≤ length o → sets o 0 bs ≡ bs ++ drop (length bs) o
laid_over o bs h = rw (sets-eq bs o 0 (rw zero-add h), zero-add) refl

start_length : (q c : ℕ) (rs : List Reg) (t : List ℕ) → length (start_fill q c rs t) ≡ length t
unfolding start_fill
start_length q c [] t = refl
start_length q c (r ∷ rs) t = go (λ m n v. start_length m n rs v) r.classical
  where
    go : ((m n : ℕ) (v : List ℕ) → length (start_fill m n rs v) ≡ length v) → (b : Bool)
        → length (pick b (start_fill q (min 4097 (c + r.size)) rs (set t r.name c)) (start_fill (min 4097 (q + r.size)) c rs (set t r.name q))) ≡ length t
    go ih true = ih q (min 4097 (c + r.size)) (set t r.name c) ∙ length-set t r.name c
    go ih false = ih (min 4097 (q + r.size)) c (set t r.name q) ∙ length-set t r.name q

-- a table of 512 words is full
full_starts : (rs : List Reg) (starts : List ℕ) → starts ≡ start_fill 0 0 rs (replicate 512 0) → full starts ≡ start_fill 0 0 rs (replicate 512 0)
full_starts rs starts e =
    let n : length starts ≡ 512 = ap length e ∙ start_length 0 0 rs (replicate 512 0) ∙ length-replicate {A = ℕ} 512 0 in
    ap (λ (k : ℕ). starts ++ replicate (512 - k) 0) n ∙ append-nil starts ∙ e

module _ (p : Program) (regs starts : List ℕ) (es : starts ≡ start_fill 0 0 (registers (declared p.img.now)) (replicate 512 0)) (depth : ℕ) (out none none' : List ℕ) (w : Sink) where
  abbrev all : List Entry
  all = writes p.img.now p.gates.now regs p.places.now p.counts.now (full starts) depth

  abbrev Laying : Answer → List ℕ → Type 0
  Laying r out' = Lays p.img.now p.gates.now regs p.places.now p.counts.now depth out r out'

  same : (l : List Entry) → l ≡ writes p.img.now p.gates.now regs p.places.now p.counts.now (start_fill 0 0 (registers (declared p.img.now)) (replicate 512 0)) depth → l ≡ all
  same l e = e ∙ ap (λ (t : List ℕ). writes p.img.now p.gates.now regs p.places.now p.counts.now t depth) (sym (full_starts (registers (declared p.img.now)) starts es))

  module _ (h : Put entry_field none start all none' w) where
    pub lay_room : length out < w.bytes → Laying (Room w.items w.bytes) out
    unfolding lay
    lay_room short = record {
      lays = λ l e few low.
          let q = same l e in
          let i : w.items ≡ length (map entry_field l) = rw q (omega (arith, h.count, length-map all entry_field, ap length q)) in
          let b : w.bytes ≡ length (flat (map entry_field l)) = rw q (omega (arith, h.wrote.place, ap (λ (x : List Entry). length (flat (map entry_field x))) q)) in
          let k : ltb (length out) (length (flat (map entry_field l))) ≡ true = lt-ltb _ _ (rw b at short) in
          rw (k, i, b) refl;
    }

    pub lay_done : w.bytes ≤ length out → length out ≤ most → (out' : List ℕ) (r : Sink) → Put entry_field out start all out' r → Laying (Done r.items r.bytes) out'
    unfolding lay
    lay_done room fits out' r v = record {
      lays = λ l e few low.
          let q = same l e in
          let i : r.items ≡ length (map entry_field l) = rw q (omega (arith, v.count, length-map all entry_field, ap length q)) in
          let b : r.bytes ≡ length (flat (map entry_field l)) = rw q (omega (arith, v.wrote.place, ap (λ (x : List Entry). length (flat (map entry_field x))) q)) in
          let c : w.bytes ≡ length (flat (map entry_field l)) = rw q (omega (arith, h.wrote.place, ap (λ (x : List Entry). length (flat (map entry_field x))) q)) in
          let m : length (flat (map entry_field l)) ≤ length out = rw c at room in
          let o : out' ≡ flat (map entry_field l) ++ drop (length (flat (map entry_field l))) out =
          v.wrote.buffer fits ∙ ap (λ (x : List Entry). sets out 0 (flat (map entry_field x))) (sym q) ∙ laid_over out (flat (map entry_field l)) m in
          rw (le-ltb (length out) (length (flat (map entry_field l))) m, i, b, o) refl;
    }

module _ (img gates regs order table out : List ℕ) where
  pub wide : (k : Bool) (n : ℕ) → n ≡ min 4097 (bits_of k (registers (declared img))) → 4096 < n → Counts img gates regs order table out Machine out
  wide k n e h = record { gives = λ len p O. too_wide_lem img gates regs order p O k n e h out }

  module _ (q c : ℕ) (eq : q ≡ min 4097 (bits_of false (registers (declared img)))) (ec : c ≡ min 4097 (bits_of true (registers (declared img)))) (lq : q ≤ 4096) (lc : c ≤ 4096)
      (bytes : (i : ℕ) → get_or img i 0 < 256) (places : List ℕ) (size : length places ≡ 128) (P : Placed img (gate_list (declared img)) places)
      (t : List ℕ) (et : t ≡ sum_fill img gates places order table) (n : ℕ) (en : n ≡ min 4097 (stmts_sum gates regs (at t) (tops (declared img)))) where
    pub many : 4096 < n → Counts img gates regs order table out Entries out
    many h = record { gives = λ len p O. too_many img gates regs order p O bytes places size P table t len et q c eq ec lq lc n en h out }

    pub fine : n ≤ 4096 → (r : Answer) (out' : List ℕ) → Lays img gates regs places t (length order) out r out' → Counts img gates regs order table out r out'
    fine h r out' l = record {
      gives = λ len p O.
          let a = laid img gates regs order p O bytes places size P table t len et q c eq ec lq lc n en h out in
          a.0 ∙ l.lays _ refl a.1 a.2;
    }

-- no program has so many gates
pub crowded : (img gates regs order out : List ℕ) (r : Answer) → 128 < length order → Answers img gates regs order out r out
crowded img gates regs order out r h = λ p O. absurd (omega (arith, O.room))

pub given : (img gates regs order table out : List ℕ) (r : Answer) (out' : List ℕ) → length order ≤ 128 → length table ≡ 128 → Counts img gates regs order (take (length order) table) out r out' → Answers img gates regs order out r out'
given img gates regs order table out r out' h e c = c.gives (length-take (length order) table ∙ (omega arith))
