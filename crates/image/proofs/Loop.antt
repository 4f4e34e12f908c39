-- The loop over the fields.
use Prim.Native.Nat.{ℕ, zero, suc, ◌+◌, ◌-◌, ◌<◌, ◌≤◌}
use native.Mathlib.Omega.{arith}
use native.Mathlib.Decide.{ℕ_discrete}
use native.Mathlib.Numerals.{sub-one}
use mathlib.Core.Path.{◌≡◌, refl, sym, ap, ◌∙◌}
use mathlib.Core.List.{List, [], ◌∷◌, ◌++◌, append-nil, map, map-append}
use mathlib.Core.Bool.{Bool, true, false, not, ◌||◌}
use borrow.Author.Tests.{leb-true, ltb-true, ltb-false, lt-ltb, le-ltb, le-leb, lt-leb, eq-eqb, ne_eqb, eqb-true, not-true}
use lib.Dec.{eqb, leb, ltb}
use lib.ListN.{length, length-append, get_or}
use Rattle.std.specs.Prelude.{Result, Ok, Err}
use Rattle.rules.specs.declared.Counts.{Counts}
use Rattle.rules.specs.declared.Fault.{Fault}
use Rattle.rules.specs.declared.Fault.TheVariants.{TooLong, Cut, BadTag, TooMany}
use Rattle.rules.specs.Basics.{pick}
use Rattle.rules.specs.Syntax.{Field}
use Rattle.rules.specs.Items.{Got, bind, end}
use Rattle.rules.specs.Reading.{refused, fields, scan, from, more, start, field, payload, whole, is_reg, placed, within, len_at, load_at, next, names_then}
use Rattle.rules.specs.Grouping.{names}
use Rattle.items.specs.Ends.{end_is_no, end_is_got}
use Rattle.image.specs.declared.Names.{Names}
use Rattle.image.specs.declared.Image.{Image}
use Rattle.image.specs.Table.{names_of, noted_of, starts, stop, table}
use Rattle.image.specs.Whole.{Outcome, is_gate, is_register, how_many, counts_of, refusal, image_of, closed_of, Reads}
use Rattle.image.proofs.Sorts.{Sort, of_got, field_sort}
use Rattle.image.proofs.Lists.{onto, onto_none, onto_more, names_more, more_of, starts_length, starts_more, stop_more, table_names, table_more}

-- ---- what a field that is read tells

never : {k : Fault} {r : Field × ℕ} → ◌≡◌ {A = Got Field} (Err k) (Ok r) → ⊥
never p = let z : ◌≡◌ {A = ℕ} 0 1 = cc in omega arith

tests : (b₁ b₂ b₃ b₄ : Bool) (g : Got Field) (e at m : ℕ) (f : Field)
    → bind (pick b₁ (Ok (tt, at)) (Err Cut)) (λ (u : Unit {0}) n. bind (pick b₂ (Ok (tt, n)) (Err BadTag)) (λ (u : Unit {0}) n. bind (pick b₃ (Ok (tt, n)) (Err Cut)) (λ (u : Unit {0}) n. bind (pick b₄ (Ok (tt, n)) (Err TooMany)) (λ (u : Unit {0}) n. bind g (λ f m. Ok (f, e)))))) ≡ Ok (f, m)
    → (b₁ ≡ true) × (b₂ ≡ true) × (b₃ ≡ true) × (b₄ ≡ true) × (m ≡ e)
tests true true true true (Ok r) e at m f p = (refl, refl, refl, refl, (let q : ◌≡◌ {A = Field × ℕ} (r.0, e) (f, m) = cc in sym (ap (λ (x : Field × ℕ). x.1) q)))
tests true true true true (Err k) e at m f p = absurd (never p)
tests true true true false g e at m f p = absurd (never p)
tests true true false b₄ g e at m f p = absurd (never p)
tests true false b₃ b₄ g e at m f p = absurd (never p)
tests false b₂ b₃ b₄ g e at m f p = absurd (never p)

pub record Told (c : Counts) (img : List ℕ) (at m : ℕ) : Type 0 where
  pub there : at + 3 + len_at img at ≤ length img
  pub place : placed c (get_or img at 0) ≡ true
  pub room : within c (get_or img at 0) ≡ true
  pub goes : m ≡ at + 3 + len_at img at

told : (c : Counts) (ns : List (List ℕ)) (img : List ℕ) (at m : ℕ) (f : Field) → field c ns img at ≡ Ok (f, m) → Told c img at m
unfolding field
told c ns img at m f p =
    let t = tests (leb 3 (length img - at)) (placed c (get_or img at 0)) (leb (len_at img at) (length img - (at + 3))) (within c (get_or img at 0))
    (whole (payload c.names ns (get_or img at 0)) (load_at img at) 0) (at + 3 + len_at img at) at m f p in
    let h : 3 ≤ length img - at = leb-true _ _ t.0 in
    let k : len_at img at ≤ length img - (at + 3) = leb-true _ _ t.2 in
    record { there = omega arith; place = t.1; room = t.3; goes = t.4 }

module _ (c : Counts) (t : ℕ) (room : within c t ≡ true) where
  room_name : t ≡ 1 → c.names < 512
  unfolding within
  room_name e = ltb-true _ _ (rw e at room)

  room_gate : t ≡ 5 → c.gates < 128
  unfolding within
  room_gate e = ltb-true _ _ (rw e at room)

  room_if : t ≡ 22 → c.ifs < 16
  unfolding within
  room_if e = ltb-true _ _ (rw e at room)

  room_reg : is_reg t ≡ true → c.regs < 128
  unfolding within
  room_reg e = go (ℕ_discrete t 1)
    where
      go : Dec (t ≡ 1) → c.regs < 128
      go (yes x) = absurd (let z : ◌≡◌ {A = Bool} false true = rw x at e in let y : ◌≡◌ {A = ℕ} 0 1 = cc in omega arith)
      go (Dec.no x) = ltb-true _ _ (rw (ne_eqb t 1 x, e) at room)

-- one more, where there is room for it
one_more : (x n : ℕ) (b : Bool) → x ≤ n → (b ≡ true → x < n) → x + pick b 1 0 ≤ n
one_more x n true h f = let g = f refl in omega arith
one_more x n false h f = omega arith

one_if : (x n : ℕ) (b : Bool) → (b ≡ true → x < n) → pick b (x + 1) 0 ≤ n
one_if x n true f = let g = f refl in omega arith
one_if x n false f = omega arith

-- ---- what the fields that are done leave: the table of their names, and the counts

pub record Noted (img : List ℕ) (done : List Field) (t : Names) : Type 0 where
  pub tabled : t ≡ table (starts (length (names done)) img 0)
  pub held : map (load_at img) (starts (length (names done)) img 0) ≡ names done

pub record Tallied (c : Counts) (done : List Field) : Type 0 where
  pub names_are : c.names ≡ length (names done)
  pub gates_are : c.gates ≡ how_many is_gate done
  pub regs_are : c.regs ≡ how_many is_register done
  pub fewer : length (names done) ≤ length done
  pub begun_is : c.begun ≡ ltb (length (names done)) (length done)

module _ (img : List ℕ) (done : List Field) (t : Names) (w : Noted img done t) where
  pub held_names : names_of img t ≡ names done
  held_names = ap (names_of img) w.tabled ∙ table_names img (starts (length (names done)) img 0) ∙ w.held

  module _ (f : Field) where
    noted_name : (at : ℕ) → names (f ∷ []) ≡ load_at img at ∷ [] → at ≡ stop (length (names done)) img 0 → length (names done) < 512
        → Noted img (done ++ (f ∷ [])) (noted_of t 1 at)
    noted_name at n front room =
        let k = length (names done) in
        let all : names (done ++ (f ∷ [])) ≡ names done ++ (load_at img at ∷ []) = names_more done f ∙ ap (λ l. names done ++ l) n in
        let long : length (names (done ++ (f ∷ []))) ≡ suc k = ap length all ∙ length-append (names done) (load_at img at ∷ []) ∙ omega arith in
        let places : starts (length (names (done ++ (f ∷ [])))) img 0 ≡ starts k img 0 ++ (at ∷ []) = rw (long, front) (starts_more k img 0) in
        let few : length (starts k img 0) < 512 = rw (starts_length k img 0) room in
        record {
          tabled = rw (places, w.tabled) (table_more (starts k img 0) at few);
          held = rw (places, all) (map-append (load_at img) (starts k img 0) (at ∷ []) ∙ ap (λ l. l ++ (load_at img at ∷ [])) w.held);
        }

    noted_other : (tag at : ℕ) → names (f ∷ []) ≡ [] → (tag ≡ 1 → ⊥) → Noted img (done ++ (f ∷ [])) (noted_of t tag at)
    unfolding noted_of
    noted_other tag at n ne =
        let all : names (done ++ (f ∷ [])) ≡ names done = names_more done f ∙ ap (λ l. names done ++ l) n ∙ append-nil (names done) in
        rw (ne_eqb tag 1 ne) (record { tabled = rw all w.tabled; held = rw all w.held })

module _ (c : Counts) (done : List Field) (w : Tallied c done) (tag : ℕ) (p : List ℕ) (f : Field) (is : Sort tag p f) where
  names_long : length (names (done ++ (f ∷ []))) ≡ length (names done) + pick (eqb tag 1) 1 0
  names_long = ap length (names_more done f ∙ ap (λ l. names done ++ l) is.named) ∙ length-append (names done) (pick (eqb tag 1) (p ∷ []) []) ∙ ap (λ n. length (names done) + n) (one (eqb tag 1))
    where
      one : (b : Bool) → length (pick b (p ∷ []) []) ≡ pick b 1 0
      one true = refl
      one false = refl

  -- a NAME stands before all other fields
  tallied : (tag ≡ 1 → c.begun ≡ false) → Tallied (next c tag p) (done ++ (f ∷ []))
  unfolding next
  tallied first =
      let long : length (done ++ (f ∷ [])) ≡ length done + 1 = length-append done (f ∷ []) in
      record {
        names_are = rw names_long (ap (λ n. n + pick (eqb tag 1) 1 0) w.names_are);
        gates_are = rw (more_of is_gate done f, is.gate) (ap (λ n. n + pick (eqb tag 5) 1 0) w.gates_are);
        regs_are = rw (more_of is_register done f, is.register) (ap (λ n. n + pick (is_reg tag) 1 0) w.regs_are);
        fewer = rw (names_long, long) (at_most (eqb tag 1));
        begun_is = rw (names_long, long) (begun (eqb tag 1) refl);
      }
    where
      at_most : (b : Bool) → length (names done) + pick b 1 0 ≤ length done + 1
      at_most true = let h = w.fewer in omega arith
      at_most false = let h = w.fewer in omega arith

      begun : (b : Bool) → eqb tag 1 ≡ b → not b ≡ ltb (length (names done) + pick b 1 0) (length done + 1)
      begun true e =
          let h : length done ≤ length (names done) = ltb-false _ _ (sym w.begun_is ∙ first (eqb-true tag 1 e)) in
          sym (le-ltb (length (names done) + 1) (length done + 1) (omega arith))
      begun false e = let h = w.fewer in sym (lt-ltb (length (names done) + 0) (length done + 1) (omega arith))

-- ---- what holds at the loop's head

pub record Ready (img : List ℕ) (c : Counts) (t : Names) (at : ℕ) : Type 0 where
  pub inside : at ≤ length img
  pub done : List Field
  pub noted : Noted img done t
  pub tally : Tallied c done
  pub front : c.begun ≡ false → at ≡ stop (length (names done)) img 0
  pub few_names : c.names ≤ 512
  pub few_gates : c.gates ≤ 128
  pub few_regs : c.regs ≤ 128
  pub few_ifs : c.ifs ≤ 16
  pub fuel : ℕ
  pub enough : length img - at < fuel
  pub reads : scan img ≡ onto done (from fuel c (names done) img at)

pub ready_start : (img : List ℕ) (t : Names) → length img ≤ 65536 → t ≡ table [] → Ready img start t 0
unfolding scan names starts stop how_many
ready_start img t h e = record {
  inside = omega arith;
  done = [];
  noted = record { tabled = e; held = refl };
  tally = record { names_are = refl; gates_are = refl; regs_are = refl; fewer = omega arith; begun_is = refl };
  front = λ b. refl;
  few_names = omega arith;
  few_gates = omega arith;
  few_regs = omega arith;
  few_ifs = omega arith;
  fuel = length img + 1;
  enough = omega arith;
  reads = rw (le-leb _ _ h) (sym (onto_none _));
}

-- one step of fuel
module _ (c : Counts) (ns : List (List ℕ)) (img : List ℕ) (at : ℕ) (h : at < length img) where
  stop_here : (k : ℕ) (j : Fault) → field c ns img at ≡ Err j → from (suc k) c ns img at ≡ refused j at
  unfolding from
  stop_here k j p = let ne : (at ≡ length img → ⊥) = omega arith in rw (ne_eqb _ _ ne, p)

  go_on : (k m : ℕ) (f : Field) → 0 < k → field c ns img at ≡ Ok (f, m)
      → from k c ns img at ≡ more f (from (k - 1) (next c (get_or img at 0) (load_at img at)) (names_then ns (get_or img at 0) (load_at img at)) img m)
  unfolding from
  go_on zero m f z p = absurd (omega arith)
  go_on (suc k) m f z p = let ne : (at ≡ length img → ⊥) = omega arith in rw (ne_eqb _ _ ne, p, sub-one)

pub refused_reads : (img : List ℕ) (k : Fault) (o : ℕ) (r : Outcome) → r ≡ refusal k o → scan img ≡ refused k o → Reads img r
unfolding refusal image_of
refused_reads img k o r e s = rw e (record { whole = rw s refl; named = λ i p l q. cc })

pub too_long : (img : List ℕ) → 65536 < length img → scan img ≡ refused TooLong 0
unfolding scan
too_long img h = rw (lt-leb _ _ h)

module _ (img : List ℕ) (c : Counts) (t : Names) (at : ℕ) (w : Ready img c t at) (h : at < length img) (r : Result ℕ Fault)
    (er : r ≡ end (field c (names_of img t) img at)) where
  here : r ≡ end (field c (names w.done) img at)
  here = er ∙ ap (λ ns. end (field c ns img at)) (held_names img w.done t w.noted)

  pub ready_stop : (k : Fault) → r ≡ Err k → scan img ≡ refused k at
  unfolding onto
  ready_stop k x = go w.fuel w.enough w.reads
    where
      go : (f : ℕ) → length img - at < f → scan img ≡ onto w.done (from f c (names w.done) img at) → scan img ≡ refused k at
      go zero lt inv = absurd (omega arith)
      go (suc f) lt inv = rw (stop_here c (names w.done) img at h f k (end_is_no (field c (names w.done) img at) (sym here ∙ x))) at inv

  module _ (m : ℕ) (x : r ≡ Ok m) where
    found : (f : Field) × (field c (names w.done) img at ≡ Ok (f, m))
    found = end_is_got (field c (names w.done) img at) (sym here ∙ x)

    pub heard : Told c img at m
    heard = told c (names w.done) img at m found.0 found.1

    sort : Sort (get_or img at 0) (load_at img at) found.0
    sort = of_got (field c (names w.done) img at) found.0 m (field_sort c (names w.done) img at) found.1

    first : get_or img at 0 ≡ 1 → c.begun ≡ false
    unfolding placed
    first e = not-true c.begun (rw e at heard.place)

    after : List Field
    after = w.done ++ (found.0 ∷ [])

    noted_now : Noted img after (noted_of t (get_or img at 0) at)
    unfolding after
    noted_now = elim (ℕ_discrete (get_or img at 0) 1) [
      | yes e ↦ rw e (noted_name img w.done t w.noted found.0 at (rw e at sort.named) (w.front (first e))
          (let g = room_name c (get_or img at 0) heard.room e in omega (arith, w.tally.names_are)))
      | Dec.no e ↦ noted_other img w.done t w.noted found.0 (get_or img at 0) at (rw (ne_eqb (get_or img at 0) 1 e) at sort.named) e
    ]

    front_now : not (eqb (get_or img at 0) 1) ≡ false → m ≡ stop (length (names after)) img 0
    unfolding after
    front_now b = elim (ℕ_discrete (get_or img at 0) 1) [
      | yes e ↦
          let k = length (names w.done) in
          let long : length (names (w.done ++ (found.0 ∷ []))) ≡ suc k = names_long c w.done w.tally (get_or img at 0) (load_at img at) found.0 sort ∙ rw e (omega arith) in
          rw (long, stop_more k img 0, ← w.front (first e)) heard.goes
      | Dec.no e ↦ absurd (let z : ◌≡◌ {A = Bool} true false = rw (ne_eqb (get_or img at 0) 1 e) at b in let y : ◌≡◌ {A = ℕ} 0 1 = cc in omega arith)
    ]

    names_now : names_then (names w.done) (get_or img at 0) (load_at img at) ≡ names after
    unfolding after names_then
    names_now = go (eqb (get_or img at 0) 1) ∙ sym (names_more w.done found.0 ∙ ap (λ l. names w.done ++ l) sort.named)
      where
        go : (b : Bool) → pick b (names w.done ++ (load_at img at ∷ [])) (names w.done) ≡ names w.done ++ pick b (load_at img at ∷ []) []
        go true = refl
        go false = sym (append-nil (names w.done))

    ready_next : Ready img (next c (get_or img at 0) (load_at img at)) (noted_of t (get_or img at 0) at) m
    unfolding after next
    ready_next =
        let tag = get_or img at 0 in
        record {
          inside = omega (arith, heard.goes, heard.there);
          done = after;
          noted = noted_now;
          tally = tallied c w.done w.tally tag (load_at img at) found.0 sort first;
          front = front_now;
          few_names = one_more c.names 512 (eqb tag 1) w.few_names (λ e. room_name c tag heard.room (eqb-true tag 1 e));
          few_gates = one_more c.gates 128 (eqb tag 5) w.few_gates (λ e. room_gate c tag heard.room (eqb-true tag 5 e));
          few_regs = one_more c.regs 128 (is_reg tag) w.few_regs (room_reg c tag heard.room);
          few_ifs = one_if c.ifs 16 (eqb tag 22) (λ e. room_if c tag heard.room (eqb-true tag 22 e));
          fuel = w.fuel - 1;
          enough = omega (arith, w.enough, heard.goes, heard.there);
          reads = w.reads ∙ rw (go_on c (names w.done) img at h w.fuel m found.0 (omega (arith, w.enough)) found.1, names_now) (onto_more w.done found.0 _);
        }

    pub ready_turn : (tag : ℕ) (p : List ℕ) (d : Counts) (u : Names) → tag ≡ get_or img at 0 → p ≡ load_at img at → d ≡ next c tag p → u ≡ noted_of t tag at → Ready img d u m
    ready_turn tag p d u et ep ed eu = rw (ed, eu, ep, et) ready_next

pub noted_as : (t u : Names) (tag at : ℕ) → tag ≡ 1 → u ≡ noted_of t 1 at → u ≡ noted_of t tag at
noted_as t u tag at e h = rw e h

pub noted_same : (t : Names) (tag at : ℕ) → (tag ≡ 1 → ⊥) → t ≡ noted_of t tag at
unfolding noted_of
noted_same t tag at e = rw (ne_eqb tag 1 e) refl

-- ---- the end

counts_made : (c : Counts) (n g r i : ℕ) (b s : Bool) → c.names ≡ n → c.gates ≡ g → c.regs ≡ r → c.ifs ≡ i → c.body ≡ b → c.begun ≡ s
    → c ≡ record { names = n; gates = g; regs = r; ifs = i; body = b; begun = s }
counts_made c n g r i b s en eg er ei eb es = rw (← en, ← eg, ← er, ← ei, ← eb, ← es)

pub ready_end : (img : List ℕ) (c : Counts) (t : Names) (at : ℕ) (r : Outcome) → Ready img c t at → length img ≤ at → r ≡ closed_of c t at → Reads img r
unfolding closed_of from onto image_of counts_of
ready_end img c t at r w h e = rw e (by c.body c.ifs refl refl (all w.fuel w.enough w.reads))
  where
    ends : at ≡ length img
    ends = omega (arith, w.inside)

    all : (f : ℕ) → length img - at < f → scan img ≡ onto w.done (from f c (names w.done) img at)
        → scan img ≡ onto w.done (pick (c.body || ltb 0 c.ifs) (refused Cut at) (fields []))
    all zero lt inv = absurd (omega arith)
    all (suc f) lt inv = rw (eq-eqb at (length img) ends) at inv

    by : (b : Bool) (i : ℕ) → c.body ≡ b → c.ifs ≡ i → scan img ≡ onto w.done (pick (b || ltb 0 i) (refused Cut at) (fields []))
        → Reads img (pick (b || ltb 0 i) (refusal Cut at) (Ok (record { names = t; counts = c })))
    by true i eb ei s = refused_reads img Cut at (refusal Cut at) refl s
    by false (suc i) eb ei s = rw (lt-ltb 0 (suc i) (omega arith)) (refused_reads img Cut at (refusal Cut at) refl (rw (lt-ltb 0 (suc i) (omega arith)) at s))
    by false zero eb ei s =
        let read : scan img ≡ fields w.done = s ∙ ap fields (append-nil w.done) in
        let tallies : c ≡ counts_of w.done =
        counts_made c _ _ _ _ _ _ w.tally.names_are w.tally.gates_are w.tally.regs_are ei eb w.tally.begun_is in
        record {
          whole = rw (read, ← w.noted.tabled, ← tallies) refl;
          named = λ i p l q.
              let is : ◌≡◌ {A = Image} (record { names = t; counts = c }) i = cc in
              let all : w.done ≡ l = cc in
              rw (← is, ← all) (held_names img w.done t w.noted);
        }
