-- From the gates listed to the answer of 01's table.
use mathlib.Core.Path.{◌≡◌, refl, sym, ap, ap₂, ◌∙◌, subst}
use mathlib.Core.List.{List, [], ◌∷◌, map}
use mathlib.Core.Bool.{true, false}
use Prim.Native.Nat.{ℕ, suc, ◌+◌, ◌%◌, ◌≤◌, ◌<◌}
use native.Mathlib.Omega.{arith}
use native.Mathlib.Numerals.{add-one}
use borrow.Author.Tests.{lt-ltb, le-ltb, ne_eqb}
use lib.ListN.{length, get_or, drop, length-map, drop_of_length-le}
use lib.Seq.{sets, drop-cons}
use lib.Dec.{ltb, eqb}
use Rattle.rules.specs.declared.Answer.TheVariants.{Done, Rejected, Room}
use Rattle.rules.specs.Syntax.{Program, Gate}
use Rattle.rules.specs.Grouping.{program, read}
use Rattle.rules.specs.Checking.{gates_of}
use Rattle.rules.specs.Calls.{errors, edge}
use Rattle.rules.specs.Order.{order_of}
use Rattle.rules.specs.Order as rule
use Rattle.rules.specs.Answers.{flat, lay, order_read}
use Rattle.theorems.specs.Bounds.{errors_count}
use Rattle.theorems.specs.Words.{Within}
use Rattle.theorems.specs.Promises.{order_callees_first}
use Rattle.views.specs.Limits.{gates_few}
use Rattle.output.specs.declared.Sink.{Sink}
use Rattle.output.specs.declared.Writer.{Writer}
use Rattle.output.specs.Bytes.{most}
use Rattle.output.specs.Sinks.{start}
use Rattle.output.specs.Writers.{Writes, writes_none, writes_then}
use Rattle.graph.specs.declared.gates.Gates as graph
use Rattle.graph.specs.Rows.{listed}
use Rattle.calls.specs.Collecting.{Numbered, calls_in}
use Rattle.calls.specs.Read.{read_calls, read_within}
use Rattle.collect.specs.declared.Gates.{Gates}
use Rattle.checks.specs.Told.{All}
use Rattle.checks.specs.Served.{Serves, laid}
use Rattle.orders.specs.declared.Ready.{Ready}
use Rattle.orders.specs.Listing.{low, Readied, sound}

-- ---- the bytes of a list, one by one

module _ (l : List ℕ) where
  -- all of l is to be written from w₀; at w what stands from place i on is left
  abbrev pub Left : (w₀ w : Writer) → (i : ℕ) → Type 0
  Left w₀ w i = (w' : Writer) → Writes w (map low (drop i l)) w' → Writes w₀ (map low l) w'

  pub left_less : (w₀ w w₁ : Writer) (i : ℕ) → i < length l → Left w₀ w i → Writes w (low (get_or l i 0) ∷ []) w₁ → Left w₀ w₁ (i + 1)
  left_less w₀ w w₁ i h f k = λ w' v. f w' (rw (drop-cons l i 0 h) (writes_then k (rw add-one at v)))

  pub left_none : (w₀ w : Writer) (i : ℕ) → length l ≤ i → Left w₀ w i → Writes w₀ (map low l) w
  left_none w₀ w i h f = f w (rw (drop_of_length-le l {i = i} h) (writes_none w))

-- ---- lists of bytes

ones : (l : List ℕ) → flat (map (λ g. g ∷ []) l) ≡ l
unfolding flat
ones [] = refl
ones (x ∷ l) = ap (λ (k : List ℕ). x ∷ k) (ones l)

lows : (l : List ℕ) → ((i : ℕ) → i < length l → get_or l i 0 < 256) → map low l ≡ l
lows [] h = refl
lows (x ∷ l) h =
    let a : x < 256 = h 0 (omega arith) in
    let b : x % 256 ≡ x = omega arith in
    ap₂ (λ (y : ℕ) (k : List ℕ). y ∷ k) b (lows l (λ i k. h (suc i) (omega arith)))

-- ---- what is readied

pub readied : (img : List ℕ) (w₀ w : Writer) (g : Gates) → w₀.sink ≡ start → All img w₀ w g → (found : graph.Gates)
    → ((gs : List Gate) → Numbered g.rows g.count gs → g.count ≤ 128 → Within g.count (edge (calls_in gs img)) → listed found ≡ rule.order g.count (edge (calls_in gs img)))
    → Readied img (record { errors = w.sink.items; heads = g.rows; order = found })
unfolding order_of
readied img w₀ w g fresh a found k = record {
  errors' = λ p e. omega (arith, (a.said p e).put.count, ap (λ (s : Sink). s.items) fresh, errors_count img p e);
  heads' = λ p e. (a.holds p e).heads;
  order' = λ p e.
      let c : g.count ≡ length (gates_of p) = a.count p e in
      let within : Within g.count (edge (calls_in (gates_of p) img)) = subst (λ (m : ℕ). Within m (edge (calls_in (gates_of p) img))) (sym c) (read_within img p e) in
      k (gates_of p) (record { count = c; known = (a.holds p e).heads }) (omega (arith, c, gates_few img p e)) within
      ∙ ap₂ (λ m cs. rule.order m (edge cs)) c (read_calls img p e);
}

-- ---- the answer for an image that is read

module _ (img o : List ℕ) (r : Ready) (w : Readied img r) where
  pub rejected : 0 < r.errors → Serves order_read img o o Rejected
  unfolding order_read
  rejected h = record {
    gives = λ p e.
        let m : eqb (length (errors p)) 0 ≡ false = ne_eqb (length (errors p)) 0 (λ (q : length (errors p) ≡ 0). omega (arith, w.errors' p e)) in
        record { answer = rw m refl; buffer = rw m refl };
  }

  module _ (z : r.errors ≤ 0) (row : List ℕ) (er : row ≡ listed r.order) where
    row_is : (p : Program) → read img ≡ program p → row ≡ order_of p
    row_is p e = er ∙ w.order' p e

    fields_are : (p : Program) → read img ≡ program p → flat (map (λ g. g ∷ []) (order_of p)) ≡ row
    fields_are p e = ones (order_of p) ∙ sym (row_is p e)

    count_is : (p : Program) → read img ≡ program p → length (map (λ (g : ℕ). g ∷ []) (order_of p)) ≡ length row
    count_is p e = length-map (order_of p) (λ (g : ℕ). g ∷ []) ∙ ap length (sym (row_is p e))

    admits : (p : Program) → read img ≡ program p → eqb (length (errors p)) 0 ≡ true
    admits p e = rw (sound img r w z p e) refl

    pub room_short : length o < length row → Serves order_read img o o (Room (length row) (length row))
    unfolding order_read lay
    room_short h = record {
      gives = λ p e.
          let t : ltb (length o) (length row) ≡ true = lt-ltb _ _ h in
          record { answer = rw (admits p e, fields_are p e, t, count_is p e) refl; buffer = rw (admits p e, fields_are p e, t) refl };
    }

    small : (p : Program) → read img ≡ program p → map low row ≡ row
    small p e =
        let f = (order_callees_first p (sound img r w z p e)).placed.below in
        rw (row_is p e) (lows (order_of p) (λ i h. let a = f i h in omega (arith, gates_few img p e, a)))

    pub all_listed : length row ≤ length o → length o ≤ most → (w₀ w : Writer) → w₀.out.now ≡ o → w₀.sink ≡ start → Writes w₀ (map low row) w → (o' : List ℕ) → o' ≡ w.out.now
        → Serves order_read img o o' (Done (length row) (length row))
    unfolding order_read lay
    all_listed h fits w₀ w eo es v o' e = record {
      gives = λ p q.
          let t : ltb (length o) (length row) ≡ false = le-ltb _ _ h in
          record {
            answer = rw (admits p q, fields_are p q, t, count_is p q) refl;
            buffer = rw (admits p q, fields_are p q, t) (e ∙ v.wrote.buffer (rw eo fits) ∙ rw (eo, es) (ap (sets o 0) (small p q) ∙ laid o row h));
          };
    }
