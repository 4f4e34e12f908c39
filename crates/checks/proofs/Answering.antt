-- From what was counted and written to the answer of 01's table.
use mathlib.Core.Path.{◌≡◌, refl, sym, ap, ap₂, ◌∙◌}
use mathlib.Core.List.{List, [], ◌++◌, map}
use mathlib.Core.Bool.{true, false}
use Prim.Native.Nat.{ℕ, ◌≤◌, ◌<◌}
use native.Mathlib.Omega.{arith}
use borrow.Author.Tests.{lt-ltb, le-ltb, ne_eqb}
use lib.ListN.{length, take, drop, length-map}
use lib.Seq.{take_at}
use lib.Dec.{ltb, eqb}
use Rattle.rules.specs.declared.Answer.TheVariants.{Done, Errors, Room}
use Rattle.rules.specs.Errors.{error_field}
use Rattle.rules.specs.Syntax.{Program}
use Rattle.rules.specs.Grouping.{program, read}
use Rattle.rules.specs.Calls.{errors}
use Rattle.rules.specs.Answers.{flat, lay, check_read}
use Rattle.theorems.specs.Bounds.{errors_bytes, errors_count}
use Rattle.output.specs.Bytes.{most}
use Rattle.output.specs.declared.Sink.{Sink}
use Rattle.output.specs.declared.Writer.{Writer}
use Rattle.output.specs.Sinks.{start}
use Rattle.collect.specs.declared.Gates.{Gates}
use Rattle.checks.specs.Told.{All}
use Rattle.checks.specs.Served.{Serves, nil_of, laid}

-- from nothing, w₀, a writer has counted the errors: j
module _ (img o : List ℕ) (w₀ j : Writer) (g : Gates) (fresh : w₀.sink ≡ start) (w : All img w₀ j g) (fits : length o ≤ most) where
  fresh_items : w₀.sink.items ≡ 0
  fresh_items = ap (λ (s : Sink). s.items) fresh

  fresh_bytes : w₀.sink.bytes ≡ 0
  fresh_bytes = ap (λ (s : Sink). s.bytes) fresh

  items_are : (p : Program) → read img ≡ program p → j.sink.items ≡ length (errors p)
  items_are p e = omega (arith, (w.said p e).put.count, fresh_items, errors_count img p e)

  bytes_are : (p : Program) → read img ≡ program p → j.sink.bytes ≡ length (flat (map error_field (errors p)))
  bytes_are p e = omega (arith, (w.said p e).put.wrote.place, fresh_bytes, errors_bytes img p e)

  fields_are : (p : Program) → length (map error_field (errors p)) ≡ length (errors p)
  fields_are p = length-map (errors p) error_field

  pub room_short : length o < j.sink.bytes → Serves check_read img o o (Room j.sink.items j.sink.bytes)
  unfolding check_read lay
  room_short h = record {
    gives = λ p e.
        let k : ltb (length o) (length (flat (map error_field (errors p)))) ≡ true = lt-ltb _ _ (rw (bytes_are p e) at h) in
        record {
          answer = rw k (ap₂ Room (items_are p e ∙ sym (fields_are p)) (bytes_are p e));
          buffer = rw k refl;
        };
  }

  module _ (h : j.sink.bytes ≤ length o) where
    long : (p : Program) → read img ≡ program p → ltb (length o) (length (flat (map error_field (errors p)))) ≡ false
    long p e = le-ltb _ _ (rw (bytes_are p e) at h)

    pub none_listed : j.sink.items ≡ 0 → Serves check_read img o o (Done j.sink.items j.sink.bytes)
    unfolding check_read lay flat
    none_listed z = record {
      gives = λ p e.
          let q : errors p ≡ [] = nil_of (errors p) (sym (items_are p e) ∙ z) in
          let c : j.sink.bytes ≡ 0 = bytes_are p e ∙ (rw q refl) in
          let g : 0 ≤ length o = omega arith in
          record { answer = rw (q, z, c, le-ltb (length o) 0 g) refl; buffer = rw (q, le-ltb (length o) 0 g) refl };
    }

    -- some errors, whose bytes lie over the front of the buffer
    some : (j.sink.items ≡ 0 → ⊥) → (o' : List ℕ)
        → ((p : Program) → read img ≡ program p → o' ≡ flat (map error_field (errors p)) ++ drop (length (flat (map error_field (errors p)))) o)
        → Serves check_read img o o' (Errors j.sink.items j.sink.bytes)
    unfolding check_read lay
    some z o' over = record {
      gives = λ p e.
          let m : eqb (length (map error_field (errors p))) 0 ≡ false = ne_eqb _ 0 (λ q. z (items_are p e ∙ sym (fields_are p) ∙ q)) in
          record {
            answer = rw (long p e, m) (ap₂ Errors (items_are p e ∙ sym (fields_are p)) (bytes_are p e));
            buffer = rw (long p e) (over p e);
          };
    }

    pub some_listed : (j.sink.items ≡ 0 → ⊥) → (v₀ v : Writer) (f : Gates) → v₀.out.now ≡ o → v₀.sink ≡ start → All img v₀ v f → (o' : List ℕ) → o' ≡ v.out.now
        → Serves check_read img o o' (Errors j.sink.items j.sink.bytes)
    some_listed z v₀ v f eo es a o' e =
        some z o' (λ p q.
        let t = (a.said p q).put.wrote.buffer (rw eo fits) in
        e ∙ t ∙ rw (eo, es) (laid o (flat (map error_field (errors p))) (rw (bytes_are p q) at h)))

    -- from where they were held, if all of them fit there
    pub some_held : (j.sink.items ≡ 0 → ⊥) → (m : ℕ) → length w₀.out.now ≡ m → m ≤ most → j.sink.bytes ≤ m → (c : List ℕ)
        → c ≡ take j.sink.bytes j.out.now → Serves check_read img o (c ++ drop j.sink.bytes o) (Errors j.sink.items j.sink.bytes)
    some_held z m em f k c x = some z (c ++ drop j.sink.bytes o) (λ p e.
        let bs = flat (map error_field (errors p)) in
        let held : j.out.now ≡ bs ++ drop (length bs) w₀.out.now = (w.said p e).put.wrote.buffer (omega arith) ∙ rw fresh (laid w₀.out.now bs (rw em (rw (bytes_are p e) at k))) in
        rw (x, bytes_are p e, held, take_at bs (drop (length bs) w₀.out.now) (length bs) refl) refl)
