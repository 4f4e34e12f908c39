-- The ways out of reading one field.
use Prim.Native.Nat.{ℕ, ◌+◌, ◌-◌, ◌<◌, ◌≤◌}
use mathlib.Core.Path.{◌≡◌, sym, ◌∙◌}
use mathlib.Core.List.{List}
use mathlib.Core.Bool.{Bool, true, false}
use borrow.Author.Tests.{le-leb, lt-leb, eq-eqb, ne_eqb}
use lib.ListN.{length, get_or}
use Rattle.std.specs.Prelude.{Result, Ok, Err}
use Rattle.rules.specs.declared.Counts.{Counts}
use Rattle.rules.specs.declared.Fault.{Fault}
use Rattle.rules.specs.declared.Fault.TheVariants.{Cut, BadTag, BadItem, BadName, TooMany}
use Rattle.rules.specs.Items.{end, le2}
use Rattle.rules.specs.Reading.{name_field, items, payload, fresh, placed, within, load_at, field}
use Rattle.items.specs.Ends.{Leaves, leaves, end_is_no, end_is_got}

-- ---- its items

module _ (n : ℕ) (ns : List (List ℕ)) (t : ℕ) (s : List ℕ) where
  pub payload_fresh : (b : Bool) → t ≡ 1 → b ≡ fresh ns s → b ≡ true → Ok (length s) ≡ end (payload n ns t s 0)
  unfolding payload name_field
  payload_fresh b e f g = rw (e, ← f, g)

  pub payload_stale : (b : Bool) → t ≡ 1 → b ≡ fresh ns s → b ≡ false → Err BadName ≡ end (payload n ns t s 0)
  unfolding payload name_field
  payload_stale b e f g = rw (e, ← f, g)

  pub payload_items : (r : Result ℕ Fault) → (t ≡ 1 → ⊥) → r ≡ end (items n t s 0) → r ≡ end (payload n ns t s 0)
  unfolding payload
  payload_items r h e = rw (ne_eqb _ _ h, e)

pub ruleset payload_laws = (payload_fresh, payload_stale, payload_items)

-- ---- the field

module _ (c : Counts) (ns : List (List ℕ)) (img : List ℕ) (at l : ℕ) (el : l ≡ length img - at) where
  pub field_short : l < 3 → Err Cut ≡ end (field c ns img at)
  unfolding field
  field_short h = rw (← el, lt-leb _ _ h)

  module _ (h₁ : 3 ≤ l) (t : ℕ) (et : t ≡ get_or img at 0) (b : Bool) (eb : b ≡ placed c t) where
    pub field_place : b ≡ false → Err BadTag ≡ end (field c ns img at)
    unfolding field
    field_place p = rw (← el, le-leb _ _ h₁, ← et, ← eb, p)

    module _ (p : b ≡ true) (n : ℕ) (en : n ≡ le2 img (at + 1)) (l₂ : ℕ) (el₂ : l₂ ≡ length img - (at + 3)) where
      pub field_cut : l₂ < n → Err Cut ≡ end (field c ns img at)
      unfolding field
      field_cut h = rw (← el, le-leb _ _ h₁, ← et, ← eb, p, ← el₂, ← en, lt-leb _ _ h)

      module _ (h₂ : n ≤ l₂) (w : Bool) (ew : w ≡ within c t) where
        pub field_over : w ≡ false → Err TooMany ≡ end (field c ns img at)
        unfolding field
        field_over q = rw (← el, le-leb _ _ h₁, ← et, ← eb, p, ← el₂, ← en, le-leb _ _ h₂, ← ew, q)

        module _ (q : w ≡ true) (s : List ℕ) (es : s ≡ load_at img at) (r : Result ℕ Fault) (er : r ≡ end (payload c.names ns t s 0)) where
          pub field_bad : (k : Fault) (w : Result ℕ Fault) → r ≡ Err k → Leaves w k → w ≡ end (field c ns img at)
          unfolding field
          field_bad k v x l = leaves v k l ∙ rw (← es, ← el, le-leb _ _ h₁, ← et, ← eb, p, ← el₂, ← en, le-leb _ _ h₂, ← ew, q, end_is_no (payload c.names ns t s 0) (sym er ∙ x))

          pub field_rest : (m : ℕ) → r ≡ Ok m → (m ≡ length s → ⊥) → Err BadItem ≡ end (field c ns img at)
          unfolding field
          field_rest m x h = rw (← es, ← el, le-leb _ _ h₁, ← et, ← eb, p, ← el₂, ← en, le-leb _ _ h₂, ← ew, q, (end_is_got (payload c.names ns t s 0) (sym er ∙ x)).1, ne_eqb _ _ h)

          pub field_whole : (m : ℕ) → r ≡ Ok m → m ≡ length s → Ok (at + 3 + n) ≡ end (field c ns img at)
          unfolding field
          field_whole m x h = rw (← es, ← el, le-leb _ _ h₁, ← et, ← eb, p, ← el₂, ← en, le-leb _ _ h₂, ← ew, q, (end_is_got (payload c.names ns t s 0) (sym er ∙ x)).1, eq-eqb _ _ h)

pub ruleset field_laws = (field_short, field_place, field_cut, field_over, field_bad, field_rest, field_whole)
