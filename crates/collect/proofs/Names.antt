-- Repeated names: what the searches and the loops give.
use Rattle.std.specs.Prelude.{Option, None, Some}
use mathlib.Core.Path.{◌≡◌, refl, sym, ap, ◌∙◌}
use mathlib.Core.List.{List, [], ◌∷◌, ◌++◌, map, map-append}
use mathlib.Core.Bool.{false}
use Prim.Native.Nat.{ℕ, zero, suc, ◌+◌, ◌-◌, ◌*◌, ◌<◌, ◌≤◌}
use native.Mathlib.Omega.{arith}
use native.Mathlib.Nat.{mul-suc}
use native.Mathlib.Numerals.{add-one}
use borrow.Author.Tests.{eq-eqb, ne_eqb}
use lib.Dec.{eqb}
use lib.ListN.{length, take, drop}
use Rattle.rules.specs.declared.Named.{Named}
use Rattle.rules.specs.declared.Operand.{Operand}
use Rattle.rules.specs.declared.Reg.{Reg}
use Rattle.rules.specs.Basics.{pick}
use Rattle.rules.specs.Items.{le4}
use Rattle.rules.specs.Errors.{Error, error_field, zero_size_register}
use Rattle.rules.specs.Checking.{argument, latest, repeated, repeats, size_of, redeclared}
use Rattle.views.specs.declared.Row.{Row}
use Rattle.views.specs.View.{name_in, named_in, row_in}
use Rattle.views.specs.Rows.{named_ends, row_length, row_take}
use Rattle.views.specs.Items.{names_left}
use Rattle.output.specs.declared.Writer.{Writer}
use Rattle.output.specs.Writers.{Says, puts_then}
use Rattle.theorems.specs.Rows.{latest_snoc}
use Rattle.collect.specs.Collected.{reg_errors_by}

row_snoc : (k : ℕ) (p : List ℕ) (at : ℕ) → row_in named_in 6 (suc k) p at ≡ row_in named_in 6 k p at ++ (named_in p (at + 6 * k) ∷ [])
unfolding row_in
row_snoc zero p at = let e : at ≡ at + 6 * 0 = omega arith in ap (λ (n : ℕ). named_in p n ∷ []) e
row_snoc (suc k) p at =
    let e : at + 6 + 6 * k ≡ at + 6 * suc k = omega (arith, mul-suc 6 k) in
    ap (λ l. named_in p at ∷ l) (row_snoc k p (at + 6) ∙ ap (λ (n : ℕ). row_in named_in 6 k p (at + 6) ++ (named_in p n ∷ [])) e)

-- the latest of the first k names of a row
abbrev pub latest_of : (p : List ℕ) (from : ℕ) (k : ℕ) → (x : ℕ) → Option Reg
latest_of p from k x = latest (map argument (row_in named_in 6 k p from)) x

-- a search from the last name back, where i are left
module _ (p : List ℕ) (from i x : ℕ) (h : 0 < i) (at : ℕ) (ea : at ≡ from + 6 * (i - 1)) (nm : ℕ) (en : nm ≡ name_in p (at + 4)) where
  back : latest_of p from i x ≡ pick (eqb nm x) (Some (argument (named_in p at))) (latest_of p from (i - 1) x)
  unfolding named_in
  back =
      let e : i ≡ suc (i - 1) = omega arith in
      ap (λ (n : ℕ). latest_of p from n x) e
      ∙ ap (λ l. latest (map argument l) x) (row_snoc (i - 1) p from)
      ∙ ap (λ l. latest l x) (map-append argument (row_in named_in 6 (i - 1) p from) (named_in p (from + 6 * (i - 1)) ∷ []))
      ∙ latest_snoc (map argument (row_in named_in 6 (i - 1) p from)) (argument (named_in p (from + 6 * (i - 1)))) x
      ∙ (rw (← ea, en) refl)

  pub back_hit : nm ≡ x → (sp : ℕ) → sp ≡ le4 p at → Some (record { name = x; span = sp; classical = false; size = 1 }) ≡ latest_of p from i x
  unfolding named_in
  back_hit q sp es =
      let a : Some (record { name = x; span = sp; classical = false; size = 1 }) ≡ Some (argument (named_in p at)) = rw (← q, en, es) refl in
      a ∙ sym (back ∙ (rw (eq-eqb nm x q) refl))

  pub back_miss : (nm ≡ x → ⊥) → latest_of p from i x ≡ latest_of p from (i - 1) x
  back_miss q = back ∙ (rw (ne_eqb nm x q) refl)

pub back_none : (p : List ℕ) (from i x : ℕ) → i ≤ 0 → ◌≡◌ {A = Option Reg} None (latest_of p from i x)
unfolding latest row_in
back_none p from i x h = let e : 0 ≡ i = omega arith in ap (λ (n : ℕ). latest_of p from n x) e

-- ---- registers

-- 5 for size 0, then 6
module _ (f g : Option Reg) (eg : f ≡ g) (o : Operand) (decl n : ℕ) (e : n ≡ size_of o) (w w₁ w₂ : Writer) (again : Says w₁ (redeclared f o decl) w₂) where
  pub zero_told : n ≡ 0 → Says w (zero_size_register o.span decl ∷ []) w₁ → Says w (reg_errors_by g decl o) w₂
  zero_told z h = rw (← eg, eq-eqb (size_of o) 0 (sym e ∙ z)) (puts_then error_field h again)

  pub some_told : (n ≡ 0 → ⊥) → w₁ ≡ w → Says w (reg_errors_by g decl o) w₂
  some_told z q = rw (← eg, ne_eqb (size_of o) 0 (λ q. z (e ∙ q)), ← q) again

-- ---- the repeated names of a row

after_drop : (l : List Named) (k : ℕ) (n : Named) (r : List Named) → drop k l ≡ n ∷ r → (k < length l) × (take (suc k) l ≡ take k l ++ (n ∷ [])) × (drop (suc k) l ≡ r)
after_drop [] zero n r e = absurd (let z : length {A = Named} [] ≡ length (n ∷ r) = ap length e in omega arith)
after_drop [] (suc k) n r e = absurd (let z : length {A = Named} [] ≡ length (n ∷ r) = ap length e in omega arith)
after_drop (m ∷ l) zero n r e = (omega arith, ap (λ x. take 1 x) e, ap (λ x. drop 1 x) e)
after_drop (m ∷ l) (suc k) n r e = let q = after_drop l k n r e in (omega (arith, q.0), ap (λ x. m ∷ x) q.1, q.2)

-- `seen` are the names of a row before a place, and l are those behind it
pub record Stands (row seen : Row Named) (l : List Named) : Type 0 where
  pub bytes : seen.bytes ≡ row.bytes
  pub at : seen.at ≡ row.at
  pub few : seen.left ≤ row.left
  pub behind : drop seen.left (names_left row) ≡ l

module _ (row seen : Row Named) (l : List Named) (s : Stands row seen l) (n : Named) (r : List Named) (e : l ≡ n ∷ r) where
  there : (seen.left < row.left) × (take (suc seen.left) (names_left row) ≡ take seen.left (names_left row) ++ (n ∷ [])) × (drop (suc seen.left) (names_left row) ≡ r)
  there = let q = after_drop (names_left row) seen.left n r (s.behind ∙ e) in (rw (row_length named_in 6 named_ends row.left row.bytes.now row.at) at (q.0), q.1, q.2)

  pub stands_fits : seen.left < row.left
  stands_fits = there.0

  abbrev pub seen' : Row Named
  seen' = record { bytes = seen.bytes; at = seen.at; left = seen.left + 1; item = seen.item }

  pub stands_next : Stands row seen' r
  stands_next = record { bytes = s.bytes; at = s.at; few = omega (arith, there.0); behind = rw (add-one seen.left) (there.2) }

  seen_next : names_left seen' ≡ names_left seen ++ (n ∷ [])
  seen_next = rw (s.bytes, s.at, add-one seen.left, row_take named_in 6 named_ends (suc seen.left) row.left row.bytes.now row.at (omega (arith, there.0)), row_take named_in 6 named_ends seen.left row.left row.bytes.now row.at s.few) (there.1)

  pub repeats_next : (kind : ℕ → ℕ → ℕ → ℕ → Error) (decl : ℕ) → repeats kind decl (map argument (names_left seen)) l ≡ repeated kind decl (latest (map argument (names_left seen)) n.name) n ++ repeats kind decl (map argument (names_left seen')) r
  unfolding repeats
  repeats_next kind decl = rw (e, seen_next, map-append argument (names_left seen) (n ∷ [])) refl

module _ (row : Row Named) where
  abbrev none : Row Named
  none = record { bytes = row.bytes; at = row.at; left = 0; item = row.item }

  pub stands_start : Stands row none (names_left row)
  stands_start = record { bytes = refl; at = refl; few = omega arith; behind = refl }

  pub repeats_start : (kind : ℕ → ℕ → ℕ → ℕ → Error) (decl : ℕ) → repeats kind decl [] (names_left row) ≡ repeats kind decl (map argument (names_left none)) (names_left row)
  unfolding row_in
  repeats_start kind decl = refl

pub repeats_end : (seen : List Reg) (l : List Named) (kind : ℕ → ℕ → ℕ → ℕ → Error) (decl : ℕ) → l ≡ [] → repeats kind decl seen l ≡ []
unfolding repeats
repeats_end seen l kind decl e = rw e refl
