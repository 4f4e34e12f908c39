-- The fields read so far, one more each turn, and the table of their names.
use Prim.Native.Nat.{ℕ, zero, suc, ◌+◌, ◌-◌, ◌<◌}
use native.Mathlib.Omega.{arith}
use mathlib.Core.Path.{◌≡◌, refl, sym, ap}
use mathlib.Core.List.{List, [], ◌∷◌, ◌++◌, append_assoc, map}
use mathlib.Core.Bool.{Bool}
use borrow.Author.Tests.{lt-ltb}
use lib.ListN.{length, length-append, replicate}
use lib.Seq.{set-append_seam, take-append_seam}
use Rattle.rules.specs.Basics.{pick}
use Rattle.rules.specs.Syntax.{Field, name_f, include_f, reg_f, gate_f, end_f, stmt_f, if_f}
use Rattle.rules.specs.Reading.{Fields, refused, fields, more, len_at, load_at}
use Rattle.rules.specs.Grouping.{names}
use Rattle.image.specs.Table.{names_of, noted_of, starts, stop, table}
use Rattle.image.specs.Whole.{how_many}

-- ---- one field more

-- what is read after the fields that are done
unfoldable pub onto : List Field → Fields → Fields
onto done (refused k o) = refused k o
onto done (fields l) = fields (done ++ l)

pub onto_none : (r : Fields) → onto [] r ≡ r
unfolding onto
onto_none (refused k o) = refl
onto_none (fields l) = refl

pub onto_more : (done : List Field) (f : Field) (r : Fields) → onto done (more f r) ≡ onto (done ++ (f ∷ [])) r
unfolding onto more
onto_more done f (refused k o) = refl
onto_more done f (fields l) = ap fields (sym (append_assoc done (f ∷ []) l))

pub names_more : (done : List Field) (f : Field) → names (done ++ (f ∷ [])) ≡ names done ++ names (f ∷ [])
unfolding names
names_more [] f = refl
names_more (name_f x ∷ l) f = rw (names_more l f)
names_more (include_f sp x ∷ l) f = names_more l f
names_more (reg_f c d o ∷ l) f = names_more l f
names_more (gate_f d sp x b ps qs ∷ l) f = names_more l f
names_more (end_f ∷ l) f = names_more l f
names_more (stmt_f s ∷ l) f = names_more l f
names_more (if_f sp o vs v ∷ l) f = names_more l f

pub more_of : (p : Field → Bool) (done : List Field) (f : Field) → how_many p (done ++ (f ∷ [])) ≡ how_many p done + pick (p f) 1 0
unfolding how_many
more_of p [] f = refl
more_of p (x ∷ l) f = let h = more_of p l f in omega arith

-- ---- fields in a row

pub starts_length : (k : ℕ) (img : List ℕ) (at : ℕ) → length (starts k img at) ≡ k
unfolding starts
starts_length zero img at = refl
starts_length (suc k) img at = ap suc (starts_length k img (at + 3 + len_at img at))

pub starts_more : (k : ℕ) (img : List ℕ) (at : ℕ) → starts (suc k) img at ≡ starts k img at ++ (stop k img at ∷ [])
unfolding starts stop
starts_more zero img at = refl
starts_more (suc k) img at = ap (λ l. at ∷ l) (starts_more k img (at + 3 + len_at img at))

pub stop_more : (k : ℕ) (img : List ℕ) (at : ℕ) → stop (suc k) img at ≡ stop k img at + 3 + len_at img (stop k img at)
unfolding stop
stop_more zero img at = refl
stop_more (suc k) img at = stop_more k img (at + 3 + len_at img at)

-- ---- the table

pub table_names : (img places : List ℕ) → names_of img (table places) ≡ map (load_at img) places
unfolding names_of table
table_names img places = rw (take-append_seam places (replicate (512 - length places) 0))

pub table_more : (places : List ℕ) (at : ℕ) → length places < 512 → noted_of (table places) 1 at ≡ table (places ++ (at ∷ []))
unfolding noted_of table
table_more places at h =
    let room : 512 - length places ≡ suc (511 - length places) = omega arith in
    let long : length (places ++ (at ∷ [])) ≡ length places + 1 = length-append places (at ∷ []) in
    let rest : 512 - length (places ++ (at ∷ [])) ≡ 511 - length places = omega arith in
    rw (lt-ltb _ _ h, room, rest, long, set-append_seam places 0 (replicate (511 - length places) 0) at, append_assoc)
