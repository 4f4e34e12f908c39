-- A service: a refusal of the reading is its answer, and otherwise what it says of the program that is read.
use Rattle.std.specs.Prelude.{◌≡◌, List, [], ◌∷◌, ◌++◌, ℕ, ◌≤◌, length, drop, Ok, Err}
use Rattle.std.proofs.Math.Path.{refl, subst}
use Rattle.std.proofs.Common.{sym, arith, zero-add}
use Rattle.std.proofs.lemmas.List.Edits.{sets, sets-eq}
use Rattle.rules.specs.declared.Answer.{Answer}
use Rattle.rules.specs.declared.Answer.TheVariants.{Refused}
use Rattle.rules.specs.declared.Fault.{Fault}
use Rattle.rules.specs.Syntax.{Program}
use Rattle.rules.specs.Grouping.{Reading, refuses, program, group, grouped, read}
use Rattle.rules.specs.Answers.{Result, unchanged, check_read, order_read, expand_read}
use Rattle.image.specs.declared.Image.{Image}
use Rattle.image.specs.declared.Refused as image
use Rattle.image.specs.Whole.{Outcome, Reads}
use Rattle.image.specs.Told.{refused_told, read_told}

-- the answer and the buffer after it
pub record Gives (x : Result) (b' : List ℕ) (r : Answer) : Type 0 where
  pub answer : r ≡ x.answer
  pub buffer : b' ≡ x.buffer

-- a service's answer for an image that is read
pub record Serves (F : Reading → List ℕ → Result) (img b b' : List ℕ) (r : Answer) : Type 0 where
  pub gives : (p : Program) → read img ≡ program p → Gives (F (program p) b) b' r

-- a refusal of the reading is the answer of each service, and the buffer stays as it is
abbrev pub Passes : (Reading → List ℕ → Result) → Type 0
Passes F = (fault : Fault) (offset : ℕ) (out : List ℕ) → F (refuses fault offset) out ≡ unchanged (Refused fault offset) out

pub check_refusal : Passes check_read
unfolding check_read
check_refusal fault offset out = refl

pub order_refusal : Passes order_read
unfolding order_read
order_refusal fault offset out = refl

pub expand_refusal : Passes expand_read
unfolding expand_read
expand_refusal fault offset out = refl

module _ (F : Reading → List ℕ → Result) (img o : List ℕ) (r : Outcome) (w : Reads img r) where
  pub served_refused : Passes F → (x : image.Refused) → r ≡ Err x → Gives (F (read img) o) o (Refused x.fault x.offset)
  unfolding read grouped
  served_refused f x e = rw (refused_told img r x w e, f x.fault x.offset o) (record { answer = refl; buffer = refl })

  pub served_read : (i : Image) → r ≡ Ok i → (o' : List ℕ) (a : Answer) → Serves F img o o' a → Gives (F (read img) o) o' a
  unfolding read grouped
  served_read i e o' a s =
      let t = read_told img r i w e in
      let q : read img ≡ program (group t.all) = rw t.scanned refl in
      subst (λ (x : Reading). Gives (F x o) o' a) (sym q) (s.gives (group t.all) q)

-- ---- for what is listed and laid

pub nil_of : {A : Type 0} (l : List A) → length l ≡ 0 → l ≡ []
nil_of [] e = refl
nil_of (x ∷ l) e = absurd (omega arith)

-- what is laid from the start, where it fits
pub laid : (o bs : List ℕ) → length bs ≤ length o → sets o 0 bs ≡ bs ++ drop (length bs) o
laid o bs h = rw (sets-eq bs o 0 (rw zero-add h), zero-add) refl
