-- What a caller learns where it has matched the answer.
use Rattle.std.specs.Prelude.{ℕ, ◌≡◌, refl, List, Ok, Err}
use Rattle.std.proofs.Common.{sym, ◌∙◌}
use Rattle.rules.specs.Syntax.{Field}
use Rattle.rules.specs.Reading.{Fields, refused, fields, scan}
use Rattle.rules.specs.Grouping.{names}
use Rattle.image.specs.declared.Image.{Image}
use Rattle.image.specs.declared.Refused.{Refused}
use Rattle.image.specs.Table.{names_of}
use Rattle.image.specs.Whole.{Outcome, counts_of, refusal, image_of, Reads}

-- refused: with the fault and the offset that the rules give
pub refused_told : (img : List ℕ) (r : Outcome) (x : Refused) → Reads img r → r ≡ Err x → scan img ≡ refused x.fault x.offset
unfolding image_of refusal
refused_told img r x w v = go (scan img) (sym w.whole ∙ v)
  where
    go : (s : Fields) → image_of img s ≡ Err x → s ≡ refused x.fault x.offset
    go (refused j i) e = let q : ◌≡◌ {A = Refused} (record { fault = j; offset = i }) x = cc in rw (← q) refl
    go (fields l) e = cc

-- read: the program's names and counts
pub record Told (img : List ℕ) (i : Image) : Type 0 where
  pub all : List Field
  pub scanned : scan img ≡ fields all
  pub named : names_of img i.names ≡ names all
  pub counted : i.counts ≡ counts_of all

pub read_told : (img : List ℕ) (r : Outcome) (i : Image) → Reads img r → r ≡ Ok i → Told img i
unfolding image_of refusal
read_told img r i w v = go (scan img) refl (sym w.whole ∙ v)
  where
    go : (s : Fields) → scan img ≡ s → image_of img s ≡ Ok i → Told img i
    go (refused k o) e p = cc
    go (fields l) e p = record { all = l; scanned = e; named = w.named i v l e; counted = cc }
