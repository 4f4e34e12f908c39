-- What reading an image answers.
use Rattle.std.specs.Prelude.{ℕ, ◌+◌, ◌≡◌, List, [], ◌∷◌, Bool, true, false, ◌||◌, length, ltb, Result, Ok, Err}
use Rattle.rules.specs.declared.Counts.{Counts}
use Rattle.rules.specs.declared.Fault.{Fault}
use Rattle.rules.specs.declared.Fault.TheVariants.{Cut}
use Rattle.rules.specs.Basics.{pick}
use Rattle.rules.specs.Syntax.{Field, name_f, include_f, reg_f, gate_f, end_f, stmt_f, if_f}
use Rattle.rules.specs.Reading.{Fields, refused, fields, scan}
use Rattle.rules.specs.Grouping.{names}
use Rattle.image.specs.declared.Names.{Names}
use Rattle.image.specs.declared.Image.{Image}
use Rattle.image.specs.declared.Refused.{Refused}
use Rattle.image.specs.Table.{names_of, starts, table}

unfoldable pub is_gate : Field → Bool
is_gate (name_f x) = false
is_gate (include_f sp x) = false
is_gate (reg_f c d o) = false
is_gate (gate_f d sp x f ps qs) = true
is_gate end_f = false
is_gate (stmt_f s) = false
is_gate (if_f sp o vs v) = false

unfoldable pub is_register : Field → Bool
is_register (name_f x) = false
is_register (include_f sp x) = false
is_register (reg_f c d o) = true
is_register (gate_f d sp x f ps qs) = false
is_register end_f = false
is_register (stmt_f s) = false
is_register (if_f sp o vs v) = false

unfoldable pub how_many : (Field → Bool) → List Field → ℕ
how_many p [] = 0
how_many p (f ∷ l) = how_many p l + pick (p f) 1 0

-- the counts after all fields; no body and no IF is open there
unfoldable pub counts_of : List Field → Counts
counts_of l = record {
  names = length (names l);
  gates = how_many is_gate l;
  regs = how_many is_register l;
  ifs = 0;
  body = false;
  begun = ltb (length (names l)) (length l);
}

-- what reading answers
abbrev pub Outcome : Type 0
Outcome = Result Image Refused

unfoldable pub refusal : (fault : Fault) (offset : ℕ) → Outcome
refusal k o = Err (record { fault = k; offset = o })

-- NAMEs come first, so their places follow from their number
unfoldable pub image_of : List ℕ → Fields → Outcome
image_of img (refused k o) = refusal k o
image_of img (fields l) = Ok (record { names = table (starts (length (names l)) img 0); counts = counts_of l })

-- at the end of the image: 01: "3: image ends in a field, in a body, or after IF"
unfoldable pub closed_of : Counts → Names → (at : ℕ) → Outcome
closed_of c t at = pick (c.body || ltb 0 c.ifs) (refusal Cut at) (Ok (record { names = t; counts = c }))

-- The answer is settled by the fields, and the table holds the program's names.
pub record Reads (img : List ℕ) (r : Outcome) : Type 0 where
  pub whole : r ≡ image_of img (scan img)
  pub named : (i : Image) → r ≡ Ok i → (l : List Field) → scan img ≡ fields l → names_of img i.names ≡ names l
