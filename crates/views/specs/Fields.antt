-- What the iterator over fields gives.
use Rattle.std.specs.Prelude.{◌≡◌, refl, ◌<◌, ◌≤◌, List, [], ◌∷◌, Bool, true, false, length, get_or, MatchOption, Option}
use Rattle.rules.specs.Reading.{load_at}
use Rattle.rules.specs.Syntax as syntax
use Rattle.rules.specs.Grouping.{decls}
use Rattle.views.specs.View.{field_in, next_in, rest, rest_end}
use Rattle.views.specs.Steps.{then, here, first_inside}
use Rattle.views.specs.declared.Field.{Field}
use Rattle.views.specs.declared.Fields.{Fields}

-- the iterator stood before a field, and stands behind it
pub record Passes (s : Fields) (f : Field) (t : Fields) : Type 0 where
  pub within : s.at < length s.img.now
  pub tag : (f.tag ≡ get_or s.img.now s.at 0) × (f.tag < 256)
  pub payload : f.payload.now ≡ load_at s.img.now s.at
  pub place : f.place ≡ s.at
  pub inside : f.inside ≡ s.inside
  pub img : t.img ≡ s.img
  pub next : t.at ≡ next_in s.img.now s.at
  pub body : t.inside ≡ then f.inside f.tag f.payload.now

-- it stood at the end, and stays there
pub record Over (s t : Fields) : Type 0 where
  pub end : length s.img.now ≤ s.at
  pub stays : t ≡ s

abbrev pub Gives : Fields → Option Field → Fields → Type 0
Gives s r t = MatchOption r (Over s t) (λ f. Passes s f t)

-- the fields that are left
abbrev pub left : Fields → List syntax.Field
left s = rest s.img.now s.at

pub head : (s t : Fields) (f : Field) → Passes s f t → left s ≡ field_in f.tag f.payload.now ∷ left t
head s t f k = rw k.img (here s.img.now s.at f.tag t.at f.payload.now k.within k.tag.0 k.payload k.next)

pub none_left : (s t : Fields) → Over s t → left s ≡ []
none_left s t k = rest_end s.img.now s.at k.end

-- the declarations that are left
abbrev pub opened : Fields → List syntax.Decl
opened s = decls s.inside false (left s)

pub head_opened : (s t : Fields) (f : Field) → Passes s f t → opened s ≡ decls f.inside false (field_in f.tag f.payload.now ∷ left t)
head_opened s t f k = rw (head s t f k, k.inside) refl

-- a field in a body declares nothing
pub stays_inside : (s t : Fields) (f : Field) → Passes s f t → f.inside ≡ true → opened s ≡ opened t
stays_inside s t f k e = rw (head_opened s t f k, k.body, e) (first_inside f.tag f.payload.now (left t))

pub none_opened : (s t : Fields) → Over s t → opened s ≡ []
unfolding decls
none_opened s t k = rw (none_left s t k) (go s.inside)
  where
    go : (i : Bool) → decls i false [] ≡ []
    go true = refl
    go false = refl
