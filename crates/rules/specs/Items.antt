-- The items of a payload, read from the left: what stands at a place of a list of bytes and the place after it, or why the image is refused.
-- 01: "then items left to right: doesn't fit or bad value 5, name 6, count or depth 7"; "Each span, number, flag, opcode and name is an item
-- of its own; a node's depth is judged right after its opcode, a bad opcode first."
use Rattle.std.specs.Prelude.{ℕ, zero, suc, ◌+◌, ◌-◌, ◌*◌, List, [], ◌∷◌, Bool, true, false, length, get_or, ltb, leb, eqb, Result, Ok, Err}
use Rattle.rules.specs.declared.Operand.{Operand}
use Rattle.rules.specs.declared.Fault.{Fault}
use Rattle.rules.specs.declared.Fault.TheVariants.{BadItem, BadName, TooMany}
use Rattle.rules.specs.Basics.{pick}
use Rattle.rules.specs.declared.Named.{Named}
use Rattle.rules.specs.Syntax.{Expr, pi, real, int, var, two, one}

-- ---- readings, one after another

abbrev pub Got : Type 0 → Type 0
Got A = Result (A × ℕ) Fault

abbrev pub Parser : Type 0 → Type 0
Parser A = List ℕ → ℕ → Got A

abbrev pub bind : {A B : Type 0} → Got A → (A → ℕ → Got B) → Got B
bind (Err k) f = Err k
bind (Ok r) f = f r.0 r.1

abbrev pub ◌>>=◌ : {A B : Type 0} → Parser A → (A → Parser B) → Parser B
◌>>=◌ m f s at = bind (m s at) (λ a n. f a s n)

abbrev pub pure : {A : Type 0} → A → Parser A
pure a s at = Ok (a, at)

-- refused with k unless the test holds
abbrev pub unless : {A : Type 0} → Bool → Fault → A → Parser A
unless ok k a s at = pick ok (Ok (a, at)) (Err k)

abbrev pub must : Bool → Fault → Parser (Unit {0})
must ok k = unless ok k tt

-- k in a row
unfoldable pub times : {A : Type 0} → ℕ → Parser A → Parser (List A)
times zero p = pure []
times (suc k) p = do
  x ← p
  l ← times k p
  pure (x ∷ l)

-- the place alone
abbrev pub end : {A : Type 0} → Got A → Result ℕ Fault
end (Err k) = Err k
end (Ok r) = Ok r.1

-- ---- numbers. 01: "Numbers are little-endian."

abbrev pub le2 : List ℕ → ℕ → ℕ
le2 s at = get_or s at 0 + 256 * get_or s (at + 1) 0

abbrev pub le4 : List ℕ → ℕ → ℕ
le4 s at = le2 s at + 65536 * le2 s (at + 2)

abbrev pub le8 : List ℕ → ℕ → ℕ
le8 s at = le4 s at + 4294967296 * le4 s (at + 4)

-- n bytes that spell a number. 01: "doesn't fit or bad value 5"
abbrev pub fit : ℕ → (List ℕ → ℕ → ℕ) → Parser ℕ
fit n f s at = pick (leb n (length s - at)) (Ok (f s at, at + n)) (Err BadItem)

unfoldable pub byte : Parser ℕ
byte = fit 1 (λ s at. get_or s at 0)

unfoldable pub word2 : Parser ℕ
word2 = fit 2 le2

unfoldable pub word4 : Parser ℕ
word4 = fit 4 le4

unfoldable pub word8 : Parser ℕ
word8 = fit 8 le8

-- ---- items

-- 01: "span: 4 bytes, copied and never read"
unfoldable pub span : Parser ℕ
span = word4

-- 01: "name: 2 bytes, a number below the count of NAME fields"; there are n of them
unfoldable pub name : (n : ℕ) → Parser ℕ
name n = do
  x ← word2
  unless (ltb x n) BadName x

-- 01: "flag (0 or 1)"
unfoldable pub flag : Parser ℕ
flag = do
  f ← byte
  unless (ltb f 2) BadItem f

-- 01: "32 of each counted item .. One more is refused with 7."
unfoldable pub count : Parser ℕ
count = do
  k ← byte
  unless (leb k 32) TooMany k

-- 01: "flag 0 needs index 0"
abbrev pub indexed : ℕ → ℕ → Bool
indexed f i = pick (eqb f 0) (eqb i 0) true

-- 01: "operand: span, name, flag (0 or 1), index 8 bytes"
unfoldable pub operand : (n : ℕ) → Parser Operand
operand n = do
  sp ← span
  x ← name n
  f ← flag
  i ← word8
  unless (indexed f i) BadItem (record { span = sp; name = x; indexed = eqb f 1; index = i })

-- 01: "then span and name of each"
unfoldable pub named : (n : ℕ) → Parser Named
named n = do
  sp ← span
  x ← name n
  pure (record { span = sp; name = x })

-- ---- expressions. 01: "Expressions are in prefix order. A node is an opcode byte, a span, then data".

unfoldable pub opcode : Parser ℕ
opcode = do
  o ← byte
  unless (ltb o 16) BadItem o

-- the data of a leaf with the opcode o, which waits for the span
unfoldable pub leaf : (n o : ℕ) → Parser (ℕ → Expr)
leaf n o =
    pick (eqb o 0) (pure pi)
    (pick (eqb o 1) (do v ← word4; pure (λ sp. real sp v))
    (pick (eqb o 2) (do v ← word8; pure (λ sp. int sp v)) (do v ← name n; pure (λ sp. var sp v))))

-- what follows the opcode o, with e for each operand
unfoldable pub node : (n : ℕ) → Parser Expr → (o : ℕ) → Parser Expr
node n e o = do
  sp ← span
  pick (ltb o 4) (do l ← leaf n o; pure (l sp)) (do
    x ← e
    pick (ltb o 9) (do y ← e; pure (two o sp x y)) (pure (one o sp x)))

-- an expression at most d deep. 01: "A leaf has depth 1."
unfoldable pub expr : (n d : ℕ) → Parser Expr
expr n zero = do
  o ← opcode
  unless false TooMany (pi 0)
expr n (suc d) = do
  o ← opcode
  node n (expr n d) o
