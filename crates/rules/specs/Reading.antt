-- Reading an image: the fields from the front, up to the first fault.
use Rattle.std.specs.Prelude.{ℕ, zero, suc, ◌+◌, ◌-◌, List, [], ◌∷◌, ◌++◌, Bool, true, false, not, ◌&&◌, ◌||◌, length, get_or, take, drop, ltb, leb, eqb, Ok, Err}
use Rattle.rules.specs.declared.Operand.{Operand}
use Rattle.rules.specs.declared.Counts.{Counts}
use Rattle.rules.specs.declared.Fault.{Fault}
use Rattle.rules.specs.declared.Fault.TheVariants.{TooLong, Cut, BadTag, BadItem, BadName, TooMany}
use Rattle.rules.specs.Basics.{pick}
use Rattle.rules.specs.declared.Named.{Named}
use Rattle.rules.specs.Syntax.{Expr, Stmt, u, cx, measure, reset, barrier, call, Field, name_f, include_f, reg_f, gate_f, end_f, stmt_f, if_f}
use Rattle.rules.specs.Items.{Got, Parser, bind, ◌>>=◌, pure, must, times, le2, word8, span, name, flag, count, operand, named, expr}

-- ---- the payload of each tag, in 01's order of items; n is the count of NAME fields

-- 01: "1 to 64 bytes, unlike any earlier NAME; else 6"
unfoldable pub same_bytes : List ℕ → List ℕ → Bool
same_bytes [] [] = true
same_bytes [] (y ∷ ys) = false
same_bytes (x ∷ xs) [] = false
same_bytes (x ∷ xs) (y ∷ ys) = eqb x y && same_bytes xs ys

unfoldable pub among : List ℕ → List (List ℕ) → Bool
among x [] = false
among x (y ∷ ys) = same_bytes x y || among x ys

unfoldable pub fresh : List (List ℕ) → List ℕ → Bool
fresh ns s = ltb 0 (length s) && leb (length s) 64 && not (among s ns)

unfoldable pub name_field : List (List ℕ) → Parser Field
name_field ns s at = pick (fresh ns s) (Ok (name_f s, length s)) (Err BadName)

-- 01: "2 INCLUDE: span, name"
unfoldable pub include_field : ℕ → Parser Field
include_field n = do
  sp ← span
  x ← name n
  pure (include_f sp x)

-- 01: "3 QREG, 4 CREG: declaration span, operand"
unfoldable pub reg_field : ℕ → Bool → Parser Field
reg_field n classical = do
  d ← span
  o ← operand n
  pure (reg_f classical d o)

-- 01: "5 GATE: declaration span, name span, name, body flag, parameter count, argument count (a byte each), then span and name of each,
-- parameters first"
unfoldable pub gate_lists : ℕ → Parser (List Named × List Named)
gate_lists n = do
  k ← count
  j ← count
  ps ← times k (named n)
  qs ← times j (named n)
  pure (ps, qs)

unfoldable pub gate_field : ℕ → Parser Field
gate_field n = do
  d ← span
  sp ← span
  x ← name n
  b ← flag
  l ← gate_lists n
  pure (gate_f d sp x (eqb b 1) l.0 l.1)

-- 01: "16 U: span, operand, three expressions"
unfoldable pub u_field : ℕ → Parser Field
u_field n = do
  sp ← span
  o ← operand n
  x ← expr n 64
  y ← expr n 64
  z ← expr n 64
  pure (stmt_f (u sp o x y z))

-- 01: "17 CX: span, operands copy, xor"; "18 MEASURE: span, operands from, to"
unfoldable pub pair_field : ℕ → (ℕ → Operand → Operand → Stmt) → Parser Field
pair_field n make = do
  sp ← span
  x ← operand n
  y ← operand n
  pure (stmt_f (make sp x y))

-- 01: "19 RESET: span, operand"
unfoldable pub reset_field : ℕ → Parser Field
reset_field n = do
  sp ← span
  o ← operand n
  pure (stmt_f (reset sp o))

-- 01: "20 BARRIER: span, count byte, operands"
unfoldable pub barrier_field : ℕ → Parser Field
barrier_field n = do
  sp ← span
  k ← count
  os ← times k (operand n)
  pure (stmt_f (barrier sp os))

-- 01: "21 CALL: span, name span, name, parameter count, operand count (a byte each), operands, expressions"
unfoldable pub call_lists : ℕ → Parser (List Operand × List Expr)
call_lists n = do
  k ← count
  j ← count
  os ← times j (operand n)
  es ← times k (expr n 64)
  pure (os, es)

unfoldable pub call_field : ℕ → Parser Field
call_field n = do
  sp ← span
  ns ← span
  x ← name n
  l ← call_lists n
  pure (stmt_f (call sp ns x l.1 l.0))

-- 01: "22 IF: span, operand, value span, value 8 bytes"
unfoldable pub if_field : ℕ → Parser Field
if_field n = do
  sp ← span
  o ← operand n
  vs ← span
  v ← word8
  pure (if_f sp o vs v)

-- by tag; 6 END is empty
unfoldable pub items : ℕ → ℕ → Parser Field
items n t =
    pick (eqb t 2) (include_field n)
    (pick (eqb t 3) (reg_field n false)
    (pick (eqb t 4) (reg_field n true)
    (pick (eqb t 5) (gate_field n)
    (pick (eqb t 6) (pure end_f)
    (pick (eqb t 16) (u_field n)
    (pick (eqb t 17) (pair_field n cx)
    (pick (eqb t 18) (pair_field n measure)
    (pick (eqb t 19) (reset_field n)
    (pick (eqb t 20) (barrier_field n)
    (pick (eqb t 21) (call_field n) (if_field n)))))))))))

unfoldable pub payload : ℕ → List (List ℕ) → ℕ → Parser Field
payload n ns t = pick (eqb t 1) (name_field ns) (items n t)

-- 01: "bytes left over 5"
abbrev pub whole : {A : Type 0} → Parser A → Parser A
whole m = do
  x ← m
  (λ s at. pick (eqb at (length s)) (Ok (x, at)) (Err BadItem))

-- ---- where a tag may stand, and how many there may be

abbrev pub start : Counts
start = record { names = 0; gates = 0; regs = 0; ifs = 0; body = false; begun = false }

abbrev pub is_decl : ℕ → Bool
is_decl t = leb 2 t && leb t 5

abbrev pub is_stmt : ℕ → Bool
is_stmt t = leb 16 t && leb t 22

-- 01: "NAMEs come first."; "GATE with body flag 1 is followed by statements (16 to 22) and END"; "IF governs the field right after it, which
-- must be a statement"; "Nothing else stands in a body."
unfoldable pub placed : Counts → ℕ → Bool
placed c t =
    pick (eqb t 1) (not c.begun)
    (pick (is_decl t) (not c.body && eqb c.ifs 0)
    (pick (eqb t 6) (c.body && eqb c.ifs 0) (is_stmt t)))

abbrev pub is_reg : ℕ → Bool
is_reg t = eqb t 3 || eqb t 4

-- 01: "512 names, at most 128 gate definition fields, 128 register fields, .. 16 IFs in a row. One more is refused with 7."
unfoldable pub within : Counts → ℕ → Bool
within c t =
    pick (eqb t 1) (ltb c.names 512)
    (pick (is_reg t) (ltb c.regs 128)
    (pick (eqb t 5) (ltb c.gates 128)
    (pick (eqb t 22) (ltb c.ifs 16) true)))

-- the counts after a field with the tag t and the payload p; a gate's body flag is byte 10 of it
unfoldable pub next : Counts → ℕ → List ℕ → Counts
next c t p = record {
  names = c.names + pick (eqb t 1) 1 0;
  gates = c.gates + pick (eqb t 5) 1 0;
  regs = c.regs + pick (is_reg t) 1 0;
  ifs = pick (eqb t 22) (c.ifs + 1) 0;
  body = pick (eqb t 5) (eqb (get_or p 10 0) 1) (pick (eqb t 6) false c.body);
  begun = not (eqb t 1);
}

-- the names after it
unfoldable pub names_then : List (List ℕ) → ℕ → List ℕ → List (List ℕ)
names_then ns t p = pick (eqb t 1) (ns ++ (p ∷ [])) ns

-- ---- a field. 01: "A field is a one-byte tag, a two-byte payload length, the payload."

abbrev pub len_at : List ℕ → ℕ → ℕ
len_at img at = le2 img (at + 1)

abbrev pub load_at : List ℕ → ℕ → List ℕ
load_at img at = take (len_at img at) (drop (at + 3) img)

-- 01: "In a field: three header bytes there (3), tag (4), payload there (3), count of such fields (7), then items left to right .. bytes left over 5."
unfoldable pub field : Counts → List (List ℕ) → Parser Field
field c ns img at = (do
  ok ← must (leb 3 (length img - at)) Cut
  ok ← must (placed c (get_or img at 0)) BadTag
  ok ← must (leb (len_at img at) (length img - (at + 3))) Cut
  ok ← must (within c (get_or img at 0)) TooMany
  (λ s m. bind (whole (payload c.names ns (get_or img at 0)) (load_at img at) 0) (λ f m. Ok (f, at + 3 + len_at img at)))) img at

-- ---- all fields

pub data Fields : Type 0 where
  refused : (fault : Fault) (offset : ℕ) → Fields
  fields : List Field → Fields

unfoldable pub more : Field → Fields → Fields
more f (refused k o) = refused k o
more f (fields l) = fields (f ∷ l)

abbrev pub either : {A B : Type 0} → Got A → (Fault → B) → (A → ℕ → B) → B
either (Err k) f g = f k
either (Ok r) f g = g r.0 r.1

-- The fields from a place on, in at most so many steps. 01: "fields from the front, first fault"; "Offset is the start of the field at fault; the
-- image length where a whole field is missing." 01: "3: image ends in a field, in a body, or after IF".
unfoldable pub from : (steps : ℕ) → Counts → List (List ℕ) → List ℕ → ℕ → Fields
from zero c ns img at = refused Cut 0
from (suc k) c ns img at =
    pick {A = Unit {0} → Fields} (eqb at (length img))
    (λ now. pick (c.body || ltb 0 c.ifs) (refused Cut at) (fields []))
    (λ now. either (field c ns img at) (λ j. refused j at) (λ f m.
    more f (from k (next c (get_or img at 0) (load_at img at)) (names_then ns (get_or img at 0) (load_at img at)) img m)))
    tt

-- 01: "2: image over 65,536 bytes"; "Order: 2; then fields from the front, first fault". A field takes three bytes at least, so the length is steps enough.
unfoldable pub scan : List ℕ → Fields
scan img = pick (leb (length img) 65536) (from (length img + 1) start [] img 0) (refused TooLong 0)
