-- How much an image can hold: what it spells has a weight, and the bytes that spell it are at least as many. A weight counts the errors that there
-- can be, or more (page Bounds).
use Rattle.std.specs.Prelude.{◌≡◌, refl, Bool, true, false, ◌||◌, List, [], ◌∷◌, ℕ, zero, suc, ◌+◌, ◌-◌, ◌≤◌, T, leb, ltb, eqb, length, get_or, drop, Option, Some, None, Ok, Err}
use Rattle.std.proofs.Common.{sym, ap, subst, arith, eqb→eq, leb→le, length-take}
use Rattle.rules.specs.declared.Operand.{Operand}
use Rattle.rules.specs.declared.Counts.{Counts}
use Rattle.rules.specs.declared.Fault.{Fault}
use Rattle.rules.specs.declared.Fault.TheVariants.{TooLong, Cut, BadTag, BadItem, BadName, TooMany}
use Rattle.rules.specs.Basics.{pick}
use Rattle.rules.specs.declared.Named.{Named}
use Rattle.rules.specs.Syntax.{Expr, pi, real, int, var, two, one, Stmt, u, cx, measure, reset, barrier, call, if, missing, Decl, include, reg, gate, top, Program, Field, name_f, include_f, reg_f, gate_f, end_f, stmt_f, if_f}
use Rattle.rules.specs.Items.{Got, Parser, bind, ◌>>=◌, times, unless, must, le2, le4, le8, fit, byte, word2, word4, word8, span, name, flag, count, indexed, operand, named, opcode, leaf, node, expr}
use Rattle.rules.specs.Reading.{Fields, refused, fields, include_field, reg_field, gate_lists, gate_field, u_field, pair_field, reset_field, barrier_field, call_lists, call_field, if_field, items, name_field, fresh, payload, whole, placed, within, field, more, either, from, scan, len_at, load_at, start}
use Rattle.rules.specs.Grouping.{stmt, stmts, begin, body_of, open_after, decls, group, program, grouped, read}
use Rattle.theorems.specs.Search.{pick_same}

-- ---- weights

abbrev pub total : {A : Type 0} → (A → ℕ) → List A → ℕ
total w [] = 0
total w (x ∷ l) = w x + total w l

abbrev pub expr_weight : Expr → ℕ
expr_weight (pi sp) = 0
expr_weight (real sp v) = 0
expr_weight (int sp v) = 0
expr_weight (var sp x) = 1
expr_weight (two o sp x y) = expr_weight x + expr_weight y
expr_weight (one o sp x) = expr_weight x

abbrev pub operand_weight : Operand → ℕ
operand_weight o = 2

abbrev pub named_weight : Named → ℕ
named_weight a = 1

abbrev pub stmt_weight : Stmt → ℕ
stmt_weight (u sp o x y z) = 2 + (expr_weight x + (expr_weight y + expr_weight z))
stmt_weight (cx sp x y) = 4
stmt_weight (measure sp x y) = 4
stmt_weight (reset sp o) = 2
stmt_weight (barrier sp os) = total operand_weight os
stmt_weight (call sp ns x es os) = 2 + (total operand_weight os + total expr_weight es)
stmt_weight (if sp o vs v s) = 2 + stmt_weight s
stmt_weight missing = 0

abbrev pub body_weight : Option (List Stmt) → ℕ
body_weight None = 0
body_weight (Some ss) = total stmt_weight ss

abbrev pub decl_weight : Decl → ℕ
decl_weight (include sp x) = 0
decl_weight (reg c d o) = 2
decl_weight (gate g) = 1 + (total named_weight g.params + total named_weight g.args) + body_weight g.body
decl_weight (top s) = stmt_weight s

abbrev pub field_weight : Field → ℕ
field_weight (name_f b) = 0
field_weight (include_f sp x) = 0
field_weight (reg_f c d o) = 2
field_weight (gate_f d sp x b ps qs) = 1 + (total named_weight ps + total named_weight qs)
field_weight end_f = 0
field_weight (stmt_f s) = stmt_weight s
field_weight (if_f sp o vs v) = 2

-- ---- readings: what is read from a place weighs no more than the bytes up to the next

abbrev Covered : {A : Type 0} → (A → ℕ) → ℕ → Got A → Type 0
Covered w at (Err k) = Unit {0}
Covered w at (Ok r) = at + w r.0 ≤ r.1

-- a data type, so that the weight, the place and the reading are found from a proof
data Takes {A : Type 0} (w : A → ℕ) (at : ℕ) (g : Got A) : Type 0 where
  takes : Covered w at g → Takes w at g

-- one after another: what is read first ends at n
then : {A B : Type 0} {v : A → ℕ} {w : B → ℕ} {at from : ℕ} {g : Got A} (f : A → ℕ → Got B) → Takes v from g
    → ((x : A) (n : ℕ) → from + v x ≤ n → Takes w at (f x n)) → Takes w at (bind g f)
then {g = Err k} f t h = takes tt
then {g = Ok r} f (takes q) h = h r.0 r.1 q

unless_takes : {A : Type 0} {w : A → ℕ} {at : ℕ} (ok : Bool) (k : Fault) (x : A) (s : List ℕ) (n : ℕ) → at + w x ≤ n → Takes w at (unless ok k x s n)
unless_takes true k x s n h = takes h
unless_takes false k x s n h = takes tt

either_takes : {A : Type 0} {w : A → ℕ} {at : ℕ} (b : Bool) (p q : Parser A) (s : List ℕ) (i : ℕ) → Takes w at (p s i) → Takes w at (q s i)
    → Takes w at (pick b p q s i)
either_takes true p q s i x y = x
either_takes false p q s i x y = y

-- and so from an earlier place
earlier : {A : Type 0} {w : A → ℕ} {at from : ℕ} {g : Got A} → at ≤ from → Takes w from g → Takes w at g
earlier {g = Err k} l t = takes tt
earlier {g = Ok r} l (takes h) = takes (omega arith)

-- wherever it starts
abbrev Weighs : {A : Type 0} → (A → ℕ) → Parser A → Type 0
Weighs w p = (s : List ℕ) (at : ℕ) → Takes w at (p s at)

either_weighs : {A : Type 0} {w : A → ℕ} (b : Bool) {p q : Parser A} → Weighs w p → Weighs w q → Weighs w (pick b p q)
either_weighs b x y s at = either_takes b _ _ s at (x s at) (y s at)

times_weighs : {A : Type 0} {w : A → ℕ} {p : Parser A} (k : ℕ) → Weighs w p → Weighs (total w) (times k p)
unfolding times
times_weighs zero h s at = takes (omega arith)
times_weighs (suc k) h s at = then _ (h s at) (λ x i a. then _ (times_weighs k h s i) (λ l j b. takes (omega arith)))

-- ---- items

fit_weighs : (n : ℕ) (f : List ℕ → ℕ → ℕ) → Weighs (λ x. n) (fit n f)
fit_weighs n f s at = go (leb n (length s - at))
  where
    go : (b : Bool) → Takes (λ x. n) at (pick b (Ok (f s at, at + n)) (Err BadItem))
    go true = takes (omega arith)
    go false = takes tt

-- a number that must pass a test
tested_weighs : (n : ℕ) (m : Parser ℕ) (ok : ℕ → Bool) (k : Fault) → Weighs (λ x. n) m → Weighs (λ x. n) (do x ← m; unless (ok x) k x)
tested_weighs n m ok k h s at = then _ (h s at) (λ x i q. unless_takes (ok x) k x s i q)

word4_weighs : Weighs (λ x. 4) word4
unfolding word4
word4_weighs = fit_weighs 4 le4

word8_weighs : Weighs (λ x. 8) word8
unfolding word8
word8_weighs = fit_weighs 8 le8

byte_weighs : Weighs (λ x. 1) byte
unfolding byte
byte_weighs = fit_weighs 1 (λ s at. get_or s at 0)

span_weighs : Weighs (λ x. 4) span
unfolding span
span_weighs = word4_weighs

name_weighs : (n : ℕ) → Weighs (λ x. 2) (name n)
unfolding name word2
name_weighs n = tested_weighs 2 (fit 2 le2) (λ x. ltb x n) BadName (fit_weighs 2 le2)

flag_weighs : Weighs (λ x. 1) flag
unfolding flag
flag_weighs = tested_weighs 1 byte (λ x. ltb x 2) BadItem byte_weighs

count_weighs : Weighs (λ x. 1) count
unfolding count
count_weighs = tested_weighs 1 byte (λ x. leb x 32) TooMany byte_weighs

opcode_weighs : Weighs (λ x. 1) opcode
unfolding opcode
opcode_weighs = tested_weighs 1 byte (λ x. ltb x 16) BadItem byte_weighs

operand_weighs : (n : ℕ) → Weighs operand_weight (operand n)
unfolding operand
operand_weighs n s at =
    then _ (span_weighs s at) (λ sp i h.
    then _ (name_weighs n s i) (λ x j k.
    then _ (flag_weighs s j) (λ f l m.
    then _ (word8_weighs s l) (λ v e r. let z : at + 2 ≤ e = omega arith in unless_takes (indexed f v) BadItem _ s e z))))

named_weighs : (n : ℕ) → Weighs named_weight (named n)
unfolding named
named_weighs n s at = then _ (span_weighs s at) (λ sp i h. then _ (name_weighs n s i) (λ x j k. takes (omega arith)))

-- ---- expressions

leaf_weighs : (n o sp : ℕ) → Weighs (λ f. expr_weight (f sp)) (leaf n o)
unfolding leaf
leaf_weighs n o sp =
    either_weighs (eqb o 0) (λ s at. takes (omega arith))
    (either_weighs (eqb o 1) (λ s at. then _ (word4_weighs s at) (λ v i h. takes (omega arith)))
    (either_weighs (eqb o 2) (λ s at. then _ (word8_weighs s at) (λ v i h. takes (omega arith)))
    (λ s at. then _ (name_weighs n s at) (λ v i h. takes (omega arith)))))

node_weighs : (n : ℕ) {e : Parser Expr} → Weighs expr_weight e → (o : ℕ) → Weighs expr_weight (node n e o)
unfolding node
node_weighs n h o s at = then _ (span_weighs s at) (λ sp i p.
    either_takes (ltb o 4) _ _ s i
    (then _ (leaf_weighs n o sp s i) (λ l j q. takes (omega arith)))
    (then _ (h s i) (λ x j q.
    either_takes (ltb o 9) _ _ s j
    (then _ (h s j) (λ y k r. takes (omega arith)))
    (takes (omega arith)))))

expr_weighs : (n d : ℕ) → Weighs expr_weight (expr n d)
unfolding expr
expr_weighs n zero s at = then _ (opcode_weighs s at) (λ o i h. takes tt)
expr_weighs n (suc d) s at = then _ (opcode_weighs s at) (λ o i h. earlier (omega arith) (node_weighs n (expr_weighs n d) o s i))

-- ---- fields

include_weighs : (n : ℕ) → Weighs field_weight (include_field n)
unfolding include_field
include_weighs n s at = then _ (span_weighs s at) (λ sp i h. then _ (name_weighs n s i) (λ x j k. takes (omega arith)))

reg_weighs : (n : ℕ) (c : Bool) → Weighs field_weight (reg_field n c)
unfolding reg_field
reg_weighs n c s at = then _ (span_weighs s at) (λ d i h. then _ (operand_weighs n s i) (λ o j k. takes (omega arith)))

gate_lists_weigh : (n : ℕ) → Weighs (λ l. total named_weight l.0 + total named_weight l.1) (gate_lists n)
unfolding gate_lists
gate_lists_weigh n s at = then _ (count_weighs s at) (λ k i h. then _ (count_weighs s i) (λ j i' h'.
    then _ (times_weighs k (named_weighs n) s i') (λ ps m p. then _ (times_weighs j (named_weighs n) s m) (λ qs r q. takes (omega arith)))))

gate_weighs : (n : ℕ) → Weighs field_weight (gate_field n)
unfolding gate_field
gate_weighs n s at = then _ (span_weighs s at) (λ d i h. then _ (span_weighs s i) (λ sp i' h'.
    then _ (name_weighs n s i') (λ x j k. then _ (flag_weighs s j) (λ b j' k'.
    then _ (gate_lists_weigh n s j') (λ l m p. takes (omega arith))))))

u_weighs : (n : ℕ) → Weighs field_weight (u_field n)
unfolding u_field
u_weighs n s at = then _ (span_weighs s at) (λ sp i h. then _ (operand_weighs n s i) (λ o j k.
    then _ (expr_weighs n 64 s j) (λ x l p. then _ (expr_weighs n 64 s l) (λ y m q. then _ (expr_weighs n 64 s m) (λ z r t. takes (omega arith))))))

pair_weighs : (n : ℕ) (make : ℕ → Operand → Operand → Stmt) → ((sp : ℕ) (x y : Operand) → stmt_weight (make sp x y) ≤ 4) → Weighs field_weight (pair_field n make)
unfolding pair_field
pair_weighs n make w s at = then _ (span_weighs s at) (λ sp i h. then _ (operand_weighs n s i) (λ x j k.
    then _ (operand_weighs n s j) (λ y m p. takes (omega (arith, w sp x y)))))

reset_weighs : (n : ℕ) → Weighs field_weight (reset_field n)
unfolding reset_field
reset_weighs n s at = then _ (span_weighs s at) (λ sp i h. then _ (operand_weighs n s i) (λ o j k. takes (omega arith)))

barrier_weighs : (n : ℕ) → Weighs field_weight (barrier_field n)
unfolding barrier_field
barrier_weighs n s at = then _ (span_weighs s at) (λ sp i h. then _ (count_weighs s i) (λ k j p.
    then _ (times_weighs k (operand_weighs n) s j) (λ os m q. takes (omega arith))))

call_lists_weigh : (n : ℕ) → Weighs (λ l. total operand_weight l.0 + total expr_weight l.1) (call_lists n)
unfolding call_lists
call_lists_weigh n s at = then _ (count_weighs s at) (λ k i h. then _ (count_weighs s i) (λ j i' h'.
    then _ (times_weighs j (operand_weighs n) s i') (λ os m p. then _ (times_weighs k (expr_weighs n 64) s m) (λ es r q. takes (omega arith)))))

call_weighs : (n : ℕ) → Weighs field_weight (call_field n)
unfolding call_field
call_weighs n s at = then _ (span_weighs s at) (λ sp i h. then _ (span_weighs s i) (λ ns i' h'.
    then _ (name_weighs n s i') (λ x j k. then _ (call_lists_weigh n s j) (λ l m p. takes (omega arith)))))

if_weighs : (n : ℕ) → Weighs field_weight (if_field n)
unfolding if_field
if_weighs n s at = then _ (span_weighs s at) (λ sp i h. then _ (operand_weighs n s i) (λ o j k.
    then _ (span_weighs s j) (λ vs l p. then _ (word8_weighs s l) (λ v m q. takes (omega arith)))))

items_weigh : (n t : ℕ) → Weighs field_weight (items n t)
unfolding items
items_weigh n t =
    either_weighs (eqb t 2) (include_weighs n)
    (either_weighs (eqb t 3) (reg_weighs n false)
    (either_weighs (eqb t 4) (reg_weighs n true)
    (either_weighs (eqb t 5) (gate_weighs n)
    (either_weighs (eqb t 6) (λ s at. takes (omega arith))
    (either_weighs (eqb t 16) (u_weighs n)
    (either_weighs (eqb t 17) (pair_weighs n cx (λ sp x y. omega arith))
    (either_weighs (eqb t 18) (pair_weighs n measure (λ sp x y. omega arith))
    (either_weighs (eqb t 19) (reset_weighs n)
    (either_weighs (eqb t 20) (barrier_weighs n)
    (either_weighs (eqb t 21) (call_weighs n) (if_weighs n)))))))))))

-- a NAME is read from the front of its payload
payload_takes : (n : ℕ) (ns : List (List ℕ)) (t : ℕ) (s : List ℕ) → Takes field_weight 0 (payload n ns t s 0)
unfolding payload name_field
payload_takes n ns t s = either_takes (eqb t 1) _ _ s 0 (unless_takes (fresh ns s) BadName (name_f s) s (length s) (omega arith)) (items_weigh n t s 0)

-- a payload that is read whole
whole_takes : {A B : Type 0} {v : A → ℕ} {w : B → ℕ} {at : ℕ} (m : Parser A) (s : List ℕ) (f : A → ℕ → Got B) → Takes v 0 (m s 0)
    → ((x : A) (n : ℕ) → v x ≤ length s → Takes w at (f x n)) → Takes w at (bind (whole m s 0) f)
whole_takes {A} {B} {v} {w} {at} m s f t h = go (m s 0) t
  where
    end : (x : A) (n : ℕ) → v x ≤ n → (b : Bool) → eqb n (length s) ≡ b → Takes w at (bind (pick b (Ok (x, n)) (Err BadItem)) f)
    end x n q true e = h x n (omega (arith, eqb→eq n (length s) (subst T (sym e) tt)))
    end x n q false e = takes tt

    go : (g : Got A) → Takes v 0 g → Takes w at (bind (bind g (λ x n. pick (eqb n (length s)) (Ok (x, n)) (Err BadItem))) f)
    go (Err k) t = takes tt
    go (Ok r) (takes q) = end r.0 r.1 (omega arith) (eqb r.1 (length s)) refl

must_weighs : (ok : Bool) (k : Fault) → Weighs (λ x. 0) (must ok k)
must_weighs ok k s at = unless_takes ok k tt s at (omega arith)

field_weighs : (c : Counts) (ns : List (List ℕ)) → Weighs field_weight (field c ns)
unfolding field
field_weighs c ns img at =
    then _ (must_weighs (leb 3 (length img - at)) Cut img at) (λ _ i _.
    then _ (must_weighs (placed c (get_or img at 0)) BadTag img i) (λ _ j _.
    then _ (must_weighs (leb (len_at img at) (length img - (at + 3))) Cut img j) (λ _ k _.
    then _ (must_weighs (within c (get_or img at 0)) TooMany img k) (λ _ l _.
    whole_takes (payload c.names ns (get_or img at 0)) (load_at img at) _ (payload_takes c.names ns (get_or img at 0) (load_at img at)) (λ f n h.
    takes (omega (arith, length-take (len_at img at) (drop (at + 3) img))))))))

-- ---- images

-- the fields read from a place on weigh no more than the bytes up to n
abbrev Held : (at n : ℕ) → Fields → Type 0
Held at n (refused k o) = Unit {0}
Held at n (fields l) = at + total field_weight l ≤ n

more_held : (at m n : ℕ) (f : Field) (F : Fields) → at + field_weight f ≤ m → Held m n F → Held at n (more f F)
unfolding more
more_held at m n f (refused k o) h t = tt
more_held at m n f (fields l) h t = omega arith

either_held : (at n : ℕ) (g : Got Field) (rest : ℕ → Fields) → Takes field_weight at g → ((m : ℕ) → Held m n (rest m))
    → Held at n (either g (λ j. refused j at) (λ f m. more f (rest m)))
either_held at n (Err k) rest t h = tt
either_held at n (Ok r) rest (takes q) h = more_held at r.1 n r.0 (rest r.1) q (h r.1)

from_held : (k : ℕ) (c : Counts) (ns : List (List ℕ)) (img : List ℕ) (at : ℕ) → Held at (length img) (from k c ns img at)
unfolding from
from_held zero c ns img at = tt
from_held (suc k) c ns img at = go (eqb at (length img)) refl _ _ (end (c.body || ltb 0 c.ifs))
    (either_held at (length img) (field c ns img at) _ (field_weighs c ns img at) (λ m. from_held k _ _ img m))
  where
    end : (b : Bool) → at ≡ length img → Held at (length img) (pick b (refused Cut at) (fields []))
    end true e = tt
    end false e = omega arith

    go : (b : Bool) → eqb at (length img) ≡ b → (x y : Unit {0} → Fields) → (at ≡ length img → Held at (length img) (x tt)) → Held at (length img) (y tt)
        → Held at (length img) (pick {A = Unit {0} → Fields} b x y tt)
    go true e x y f h = f (eqb→eq at (length img) (subst T (sym e) tt))
    go false e x y f h = h

-- 01: "2: image over 65,536 bytes"
scan_held : (img : List ℕ) → Held 0 65536 (scan img)
unfolding scan
scan_held img = go (leb (length img) 65536) refl (from (length img + 1) start [] img 0) (from_held (length img + 1) start [] img 0)
  where
    go : (b : Bool) → leb (length img) 65536 ≡ b → (F : Fields) → Held 0 (length img) F → Held 0 65536 (pick b F (refused TooLong 0))
    go true e (refused k o) h = tt
    go true e (fields l) h = omega (arith, leb→le (length img) 65536 (subst T (sym e) tt))
    go false e F h = tt

-- ---- programs: each field goes into one declaration at most

begin_total : {A : Type 0} (w : A → ℕ) (b : Bool) (x : A) (l : List A) → total w (begin b x l) + pick b (w x) 0 ≡ w x + total w l
begin_total w true x l = omega arith
begin_total w false x l = omega arith

body_total : (b : Bool) (l : List Field) → body_weight (body_of b l) ≡ pick b (total stmt_weight (stmts false l)) 0
body_total true l = refl
body_total false l = refl

-- in a body it is no matter what the field before was
inside_same : (b : Bool) (l : List Field) → decls true b l ≡ decls true false l
unfolding decls
inside_same b [] = refl
inside_same b (f ∷ l) = refl

-- the rest of an open body, and the statement that an IF before waits for, stand in a declaration that is already there: they count too
decls_total : (i b : Bool) (l : List Field)
    → total decl_weight (decls i b l) + (pick i (total stmt_weight (stmts b l)) 0 + pick b (stmt_weight (stmt l)) 0) ≤ total field_weight l
unfolding decls stmts stmt open_after
decls_total i b [] = omega (arith, pick_same i 0, pick_same b 0)
decls_total true b (name_f x ∷ l) = omega (arith, pick_same b 0, decls_total true false l)
decls_total true b (include_f sp x ∷ l) = omega (arith, pick_same b 0, decls_total true false l)
decls_total true b (reg_f c d o ∷ l) = omega (arith, pick_same b 0, decls_total true false l)
decls_total true b (gate_f d sp x f ps qs ∷ l) = omega (arith, pick_same b 0, decls_total true false l)
decls_total true b (end_f ∷ l) = omega (arith, pick_same b 0, decls_total false false l)
decls_total true b (stmt_f s ∷ l) = omega (arith, begin_total stmt_weight b s (stmts false l), decls_total true false l)
decls_total true b (if_f sp o vs v ∷ l) =
    omega (arith, begin_total stmt_weight b (if sp o vs v (stmt l)) (stmts true l), ap (total decl_weight) (inside_same true l), decls_total true true l)
decls_total false b (name_f x ∷ l) = omega (arith, pick_same b 0, decls_total false false l)
decls_total false b (include_f sp x ∷ l) = omega (arith, pick_same b 0, decls_total false false l)
decls_total false b (reg_f c d o ∷ l) = omega (arith, pick_same b 0, decls_total false false l)
decls_total false b (gate_f d sp x f ps qs ∷ l) = omega (arith, pick_same b 0, body_total f l, decls_total f false l)
decls_total false b (end_f ∷ l) = omega (arith, pick_same b 0, decls_total false false l)
decls_total false b (stmt_f s ∷ l) = omega (arith, begin_total decl_weight b (top s) (decls false false l), decls_total false false l)
decls_total false b (if_f sp o vs v ∷ l) =
    omega (arith, begin_total decl_weight b (top (if sp o vs v (stmt l))) (decls false true l), decls_total false true l)

pub read_total : (img : List ℕ) (p : Program) → read img ≡ program p → total decl_weight p.decls ≤ 65536
unfolding read grouped group
read_total img p = go (scan img) (scan_held img)
  where
    go : (F : Fields) → Held 0 65536 F → grouped F ≡ program p → total decl_weight p.decls ≤ 65536
    go (refused k o) h e = let z : ◌≡◌ {A = ℕ} 0 1 = cc in absurd (omega arith)
    go (fields l) h e =
        let q : group l ≡ p = cc in
        subst (λ (r : Program). total decl_weight r.decls ≤ 65536) q (omega (arith, decls_total false false l))
