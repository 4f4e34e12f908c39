-- The program that the fields of an image make up: a gate with its body's statements, an IF with what it governs. Nothing is refused here.
use Rattle.std.specs.Prelude.{ℕ, List, [], ◌∷◌, Bool, true, false, Option, Some, None}
use Rattle.rules.specs.declared.Fault.{Fault}
use Rattle.rules.specs.Basics.{pick}
use Rattle.rules.specs.Syntax.{Stmt, if, missing, Decl, include, reg, gate, top, Program, Field, name_f, include_f, reg_f, gate_f, end_f, stmt_f, if_f}
use Rattle.rules.specs.Reading.{Fields, refused, fields, scan}

-- The statement that a list of fields begins with. 01: "IF governs the field right after it".
unfoldable pub stmt : List Field → Stmt
stmt [] = missing
stmt (name_f b ∷ l) = missing
stmt (include_f sp x ∷ l) = missing
stmt (reg_f c d o ∷ l) = missing
stmt (gate_f d sp x b ps qs ∷ l) = missing
stmt (end_f ∷ l) = missing
stmt (stmt_f s ∷ l) = s
stmt (if_f sp o vs v ∷ l) = if sp o vs v (stmt l)

-- x at the front, unless the IF before has it
abbrev pub begin : {A : Type 0} → (governed : Bool) → A → List A → List A
begin true x l = l
begin false x l = x ∷ l

-- The statements of a body, up to its END; `governed` says that the field before is an IF.
unfoldable pub stmts : (governed : Bool) → List Field → List Stmt
stmts b [] = []
stmts b (name_f x ∷ l) = stmts false l
stmts b (include_f sp x ∷ l) = stmts false l
stmts b (reg_f c d o ∷ l) = stmts false l
stmts b (gate_f d sp x f ps qs ∷ l) = stmts false l
stmts b (end_f ∷ l) = []
stmts b (stmt_f s ∷ l) = begin b s (stmts false l)
stmts b (if_f sp o vs v ∷ l) = begin b (if sp o vs v (stmt l)) (stmts true l)

abbrev pub body_of : Bool → List Field → Option (List Stmt)
body_of b l = pick b (Some (stmts false l)) None

-- is a body still open after the field?
unfoldable pub open_after : Field → Bool
open_after (name_f x) = true
open_after (include_f sp x) = true
open_after (reg_f c d o) = true
open_after (gate_f d sp x f ps qs) = true
open_after end_f = false
open_after (stmt_f s) = true
open_after (if_f sp o vs v) = true

-- The declarations; `inside` says that a body is open.
unfoldable pub decls : (inside governed : Bool) → List Field → List Decl
decls i b [] = []
decls true b (f ∷ l) = decls (open_after f) false l
decls false b (name_f x ∷ l) = decls false false l
decls false b (include_f sp x ∷ l) = include sp x ∷ decls false false l
decls false b (reg_f c d o ∷ l) = reg c d o ∷ decls false false l
decls false b (gate_f d sp x f ps qs ∷ l) =
    gate (record { decl = d; span = sp; name = x; params = ps; args = qs; body = body_of f l }) ∷ decls f false l
decls false b (end_f ∷ l) = decls false false l
decls false b (stmt_f s ∷ l) = begin b (top s) (decls false false l)
decls false b (if_f sp o vs v ∷ l) = begin b (top (if sp o vs v (stmt l))) (decls false true l)

unfoldable pub names : List Field → List (List ℕ)
names [] = []
names (name_f x ∷ l) = x ∷ names l
names (include_f sp x ∷ l) = names l
names (reg_f c d o ∷ l) = names l
names (gate_f d sp x f ps qs ∷ l) = names l
names (end_f ∷ l) = names l
names (stmt_f s ∷ l) = names l
names (if_f sp o vs v ∷ l) = names l

unfoldable pub group : List Field → Program
group l = record { names = names l; decls = decls false false l }

-- ---- what an image means: a program, or the refusal's number and offset

pub data Reading : Type 0 where
  refuses : (fault : Fault) (offset : ℕ) → Reading
  program : Program → Reading

unfoldable pub grouped : Fields → Reading
grouped (refused k o) = refuses k o
grouped (fields l) = program (group l)

unfoldable pub read : List ℕ → Reading
read img = grouped (scan img)
