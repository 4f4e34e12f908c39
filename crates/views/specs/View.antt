-- What stands in a list of bytes, taken as it is: nothing is tested, and a byte past the end counts as 0. A pass over an image that was read is
-- proved against these, so that none of its functions asks for a good image; page Bridge says that of an image that is read they give the program.
use Rattle.std.specs.Prelude.{ℕ, zero, suc, ◌+◌, ◌-◌, ◌%◌, ◌<◌, ◌≤◌, min, ◌≡◌, refl, List, [], ◌∷◌, Bool, true, false, length, get_or, ltb, leb, eqb}
use Rattle.std.proofs.Common.{arith, sym, ap, ◌∙◌, lt-ltb, le-ltb}
use Rattle.std.proofs.Math.Decide.{dec_le}
use Rattle.rules.specs.declared.Operand.{Operand}
use Rattle.rules.specs.Basics.{pick}
use Rattle.rules.specs.declared.Named.{Named}
use Rattle.rules.specs.Syntax.{Expr, pi, real, int, var, two, one, Stmt, u, cx, measure, reset, barrier, call, Field, name_f, include_f, reg_f, gate_f, end_f, stmt_f, if_f, Program}
use Rattle.rules.specs.Items.{le2, le4, le8}
use Rattle.rules.specs.Reading.{len_at, load_at}
use Rattle.rules.specs.Grouping.{group}

-- ---- items

-- Every name of an image that is read is below 512; others are taken modulo 512, so that a table by name holds them all.
abbrev pub name_in : List ℕ → ℕ → ℕ
name_in s at = le2 s at % 512

unfoldable pub operand_in : List ℕ → ℕ → Operand
operand_in s at = record { span = le4 s at; name = name_in s (at + 4); indexed = eqb (get_or s (at + 6) 0) 1; index = le8 s (at + 7) }

unfoldable pub named_in : List ℕ → ℕ → Named
named_in s at = record { span = le4 s at; name = name_in s (at + 4) }

-- k items in a row, each by v, with w bytes
unfoldable pub row_in : {A : Type 0} → (List ℕ → ℕ → A) → (w : ℕ) → ℕ → List ℕ → ℕ → List A
row_in v w zero s at = []
row_in v w (suc k) s at = v s at ∷ row_in v w k s (at + w)

unfoldable pub row_past : (w : ℕ) → ℕ → ℕ → ℕ
row_past w zero at = at
row_past w (suc k) at = row_past w k (at + w)

-- ---- expressions, at most d deep; past the end there are none, and no place runs beyond it

-- k places on, or the end
abbrev pub on : List ℕ → ℕ → ℕ → ℕ
on s at k = min (at + k) (length s)

unfoldable pub leaf_in : (o : ℕ) → List ℕ → ℕ → ℕ → Expr
leaf_in o s at = pick (eqb o 0) pi (pick (eqb o 1) (λ sp. real sp (le4 s at)) (pick (eqb o 2) (λ sp. int sp (le8 s at)) (λ sp. var sp (name_in s at))))

unfoldable pub leaf_past : (o : ℕ) → List ℕ → ℕ → ℕ
leaf_past o s at = pick (eqb o 0) at (pick (eqb o 1) (on s at 4) (pick (eqb o 2) (on s at 8) (on s at 2)))

unfoldable pub expr_past : (d : ℕ) → List ℕ → ℕ → ℕ
expr_past zero s at = at
expr_past (suc d) s at =
    pick (ltb at (length s))
    (pick (ltb (get_or s at 0) 4) (leaf_past (get_or s at 0) s (on s at 5))
    (pick (ltb (get_or s at 0) 9) (expr_past d s (expr_past d s (on s at 5))) (expr_past d s (on s at 5))))
    at

unfoldable pub expr_in : (d : ℕ) → List ℕ → ℕ → Expr
expr_in zero s at = pi 0
expr_in (suc d) s at =
    pick (ltb at (length s))
    (pick (ltb (get_or s at 0) 4) (leaf_in (get_or s at 0) s (on s at 5) (le4 s (at + 1)))
    (pick (ltb (get_or s at 0) 9)
    (two (get_or s at 0) (le4 s (at + 1)) (expr_in d s (on s at 5)) (expr_in d s (expr_past d s (on s at 5))))
    (one (get_or s at 0) (le4 s (at + 1)) (expr_in d s (on s at 5)))))
    (pi 0)

-- k expressions in a row
unfoldable pub exprs_in : ℕ → List ℕ → ℕ → List Expr
exprs_in zero s at = []
exprs_in (suc k) s at = expr_in 64 s at ∷ exprs_in k s (expr_past 64 s at)

unfoldable pub exprs_past : ℕ → List ℕ → ℕ → ℕ
exprs_past zero s at = at
exprs_past (suc k) s at = exprs_past k s (expr_past 64 s at)

-- ---- payloads

unfoldable pub u_in : List ℕ → Stmt
u_in s = u (le4 s 0) (operand_in s 4) (expr_in 64 s 19) (expr_in 64 s (expr_past 64 s 19)) (expr_in 64 s (expr_past 64 s (expr_past 64 s 19)))

unfoldable pub barrier_in : List ℕ → Stmt
barrier_in s = barrier (le4 s 0) (row_in operand_in 15 (get_or s 4 0) s 5)

unfoldable pub call_in : List ℕ → Stmt
call_in s = call (le4 s 0) (le4 s 4) (name_in s 8) (exprs_in (get_or s 10 0) s (row_past 15 (get_or s 11 0) 12)) (row_in operand_in 15 (get_or s 11 0) s 12)

unfoldable pub params_in : List ℕ → List Named
params_in s = row_in named_in 6 (get_or s 11 0) s 13

unfoldable pub args_in : List ℕ → List Named
args_in s = row_in named_in 6 (get_or s 12 0) s (row_past 6 (get_or s 11 0) 13)

unfoldable pub gate_in : List ℕ → Field
gate_in s = gate_f (le4 s 0) (le4 s 4) (name_in s 8) (eqb (get_or s 10 0) 1) (params_in s) (args_in s)

unfoldable pub if_in : List ℕ → Field
if_in s = if_f (le4 s 0) (operand_in s 4) (le4 s 19) (le8 s 23)

-- the statements but IF
unfoldable pub stmt_in : ℕ → List ℕ → Stmt
stmt_in t s =
    pick (eqb t 16) (u_in s)
    (pick (eqb t 17) (cx (le4 s 0) (operand_in s 4) (operand_in s 19))
    (pick (eqb t 18) (measure (le4 s 0) (operand_in s 4) (operand_in s 19))
    (pick (eqb t 19) (reset (le4 s 0) (operand_in s 4))
    (pick (eqb t 20) (barrier_in s) (call_in s)))))

abbrev pub is_plain : ℕ → Bool
is_plain t = pick (leb 16 t) (leb t 21) false

-- a tag that is none is taken as a NAME, which no pass looks at
unfoldable pub field_in : ℕ → List ℕ → Field
field_in t s =
    pick (is_plain t) (stmt_f (stmt_in t s))
    (pick (eqb t 22) (if_in s)
    (pick (eqb t 2) (include_f (le4 s 0) (name_in s 4))
    (pick (eqb t 3) (reg_f false (le4 s 0) (operand_in s 4))
    (pick (eqb t 4) (reg_f true (le4 s 0) (operand_in s 4))
    (pick (eqb t 5) (gate_in s)
    (pick (eqb t 6) end_f (name_f s)))))))

-- ---- fields

abbrev pub past : List ℕ → ℕ → ℕ
past img at = at + 3 + len_at img at

unfoldable pub field_at : List ℕ → ℕ → Field
field_at img at = field_in (get_or img at 0) (load_at img at)

fields_in : ℕ → List ℕ → ℕ → List Field
fields_in zero img at = []
fields_in (suc k) img at = pick (ltb at (length img)) (field_at img at ∷ fields_in k img (past img at)) []

-- the fields from a place on
pub rest : List ℕ → ℕ → List Field
rest img at = fields_in (length img - at) img at

unfoldable pub program_in : List ℕ → Program
program_in img = group (rest img 0)

-- steps enough are enough
enough : (k j : ℕ) (img : List ℕ) (at : ℕ) → length img - at ≤ k → length img - at ≤ j → fields_in k img at ≡ fields_in j img at
unfolding fields_in
enough zero zero img at h g = refl
enough zero (suc j) img at h g = let e : length img ≤ at = omega arith in rw (le-ltb at (length img) e)
enough (suc k) zero img at h g = let e : length img ≤ at = omega arith in rw (le-ltb at (length img) e)
enough (suc k) (suc j) img at h g =
    ap (λ l. pick (ltb at (length img)) (field_at img at ∷ l) []) (enough k j img (past img at) (omega arith) (omega arith))

-- the place after a field, or the end of the image where that is nearer
abbrev pub next_in : List ℕ → ℕ → ℕ
next_in img at = min (length img) (past img at)

-- the laws that a pass needs
pub rest_end : (img : List ℕ) (at : ℕ) → length img ≤ at → rest img at ≡ []
unfolding rest fields_in
rest_end img at h = enough (length img - at) zero img at (omega arith) (omega arith)

pub rest_more : (img : List ℕ) (at : ℕ) → at < length img → rest img at ≡ field_at img at ∷ rest img (past img at)
unfolding rest fields_in
rest_more img at h =
    enough (length img - at) (suc (length img - (at + 1))) img at (omega arith) (omega arith)
    ∙ (rw (lt-ltb at (length img) h) (ap (λ l. field_at img at ∷ l) (enough (length img - (at + 1)) (length img - past img at) img (past img at) (omega arith) (omega arith))))

pub rest_clip : (img : List ℕ) (at : ℕ) → rest img (next_in img at) ≡ rest img (past img at)
rest_clip img at = elim (dec_le (past img at) (length img)) [
  | yes h ↦ let e : next_in img at ≡ past img at = omega arith in ap (rest img) e
  | no h ↦ rest_end img (next_in img at) (omega arith) ∙ sym (rest_end img (past img at) (omega arith))
]

pub rest_next : (img : List ℕ) (at : ℕ) → at < length img → rest img at ≡ field_at img at ∷ rest img (next_in img at)
rest_next img at h = rest_more img at h ∙ ap (λ l. field_at img at ∷ l) (sym (rest_clip img at))
