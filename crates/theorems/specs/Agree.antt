-- Check and run agree: a statement's errors are none just where it passes the tests that its run makes before it calls a gate.
use Rattle.rules.specs.declared.Reg.{Reg}
use Rattle.rules.specs.declared.Header.{Header}
use Rattle.std.specs.Prelude.{◌≡◌, refl, Bool, true, false, not, ◌&&◌, ◌||◌, List, [], ◌∷◌, ◌++◌, map, ℕ, ◌^◌, T, ltb, leb, eqb, length, Option, Some, None}
use Rattle.std.proofs.Common.{sym, ap, ap₂, ◌∙◌, subst, arith, eqb→eq, leb→le, le→leb, ltb→lt, lt→ltb, T_not}
use Rattle.std.specs.Bool.{beq}
use Rattle.std.proofs.Math.Bool.{and_comm}
use Rattle.std.proofs.Math.Decide.{dec_le}
use Rattle.std.proofs.Math.Dec.{leb-suc-suc, eqb_refl, not_T}
use Rattle.rules.specs.declared.Operand.{Operand}
use Rattle.rules.specs.declared.Match.{Match}
use Rattle.rules.specs.Basics.{pick}
use Rattle.rules.specs.Syntax.{Expr, pi, real, int, var, two, one, Stmt, u, cx, measure, reset, barrier, call, if, missing}
use Rattle.rules.specs.Errors.{Error}
use Rattle.rules.specs.Checking.{Scope, Asked, quantum, classic, Sized, size, bad, found_size, assert_reg, sized_errors, operand_errors, unfixed, fixed, differs, match_errors, expr_errors, exprs_errors, compare_errors, arity_errors, matched, stmt_errors, stmts_errors}
use Rattle.rules.specs.Run.{size_only, and_sizes, sizes, common, paired, known, all_known}
use Rattle.theorems.specs.Search.{or_left, or_right, T_and}

-- ---- tests and lists

-- no error is listed
abbrev pub clear : List Error → Bool
clear [] = true
clear (e ∷ es) = false

pub clear_nil : (es : List Error) → T (clear es) → es ≡ []
clear_nil [] t = refl
clear_nil (e ∷ es) t = absurd t

pub nil_clear : (es : List Error) → es ≡ [] → T (clear es)
nil_clear es e = subst (λ (x : List Error). T (clear x)) (sym e) tt

clear_append : (es fs : List Error) → clear (es ++ fs) ≡ (clear es && clear fs)
clear_append [] fs = refl
clear_append (e ∷ es) fs = refl

-- an error that is listed unless a test passes
clear_unless : (b : Bool) (e : Error) → clear (pick b [] (e ∷ [])) ≡ b
clear_unless true e = refl
clear_unless false e = refl

clear_where : (b : Bool) (e : Error) → clear (pick b (e ∷ []) []) ≡ not b
clear_where true e = refl
clear_where false e = refl

pub bool_same : (a b : Bool) → (T a → T b) → (T b → T a) → a ≡ b
bool_same true true f g = refl
bool_same true false f g = absurd (f tt)
bool_same false true f g = absurd (g tt)
bool_same false false f g = refl

not_reached : (a b : ℕ) → not (leb a b) ≡ ltb b a
not_reached a b = bool_same (not (leb a b)) (ltb b a)
    (λ t. lt→ltb b a (elim (dec_le a b) [ yes h ↦ absurd (T_not (leb a b) t (le→leb a b h)) | no h ↦ omega arith ]))
    (λ t. not_T (leb a b) (λ k. let x = leb→le a b k in let y = ltb→lt b a t in omega arith))

-- ---- operands

abbrev pub is : {A : Type 0} → Option A → Bool
is None = false
is (Some x) = true

-- the size of an operand is not a matter of the statement: its span goes into the errors alone
row_same : (kind indexed inside : Bool) (n : ℕ) (d e f g : Error)
    → size_only (pick kind (pick indexed (pick inside (size 1) (bad d)) (size n)) (bad e))
    ≡ size_only (pick kind (pick indexed (pick inside (size 1) (bad f)) (size n)) (bad g))
row_same true true true n d e f g = refl
row_same true true false n d e f g = refl
row_same true false c n d e f g = refl
row_same false b c n d e f g = refl

size_same : (find : ℕ → Option Reg) (stmt : ℕ) (q : Asked) → size_only (assert_reg find stmt q) ≡ size_only (assert_reg find 0 q)
unfolding assert_reg
size_same find stmt q = found (find q.operand.name)
  where
    found : (f : Option Reg) → size_only (found_size f stmt q) ≡ size_only (found_size f 0 q)
    found None = refl
    found (Some r) = row_same (beq r.classical q.classical) q.operand.indexed (ltb q.operand.index r.size) r.size _ _ _ _

size_only_lem : (z : Sized) (n : ℕ) → size_only z ≡ Some n → z ≡ size n
size_only_lem (size m) n e = cc
size_only_lem (bad x) n e = let k : ◌≡◌ {A = ℕ} 0 1 = cc in absurd (omega arith)

-- sizes of operands, one by one
pub record Sizes (C : Scope) (q : Asked) (qs : List Asked) (ns : List ℕ) : Type 0 where
  pub head : ℕ
  pub tail : List ℕ
  pub one : (stmt : ℕ) → assert_reg C.regs stmt q ≡ size head
  pub rest : sizes C qs ≡ Some tail
  pub all : ns ≡ head ∷ tail

pub sizes_cons : (C : Scope) (q : Asked) (qs : List Asked) (ns : List ℕ) → sizes C (q ∷ qs) ≡ Some ns → Sizes C q qs ns
unfolding sizes
sizes_cons C q qs ns e = go (size_only (assert_reg C.regs 0 q)) refl (sizes C qs) refl e
  where
    go : (x : Option ℕ) → size_only (assert_reg C.regs 0 q) ≡ x → (l : Option (List ℕ)) → sizes C qs ≡ l → and_sizes x l ≡ Some ns → Sizes C q qs ns
    go None p l r e = let k : ◌≡◌ {A = ℕ} 0 1 = cc in absurd (omega arith)
    go (Some n) p None r e = let k : ◌≡◌ {A = ℕ} 0 1 = cc in absurd (omega arith)
    go (Some n) p (Some l) r e =
        record { head = n; tail = l; one = λ stmt. size_only_lem (assert_reg C.regs stmt q) n (size_same C.regs stmt q ∙ p); rest = r; all = cc }

pub sizes_nil : (C : Scope) (ns : List ℕ) → sizes C [] ≡ Some ns → ns ≡ []
unfolding sizes
sizes_nil C ns e = cc

sized_clear : (find : ℕ → Option Reg) (stmt : ℕ) (q : Asked) → clear (sized_errors (assert_reg find stmt q)) ≡ is (size_only (assert_reg find 0 q))
sized_clear find stmt q = go (assert_reg find stmt q) ∙ ap is (size_same find stmt q)
  where
    go : (z : Sized) → clear (sized_errors z) ≡ is (size_only z)
    go (size n) = refl
    go (bad e) = refl

is_and : (x : Option ℕ) (l : Option (List ℕ)) → is (and_sizes x l) ≡ (is x && is l)
is_and None l = refl
is_and (Some n) None = refl
is_and (Some n) (Some l) = refl

operands_clear : (C : Scope) (stmt : ℕ) (qs : List Asked) → clear (operand_errors C.regs stmt qs) ≡ is (sizes C qs)
unfolding operand_errors sizes
operands_clear C stmt [] = refl
operands_clear C stmt (q ∷ qs) =
    clear_append (sized_errors (assert_reg C.regs stmt q)) (operand_errors C.regs stmt qs)
    ∙ ap₂ (λ (a b : Bool). a && b) (sized_clear C.regs stmt q) (operands_clear C stmt qs)
    ∙ sym (is_and (size_only (assert_reg C.regs 0 q)) (sizes C qs))

-- ---- matching

-- the operands have sizes, and these pair
abbrev pub pairing : Option (List ℕ) → Bool
pairing None = false
pairing (Some ns) = paired (common ns) ns

not_both : (a b : Bool) → not (a && not b) ≡ (not a || b)
not_both true true = refl
not_both true false = refl
not_both false b = refl

-- the size fixed so far, and what it comes to at the end: the first that isn't 1
abbrev settled : ℕ → List ℕ → ℕ
settled k ns = pick (eqb k 1) (common ns) k

differs_clear : (m : Match) (stmt n span : ℕ) → clear (differs m stmt (size n) span) ≡ (leb n 1 || eqb n m.size)
differs_clear m stmt n span =
    clear_where (ltb 1 n && not (eqb n m.size)) _ ∙ not_both (ltb 1 n) (eqb n m.size)
    ∙ ap (λ (b : Bool). b || eqb n m.size) (not_reached 2 n ∙ leb-suc-suc n 1)

-- at the operand that fixes the size there is nothing to differ from
fixes_clear : (n k : ℕ) → (leb n 1 || eqb n n) ≡ (leb n 1 || eqb n (pick (eqb n 1) k n))
fixes_clear n k = go (eqb n 1) refl
  where
    go : (b : Bool) → eqb n 1 ≡ b → (leb n 1 || eqb n n) ≡ (leb n 1 || eqb n (pick b k n))
    go true e =
        let q = eqb→eq n 1 (subst T (sym e) tt) in
        let t : T (leb n 1) = le→leb n 1 (omega arith) in
        bool_same (leb n 1 || eqb n n) (leb n 1 || eqb n k) (λ _. or_left (leb n 1) (eqb n k) t) (λ _. or_left (leb n 1) (eqb n n) t)
    go false e = refl

match_clear : (C : Scope) (stmt : ℕ) (m : Match) (qs : List Asked) (ns : List ℕ) → sizes C qs ≡ Some ns
    → clear (match_errors C.regs stmt m qs) ≡ paired (settled m.size ns) ns
unfolding match_errors paired common
match_clear C stmt m [] ns e = rw (sizes_nil C ns e)
match_clear C stmt m (q ∷ qs) ns e =
    let s = sizes_cons C q qs ns e in
    step (assert_reg C.regs stmt q) s.head s.tail ns (s.one stmt) s.all (λ k. match_clear C stmt k qs s.tail s.rest)
  where
    sp : ℕ
    sp = q.operand.span

    now : Bool → ℕ → Match
    now b n = pick b (record { size = n; span = sp }) m

    after : (n : ℕ) (l : List ℕ) (b : Bool) → eqb m.size 1 ≡ b
        → ((leb n 1 || eqb n (now b n).size) && paired (settled (now b n).size l) l) ≡ paired (pick b (common (n ∷ l)) m.size) (n ∷ l)
    after n l true e = ap (λ (b : Bool). b && paired (settled n l) l) (fixes_clear n (common l))
    after n l false e = ap (λ (b : Bool). (leb n 1 || eqb n m.size) && paired (pick b (common l) m.size) l) e

    step : (z : Sized) (n : ℕ) (l ns : List ℕ) → z ≡ size n → ns ≡ n ∷ l
        → ((k : Match) → clear (match_errors C.regs stmt k qs) ≡ paired (settled k.size l) l)
        → clear (differs (fixed m z sp) stmt z sp ++ match_errors C.regs stmt (fixed m z sp) qs) ≡ paired (settled m.size ns) ns
    step z n l ns e f ih =
        rw (e, f)
        (clear_append (differs (fixed m (size n) sp) stmt (size n) sp) (match_errors C.regs stmt (fixed m (size n) sp) qs)
        ∙ ap₂ (λ (a b : Bool). a && b) (differs_clear (fixed m (size n) sp) stmt n sp) (ih (fixed m (size n) sp))
        ∙ after n l (eqb m.size 1) refl)

matched_clear : (C : Scope) (stmt : ℕ) (qs : List Asked) → clear (matched C.regs stmt qs) ≡ pairing (sizes C qs)
matched_clear C stmt qs =
    clear_append (operand_errors C.regs stmt qs) (match_errors C.regs stmt unfixed qs)
    ∙ ap (λ (b : Bool). b && clear (match_errors C.regs stmt unfixed qs)) (operands_clear C stmt qs) ∙ go (sizes C qs) refl
  where
    go : (l : Option (List ℕ)) → sizes C qs ≡ l → (is l && clear (match_errors C.regs stmt unfixed qs)) ≡ pairing l
    go None e = refl
    go (Some ns) e = match_clear C stmt unfixed qs ns e

-- one operand always pairs with itself
one_pairs : (C : Scope) (q : Asked) → is (sizes C (q ∷ [])) ≡ pairing (sizes C (q ∷ []))
unfolding sizes paired common
one_pairs C q = go (size_only (assert_reg C.regs 0 q))
  where
    go : (x : Option ℕ) → is (and_sizes x (Some [])) ≡ pairing (and_sizes x (Some []))
    go None = refl
    go (Some n) =
        let t : T (leb n 1 || eqb n (common (n ∷ []))) = subst T (fixes_clear n 1) (or_right (leb n 1) (eqb n n) (eqb_refl n)) in
        bool_same true (paired (common (n ∷ [])) (n ∷ [])) (λ _. T_and (leb n 1 || eqb n (common (n ∷ []))) true t tt) (λ _. tt)

-- ---- expressions, comparisons, counts

expr_clear : (param : ℕ → Bool) (stmt : ℕ) (e : Expr) → clear (expr_errors param stmt e) ≡ known param e
unfolding expr_errors known
expr_clear param stmt (pi sp) = refl
expr_clear param stmt (real sp v) = refl
expr_clear param stmt (int sp v) = refl
expr_clear param stmt (var sp x) = clear_unless (param x) _
expr_clear param stmt (two o sp x y) =
    clear_append (expr_errors param stmt x) (expr_errors param stmt y) ∙ ap₂ (λ (a b : Bool). a && b) (expr_clear param stmt x) (expr_clear param stmt y)
expr_clear param stmt (one o sp x) = expr_clear param stmt x

exprs_clear : (param : ℕ → Bool) (stmt : ℕ) (es : List Expr) → clear (exprs_errors param stmt es) ≡ all_known param es
unfolding exprs_errors all_known
exprs_clear param stmt [] = refl
exprs_clear param stmt (e ∷ es) =
    clear_append (expr_errors param stmt e) (exprs_errors param stmt es) ∙ ap₂ (λ (a b : Bool). a && b) (expr_clear param stmt e) (exprs_clear param stmt es)

-- the operand has a size, and the value fits it
abbrev pub fits : ℕ → Option ℕ → Bool
fits v None = false
fits v (Some w) = ltb v (2 ^ w)

-- a gate with these counts is known
abbrev pub callable : Option Header → (params args : ℕ) → Bool
callable None params args = false
callable (Some h) params args = eqb h.params params && eqb h.args args

arity_clear : (found : Option Header) (stmt sp x params args : ℕ) → clear (arity_errors found stmt sp x params args) ≡ callable found params args
arity_clear None stmt sp x params args = refl
arity_clear (Some h) stmt sp x params args =
    clear_append (pick (eqb h.params params) [] (_ ∷ [])) (pick (eqb h.args args) [] (_ ∷ []))
    ∙ ap₂ (λ (a b : Bool). a && b) (clear_unless (eqb h.params params) _) (clear_unless (eqb h.args args) _)

-- ---- statements

-- the tests that the run of a statement makes, its calls aside
unfoldable pub passes : Scope → Stmt → Bool
passes C (u sp o x y z) = pairing (sizes C (quantum o ∷ [])) && all_known C.params (x ∷ y ∷ z ∷ [])
passes C (cx sp x y) = pairing (sizes C (quantum x ∷ quantum y ∷ []))
passes C (measure sp x y) = pairing (sizes C (quantum x ∷ classic y ∷ []))
passes C (reset sp o) = pairing (sizes C (quantum o ∷ []))
passes C (barrier sp os) = is (sizes C (map quantum os))
passes C (call sp ns x es os) = callable (C.gates x) (length es) (length os) && (pairing (sizes C (map quantum os)) && all_known C.params es)
passes C (if sp o vs v s) = fits v (size_only (assert_reg C.regs 0 (classic o))) && passes C s
passes C missing = true

unfoldable pub pass_all : Scope → List Stmt → Bool
pass_all C [] = true
pass_all C (s ∷ ss) = passes C s && pass_all C ss

if_clear : (find : ℕ → Option Reg) (sp vs v : ℕ) (o : Operand) (es : List Error)
    → clear (operand_errors find sp (classic o ∷ []) ++ (es ++ compare_errors (assert_reg find sp (classic o)) sp o vs v))
    ≡ (fits v (size_only (assert_reg find 0 (classic o))) && clear es)
unfolding operand_errors compare_errors
if_clear find sp vs v o es = go (assert_reg find sp (classic o)) ∙ ap (λ (z : Option ℕ). fits v z && clear es) (size_same find sp (classic o))
  where
    go : (z : Sized) → clear ((sized_errors z ++ []) ++ (es ++ compare_errors z sp o vs v)) ≡ (fits v (size_only z) && clear es)
    go (bad e) = refl
    go (size n) =
        clear_append es (compare_errors (size n) sp o vs v) ∙ and_comm (clear es) (clear (compare_errors (size n) sp o vs v))
        ∙ ap (λ (b : Bool). b && clear es) (clear_where (leb (2 ^ n) v) _ ∙ not_reached (2 ^ n) v)

pub stmt_clear : (C : Scope) (s : Stmt) → clear (stmt_errors C s) ≡ passes C s
unfolding stmt_errors passes
stmt_clear C (u sp o x y z) =
    clear_append (operand_errors C.regs sp (quantum o ∷ [])) (exprs_errors C.params sp (x ∷ y ∷ z ∷ []))
    ∙ ap₂ (λ (a b : Bool). a && b) (operands_clear C sp (quantum o ∷ []) ∙ one_pairs C (quantum o)) (exprs_clear C.params sp (x ∷ y ∷ z ∷ []))
stmt_clear C (cx sp x y) = matched_clear C sp (quantum x ∷ quantum y ∷ [])
stmt_clear C (measure sp x y) = matched_clear C sp (quantum x ∷ classic y ∷ [])
stmt_clear C (reset sp o) = operands_clear C sp (quantum o ∷ []) ∙ one_pairs C (quantum o)
stmt_clear C (barrier sp os) = operands_clear C sp (map quantum os)
stmt_clear C (call sp ns x es os) =
    clear_append (arity_errors (C.gates x) sp ns x (length es) (length os)) (matched C.regs sp (map quantum os) ++ exprs_errors C.params sp es)
    ∙ ap₂ (λ (a b : Bool). a && b) (arity_clear (C.gates x) sp ns x (length es) (length os))
    (clear_append (matched C.regs sp (map quantum os)) (exprs_errors C.params sp es)
    ∙ ap₂ (λ (a b : Bool). a && b) (matched_clear C sp (map quantum os)) (exprs_clear C.params sp es))
stmt_clear C (if sp o vs v s) =
    if_clear C.regs sp vs v o (stmt_errors C s) ∙ ap (λ (b : Bool). fits v (size_only (assert_reg C.regs 0 (classic o))) && b) (stmt_clear C s)
stmt_clear C missing = refl

pub stmts_clear : (C : Scope) (ss : List Stmt) → clear (stmts_errors C ss) ≡ pass_all C ss
unfolding stmts_errors pass_all
stmts_clear C [] = refl
stmts_clear C (s ∷ ss) =
    clear_append (stmt_errors C s) (stmts_errors C ss) ∙ ap₂ (λ (a b : Bool). a && b) (stmt_clear C s) (stmts_clear C ss)
