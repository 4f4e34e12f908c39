-- The program that a list of fields begins with, one field or statement at a time. None of these laws asks for a good image.
use Rattle.std.specs.Prelude.{ℕ, ◌<◌, ◌≤◌, ◌≡◌, List, [], ◌∷◌, Bool, not, length, get_or, eqb, leb}
use Rattle.std.proofs.Common.{arith, sym, ◌∙◌, subst, leb-true, le-leb, ne_eqb}
use Rattle.std.proofs.Math.Path.{refl, ap}
use Rattle.std.proofs.Math.Bool.{true, false}
use Rattle.std.proofs.Math.Dec.{T}
use Rattle.rules.specs.declared.Operand.{Operand}
use Rattle.rules.specs.Basics.{pick}
use Rattle.rules.specs.Items.{le4, le8}
use Rattle.rules.specs.Reading.{load_at, is_stmt}
use Rattle.rules.specs.Syntax.{Stmt, if, missing, Gate, Decl, include, reg, gate, top, Field, name_f, include_f, reg_f, gate_f, end_f, stmt_f, if_f}
use Rattle.rules.specs.Grouping.{stmt, stmts, body_of, decls, open_after}
use Rattle.views.specs.View.{name_in, operand_in, params_in, args_in, gate_in, if_in, stmt_in, is_plain, field_in, field_at, next_in, rest, rest_next}
use Rattle.views.specs.Tags.{by_kind}

-- the fields after the statement that a list begins with; all of them where it begins with none
unfoldable pub after : List Field → List Field
after [] = []
after (name_f b ∷ l) = name_f b ∷ l
after (include_f sp x ∷ l) = include_f sp x ∷ l
after (reg_f c d o ∷ l) = reg_f c d o ∷ l
after (gate_f d sp x b ps qs ∷ l) = gate_f d sp x b ps qs ∷ l
after (end_f ∷ l) = end_f ∷ l
after (stmt_f s ∷ l) = l
after (if_f sp o vs v ∷ l) = after l

-- is a body open after a field with the tag t and the payload p?
unfoldable pub then : Bool → ℕ → List ℕ → Bool
then i t p = pick i (not (eqb t 6)) (pick (eqb t 5) (eqb (get_or p 10 0) 1) false)

-- a statement right after an IF is that IF's
pub decls_after : (l : List Field) → decls false true l ≡ decls false false (after l)
unfolding decls after
decls_after [] = refl
decls_after (name_f x ∷ l) = refl
decls_after (include_f sp x ∷ l) = refl
decls_after (reg_f c d o ∷ l) = refl
decls_after (gate_f d sp x b ps qs ∷ l) = refl
decls_after (end_f ∷ l) = refl
decls_after (stmt_f s ∷ l) = refl
decls_after (if_f sp o vs v ∷ l) = decls_after l

pub stmts_after : (l : List Field) → stmts true l ≡ stmts false (after l)
unfolding stmts after
stmts_after [] = refl
stmts_after (name_f x ∷ l) = refl
stmts_after (include_f sp x ∷ l) = refl
stmts_after (reg_f c d o ∷ l) = refl
stmts_after (gate_f d sp x b ps qs ∷ l) = refl
stmts_after (end_f ∷ l) = refl
stmts_after (stmt_f s ∷ l) = refl
stmts_after (if_f sp o vs v ∷ l) = stmts_after l

-- ---- statements

plain_is : (t : ℕ) → is_plain t ≡ true → is_stmt t ≡ false → ⊥
plain_is t a b = go (leb 16 t) refl (leb t 21) refl
  where
    go : (c : Bool) → leb 16 t ≡ c → (d : Bool) → leb t 21 ≡ d → ⊥
    go false e d f = let z : ◌≡◌ {A = Bool} false true = rw e at a in subst T (sym z) tt
    go true e false f = let z : ◌≡◌ {A = Bool} false true = rw (e, f) at a in subst T (sym z) tt
    go true e true f =
        let g : t ≤ 21 = leb-true t 21 f in
        let k : t ≤ 22 = omega arith in
        let z : ◌≡◌ {A = Bool} true false = rw (e, le-leb t 22 k) at b in
        subst T z tt

plain_high : (t : ℕ) → is_plain t ≡ true → 16 ≤ t
plain_high t a = go (leb 16 t) refl
  where
    go : (c : Bool) → leb 16 t ≡ c → 16 ≤ t
    go true e = leb-true 16 t e
    go false e = let z : ◌≡◌ {A = Bool} false true = rw e at a in absurd (subst T (sym z) tt)

pub plain_not5 : (t : ℕ) → is_plain t ≡ true → eqb t 5 ≡ false
plain_not5 t a = let h = plain_high t a in ne_eqb t 5 (omega arith)

plain_not6 : (t : ℕ) → is_plain t ≡ true → eqb t 6 ≡ false
plain_not6 t a = let h = plain_high t a in ne_eqb t 6 (omega arith)

-- the gate whose header is the payload p, with the fields after it
unfoldable pub gate_at_place : List ℕ → List Field → Gate
gate_at_place p l = record { decl = le4 p 0; span = le4 p 4; name = name_in p 8; params = params_in p; args = args_in p; body = body_of (eqb (get_or p 10 0) 1) l }

-- ---- a field and the fields after it

module _ (t : ℕ) (p : List ℕ) (l : List Field) where
  pub first_plain : is_plain t ≡ true → (stmt (field_in t p ∷ l) ≡ stmt_in t p) × (after (field_in t p ∷ l) ≡ l)
  unfolding stmt after field_in
  first_plain e = rw e (refl, refl)

  pub first_if : t ≡ 22 → (stmt (field_in t p ∷ l) ≡ if (le4 p 0) (operand_in p 4) (le4 p 19) (le8 p 23) (stmt l)) × (after (field_in t p ∷ l) ≡ after l)
  unfolding stmt after field_in if_in
  first_if e = rw e (refl, refl)

  -- a field that is no statement
  pub first_none : is_stmt t ≡ false → (stmt (field_in t p ∷ l) ≡ missing) × (after (field_in t p ∷ l) ≡ field_in t p ∷ l)
  unfolding stmt after gate_in
  first_none =
      by_kind (λ t f. is_stmt t ≡ false → (stmt (f ∷ l) ≡ missing) × (after (f ∷ l) ≡ f ∷ l)) p
      (λ t a b. absurd (plain_is t a b)) (λ b. absurd (subst T b tt)) (λ b. (refl, refl)) (λ b. (refl, refl)) (λ b. (refl, refl)) (λ b. (refl, refl)) (λ b. (refl, refl))
      (λ b. (refl, refl)) (λ t k b. (refl, refl)) t

  -- a statement, at the top level or in a body
  pub first_top : is_stmt t ≡ true → decls false false (field_in t p ∷ l) ≡ top (stmt (field_in t p ∷ l)) ∷ decls false false (after (field_in t p ∷ l))
  unfolding decls stmt after if_in
  first_top =
      by_kind (λ t f. is_stmt t ≡ true → decls false false (f ∷ l) ≡ top (stmt (f ∷ l)) ∷ decls false false (after (f ∷ l))) p
      (λ t a b. refl) (λ b. ap (λ ds. top (if (le4 p 0) (operand_in p 4) (le4 p 19) (le8 p 23) (stmt l)) ∷ ds) (decls_after l))
      (λ b. absurd (subst T (sym b) tt)) (λ b. absurd (subst T (sym b) tt)) (λ b. absurd (subst T (sym b) tt)) (λ b. absurd (subst T (sym b) tt)) (λ b. absurd (subst T (sym b) tt)) (λ b. absurd (subst T (sym b) tt))
      (λ t k b. absurd (subst T (sym b ∙ k.stmt) tt)) t

  pub first_stmt : is_stmt t ≡ true → stmts false (field_in t p ∷ l) ≡ stmt (field_in t p ∷ l) ∷ stmts false (after (field_in t p ∷ l))
  unfolding stmts stmt after if_in
  first_stmt =
      by_kind (λ t f. is_stmt t ≡ true → stmts false (f ∷ l) ≡ stmt (f ∷ l) ∷ stmts false (after (f ∷ l))) p
      (λ t a b. refl) (λ b. ap (λ ss. if (le4 p 0) (operand_in p 4) (le4 p 19) (le8 p 23) (stmt l) ∷ ss) (stmts_after l))
      (λ b. absurd (subst T (sym b) tt)) (λ b. absurd (subst T (sym b) tt)) (λ b. absurd (subst T (sym b) tt)) (λ b. absurd (subst T (sym b) tt)) (λ b. absurd (subst T (sym b) tt)) (λ b. absurd (subst T (sym b) tt))
      (λ t k b. absurd (subst T (sym b ∙ k.stmt) tt)) t

  -- the end of a body, and a field in it that is no statement
  pub first_end : t ≡ 6 → stmts false (field_in t p ∷ l) ≡ []
  unfolding stmts field_in
  first_end e = rw e refl

  pub first_skip : is_stmt t ≡ false → (t ≡ 6 → ⊥) → stmts false (field_in t p ∷ l) ≡ stmts false l
  unfolding stmts gate_in
  first_skip =
      by_kind (λ t f. is_stmt t ≡ false → (t ≡ 6 → ⊥) → stmts false (f ∷ l) ≡ stmts false l) p
      (λ t a b n. absurd (plain_is t a b)) (λ b n. absurd (subst T b tt)) (λ b n. refl) (λ b n. refl) (λ b n. refl) (λ b n. refl) (λ b n. absurd (n refl)) (λ b n. refl) (λ t k b n. refl) t

  -- declarations
  pub first_inside : decls true false (field_in t p ∷ l) ≡ decls (then true t p) false l
  unfolding decls open_after then gate_in if_in
  first_inside =
      by_kind (λ t f. decls true false (f ∷ l) ≡ decls (then true t p) false l) p
      (λ t a. rw (plain_not6 t a) refl) refl refl refl refl refl refl refl (λ t k. rw k.not6 refl) t

  pub first_gate : t ≡ 5 → decls false false (field_in t p ∷ l) ≡ gate (gate_at_place p l) ∷ decls (then false t p) false l
  unfolding decls field_in gate_in then gate_at_place
  first_gate e = rw e refl

  pub first_reg : (c : Bool) → t ≡ pick c 4 3 → decls false false (field_in t p ∷ l) ≡ reg c (le4 p 0) (operand_in p 4) ∷ decls (then false t p) false l
  unfolding decls field_in then
  first_reg true e = rw e refl
  first_reg false e = rw e refl

-- ---- passes that look at some declarations only

abbrev pub NoInclude : {A : Type 0} → (List Decl → A) → Type 0
NoInclude X = (sp x : ℕ) (ds : List Decl) → X (include sp x ∷ ds) ≡ X ds

abbrev pub NoTop : {A : Type 0} → (List Decl → A) → Type 0
NoTop X = (s : Stmt) (ds : List Decl) → X (top s ∷ ds) ≡ X ds

abbrev pub NoReg : {A : Type 0} → (List Decl → A) → Type 0
NoReg X = (c : Bool) (d : ℕ) (o : Operand) (ds : List Decl) → X (reg c d o ∷ ds) ≡ X ds

abbrev pub NoGate : {A : Type 0} → (List Decl → A) → Type 0
NoGate X = (g : Gate) (ds : List Decl) → X (gate g ∷ ds) ≡ X ds

-- governed or not makes no difference to a pass that looks at no statement
governed_same : {A : Type 0} (X : List Decl → A) → NoTop X → (l : List Field) → X (decls false true l) ≡ X (decls false false l)
unfolding decls
governed_same X h [] = refl
governed_same X h (name_f x ∷ l) = refl
governed_same X h (include_f sp x ∷ l) = refl
governed_same X h (reg_f c d o ∷ l) = refl
governed_same X h (gate_f d sp x b ps qs ∷ l) = refl
governed_same X h (end_f ∷ l) = refl
governed_same X h (stmt_f s ∷ l) = sym (h s (decls false false l))
governed_same X h (if_f sp o vs v ∷ l) = sym (h (if sp o vs v (stmt l)) (decls false true l))

module _ {A : Type 0} (X : List Decl → A) (no_include : NoInclude X) (t : ℕ) (p : List ℕ) (l : List Field) where
  -- a pass over statements
  pub first_other : NoReg X → NoGate X → is_stmt t ≡ false → X (decls false false (field_in t p ∷ l)) ≡ X (decls (then false t p) false l)
  unfolding decls then gate_in
  first_other no_reg no_gate =
      by_kind (λ t f. is_stmt t ≡ false → X (decls false false (f ∷ l)) ≡ X (decls (then false t p) false l)) p
      (λ t a b. absurd (plain_is t a b)) (λ b. absurd (subst T b tt)) (λ b. no_include _ _ _) (λ b. no_reg _ _ _ _) (λ b. no_reg _ _ _ _) (λ b. no_gate _ _) (λ b. refl) (λ b. refl)
      (λ t k b. rw k.not5 refl) t

  -- a pass over gates
  pub first_not_gate : NoTop X → NoReg X → (t ≡ 5 → ⊥) → X (decls false false (field_in t p ∷ l)) ≡ X (decls (then false t p) false l)
  unfolding decls then gate_in if_in
  first_not_gate no_top no_reg =
      by_kind (λ t f. (t ≡ 5 → ⊥) → X (decls false false (f ∷ l)) ≡ X (decls (then false t p) false l)) p
      (λ t a n. rw (ne_eqb t 5 n) (no_top _ _)) (λ n. no_top _ _ ∙ governed_same X no_top l) (λ n. no_include _ _ _) (λ n. no_reg _ _ _ _) (λ n. no_reg _ _ _ _) (λ n. absurd (n refl))
      (λ n. refl) (λ n. refl) (λ t k n. rw k.not5 refl) t

  -- a pass over registers
  pub first_not_reg : NoTop X → NoGate X → (t ≡ 3 → ⊥) → (t ≡ 4 → ⊥) → X (decls false false (field_in t p ∷ l)) ≡ X (decls (then false t p) false l)
  unfolding decls then gate_in if_in
  first_not_reg no_top no_gate =
      by_kind (λ t f. (t ≡ 3 → ⊥) → (t ≡ 4 → ⊥) → X (decls false false (f ∷ l)) ≡ X (decls (then false t p) false l)) p
      (λ t a m n. rw (plain_not5 t a) (no_top _ _)) (λ m n. no_top _ _ ∙ governed_same X no_top l) (λ m n. no_include _ _ _) (λ m n. absurd (m refl)) (λ m n. absurd (n refl)) (λ m n. no_gate _ _)
      (λ m n. refl) (λ m n. refl) (λ t k m n. rw k.not5 refl) t

-- ---- the same where a field stands in an image

module _ (img : List ℕ) (at t next : ℕ) (p : List ℕ) (h : at < length img) (et : t ≡ get_or img at 0) (ep : p ≡ load_at img at) (en : next ≡ next_in img at) where
  pub here : rest img at ≡ field_in t p ∷ rest img next
  unfolding field_at
  here = rest_next img at h ∙ (rw (en, ep, et) refl)

  pub plain_stmt : is_plain t ≡ true → (stmt (rest img at) ≡ stmt_in t p) × (after (rest img at) ≡ rest img next)
  plain_stmt e = rw here (first_plain t p (rest img next) e)

  pub if_stmt : t ≡ 22 → (stmt (rest img at) ≡ if (le4 p 0) (operand_in p 4) (le4 p 19) (le8 p 23) (stmt (rest img next))) × (after (rest img at) ≡ after (rest img next))
  if_stmt e = rw here (first_if t p (rest img next) e)

  pub none_stmt : is_stmt t ≡ false → (stmt (rest img at) ≡ missing) × (after (rest img at) ≡ rest img at)
  none_stmt e = rw here (first_none t p (rest img next) e)

  pub top_here : is_stmt t ≡ true → decls false false (rest img at) ≡ top (stmt (rest img at)) ∷ decls false false (after (rest img at))
  top_here e = rw here (first_top t p (rest img next) e)

  pub stmt_here : is_stmt t ≡ true → stmts false (rest img at) ≡ stmt (rest img at) ∷ stmts false (after (rest img at))
  stmt_here e = rw here (first_stmt t p (rest img next) e)

  -- the end of a body, and a field in it that is no statement
  pub body_end : t ≡ 6 → stmts false (rest img at) ≡ []
  body_end e = rw here (first_end t p (rest img next) e)

  pub body_skip : is_stmt t ≡ false → (t ≡ 6 → ⊥) → stmts false (rest img at) ≡ stmts false (rest img next)
  body_skip e n = rw here (first_skip t p (rest img next) e n)

  pub inside_here : decls true false (rest img at) ≡ decls (then true t p) false (rest img next)
  inside_here = rw here (first_inside t p (rest img next))

  pub gate_here_lem : t ≡ 5 → decls false false (rest img at) ≡ gate (gate_at_place p (rest img next)) ∷ decls (then false t p) false (rest img next)
  gate_here_lem e = rw here (first_gate t p (rest img next) e)

  pub reg_here_lem : (c : Bool) → t ≡ pick c 4 3 → decls false false (rest img at) ≡ reg c (le4 p 0) (operand_in p 4) ∷ decls (then false t p) false (rest img next)
  reg_here_lem c e = rw here (first_reg t p (rest img next) c e)

module _ {A : Type 0} (X : List Decl → A) (no_include : NoInclude X) (img : List ℕ) (at t next : ℕ) (p : List ℕ) (h : at < length img) (et : t ≡ get_or img at 0)
    (ep : p ≡ load_at img at) (en : next ≡ next_in img at) where
  pub other_here : NoReg X → NoGate X → is_stmt t ≡ false → X (decls false false (rest img at)) ≡ X (decls (then false t p) false (rest img next))
  other_here no_reg no_gate e = rw (here img at t next p h et ep en) (first_other X no_include t p (rest img next) no_reg no_gate e)

  pub gates_skip : NoTop X → NoReg X → (t ≡ 5 → ⊥) → X (decls false false (rest img at)) ≡ X (decls (then false t p) false (rest img next))
  gates_skip no_top no_reg n = rw (here img at t next p h et ep en) (first_not_gate X no_include t p (rest img next) no_top no_reg n)

  pub regs_skip : NoTop X → NoGate X → (t ≡ 3 → ⊥) → (t ≡ 4 → ⊥) → X (decls false false (rest img at)) ≡ X (decls (then false t p) false (rest img next))
  regs_skip no_top no_gate m n = rw (here img at t next p h et ep en) (first_not_reg X no_include t p (rest img next) no_top no_gate m n)
