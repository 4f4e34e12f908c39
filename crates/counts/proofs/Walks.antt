-- What a turn of each walk over an image gives.
use Rattle.std.specs.Prelude.{Option, Some, None}
use mathlib.Core.Path.{◌≡◌, refl, sym, ap, ◌∙◌, subst}
use mathlib.Core.List.{List, [], ◌∷◌, ◌++◌, append_assoc, append-nil}
use mathlib.Core.Logic.{◌⊎◌, ⊎_elim}
use mathlib.Core.Bool.{Bool, true, false}
use Prim.Native.Nat.{ℕ, ◌+◌, ◌<◌, ◌≤◌}
use native.Mathlib.Omega.{arith}
use native.Mathlib.Decide.{ℕ_discrete, dec_lt}
use borrow.Author.Tests.{eq-eqb, ne_eqb, le-leb, leb-true}
use lib.Dec.{T, eqb, leb}
use lib.ListN.{length, get_or, set, length-append, length-set, get_or-append}
use lib.Seq.{get_or-set_same, get_or-set_other, get_or-append_seam}
use Rattle.rules.specs.declared.Reg.{Reg}
use Rattle.rules.specs.Basics.{pick}
use Rattle.rules.specs.Reading.{is_stmt}
use Rattle.rules.specs.Syntax.{Gate, Decl, Field, name_f, include_f, reg_f, gate_f, end_f, stmt_f, if_f}
use Rattle.rules.specs.Grouping.{stmt, stmts, decls}
use Rattle.rules.specs.Checking.{no_gate, gate_at, registers}
use Rattle.rules.specs.Run.{bits_of, tops}
use Rattle.views.specs.View.{stmt_in, is_plain, field_in, rest}
use Rattle.views.specs.declared.Field as here
use Rattle.views.specs.declared.Fields.{Fields}
use Rattle.views.specs.Fields.{Passes, left, opened, head_opened}
use Rattle.views.specs.Steps.{after, then, decls_after, stmts_after, gate_at_place, first_plain, first_if, first_top, first_stmt, first_end, first_skip, first_inside, first_gate, first_reg, first_other, first_not_gate, first_not_reg}
use Rattle.counts.specs.Sums.{stmt_sum, stmts_sum, field_sum}
use Rattle.counts.specs.Starts.{reg_here, rows_of, start_fill}
use Rattle.counts.specs.Places.{gate_here, gate_list, Placed}

-- ---- entries

stmt_plain : (t : ℕ) → is_stmt t ≡ true → (t ≡ 22 → ⊥) → is_plain t ≡ true
stmt_plain t e n = go (leb 16 t) refl (leb t 22) refl
  where
    go : (c : Bool) → leb 16 t ≡ c → (d : Bool) → leb t 22 ≡ d → is_plain t ≡ true
    go true f true g = let h : t ≤ 22 = leb-true t 22 g in let k : t ≤ 21 = omega arith in rw (f, le-leb t 21 k) refl
    go true f false g = let z : ◌≡◌ {A = Bool} false true = rw (f, g) at e in absurd (subst T (sym z) tt)
    go false f d g = let z : ◌≡◌ {A = Bool} false true = rw f at e in absurd (subst T (sym z) tt)

module _ (gates regs : List ℕ) (t : ℕ → ℕ) where
  abbrev pub body_sum : List Field → ℕ
  body_sum l = stmts_sum gates regs t (stmts false l)

  abbrev pub top_sum : Bool → List Field → ℕ
  top_sum i l = stmts_sum gates regs t (tops (decls i false l))

  -- the statement that the fields begin with, and then the rest, be it one or none
  body_flat : (l : List Field) → stmt_sum gates regs t (stmt l) + body_sum (after l) ≡ body_sum l
  unfolding stmt_sum stmts_sum stmt stmts after
  body_flat [] = omega arith
  body_flat (name_f x ∷ l) = omega arith
  body_flat (include_f sp x ∷ l) = omega arith
  body_flat (reg_f c d o ∷ l) = omega arith
  body_flat (gate_f d sp x f ps qs ∷ l) = omega arith
  body_flat (end_f ∷ l) = omega arith
  body_flat (stmt_f s ∷ l) = refl
  body_flat (if_f sp o vs v ∷ l) = rw (stmts_after l) refl

  top_flat : (l : List Field) → stmt_sum gates regs t (stmt l) + top_sum false (after l) ≡ top_sum false l
  unfolding stmt_sum stmts_sum stmt decls tops after
  top_flat [] = omega arith
  top_flat (name_f x ∷ l) = omega arith
  top_flat (include_f sp x ∷ l) = omega arith
  top_flat (reg_f c d o ∷ l) = omega arith
  top_flat (gate_f d sp x f ps qs ∷ l) = omega arith
  top_flat (end_f ∷ l) = omega arith
  top_flat (stmt_f s ∷ l) = refl
  top_flat (if_f sp o vs v ∷ l) = rw (decls_after l) refl

  module _ (tag : ℕ) (p : List ℕ) (l : List Field) where
    pub body_turn : (tag ≡ 6 → ⊥) → body_sum (field_in tag p ∷ l) ≡ field_sum gates regs t tag p + body_sum l
    unfolding field_sum stmt_sum stmts_sum
    body_turn n = elim (ℕ_discrete tag 22) [
      | yes e ↦
          let q = first_if tag p l e in
          rw (first_stmt tag p l (rw e refl), q.0, q.1, eq-eqb tag 22 e) (omega (arith, body_flat l))
      | no e ↦ rw (ne_eqb tag 22 e) (go (is_stmt tag) refl e)
    ]
      where
        go : (b : Bool) → is_stmt tag ≡ b → (tag ≡ 22 → ⊥) → body_sum (field_in tag p ∷ l) ≡ pick b (stmt_sum gates regs t (stmt_in tag p)) 0 + body_sum l
        go true f e =
            let q = first_plain tag p l (stmt_plain tag f e) in
            rw (first_stmt tag p l f, q.0, q.1) refl
        go false f e = rw (first_skip tag p l f n) (omega arith)

    pub body_over : tag ≡ 6 → body_sum (field_in tag p ∷ l) ≡ 0
    unfolding stmts_sum
    body_over e = rw (first_end tag p l e) refl

    pub top_turn : (i : Bool) → top_sum i (field_in tag p ∷ l) ≡ pick i 0 (field_sum gates regs t tag p) + top_sum (then i tag p) l
    unfolding field_sum stmt_sum stmts_sum tops then
    top_turn true = ap (λ (ds : List Decl). stmts_sum gates regs t (tops ds)) (first_inside tag p l) ∙ (omega arith)
    top_turn false = elim (ℕ_discrete tag 22) [
      | yes e ↦
          let q = first_if tag p l e in
          rw (first_top tag p l (rw e refl), q.0, q.1, e) (omega (arith, top_flat l))
      | no e ↦ rw (ne_eqb tag 22 e) (go (is_stmt tag) refl e)
    ]
      where
        go : (b : Bool) → is_stmt tag ≡ b → (tag ≡ 22 → ⊥)
            → top_sum false (field_in tag p ∷ l) ≡ pick b (stmt_sum gates regs t (stmt_in tag p)) 0 + top_sum (then false tag p) l
        go true f e =
            let q = first_plain tag p l (stmt_plain tag f e) in
            let n : eqb tag 5 ≡ false = ne_eqb tag 5 (λ z. let w : is_stmt 5 ≡ true = rw z at f in let z : ◌≡◌ {A = Bool} false true = w in subst T (sym z) tt) in
            rw (first_top tag p l f, q.0, q.1, n) refl
        go false f e = first_other (λ ds. stmts_sum gates regs t (tops ds)) (λ sp x ds. refl) tag p l (λ c d o ds. refl) (λ g ds. refl) f ∙ (omega arith)

  -- where no field is left
  pub body_done : body_sum [] ≡ 0
  unfolding stmts_sum stmts
  body_done = refl

  pub top_done : (i : Bool) → top_sum i [] ≡ 0
  unfolding stmts_sum tops decls
  top_done true = refl
  top_done false = refl

-- nothing is declared where no field is left
pub none_opened : (i : Bool) → decls i false [] ≡ []
unfolding decls
none_opened true = refl
none_opened false = refl

-- ---- registers

bits_append : (k : Bool) (a b : List Reg) → bits_of k (a ++ b) ≡ bits_of k a + bits_of k b
unfolding bits_of
bits_append k [] b = omega arith
bits_append true (r ∷ a) b = omega (arith, bits_append true a b)
bits_append false (r ∷ a) b = omega (arith, bits_append false a b)

module _ (tag : ℕ) (p : List ℕ) (l : List Field) where
  pub regs_turn : (i : Bool) → registers (decls i false (field_in tag p ∷ l)) ≡ rows_of (reg_here i tag p) ++ registers (decls (then i tag p) false l)
  unfolding registers reg_here
  regs_turn true = ap registers (first_inside tag p l)
  regs_turn false = elim (ℕ_discrete tag 3) [
    | yes e ↦ ap registers (first_reg tag p l false e) ∙ (rw (eq-eqb tag 3 e) refl)
    | no e ↦ elim (ℕ_discrete tag 4) [
      | yes f ↦ ap registers (first_reg tag p l true f) ∙ (rw (ne_eqb tag 3 e, eq-eqb tag 4 f) refl)
      | no f ↦ first_not_reg registers (λ sp x ds. refl) tag p l (λ s ds. refl) (λ g ds. refl) e f ∙ (rw (ne_eqb tag 3 e, ne_eqb tag 4 f) refl)
    ]
  ]

  pub bits_turn : (k i : Bool) → bits_of k (registers (decls i false (field_in tag p ∷ l))) ≡ bits_of k (rows_of (reg_here i tag p)) + bits_of k (registers (decls (then i tag p) false l))
  bits_turn k i = rw (regs_turn i) (bits_append k (rows_of (reg_here i tag p)) (registers (decls (then i tag p) false l)))

module _ (tag : ℕ) (p : List ℕ) (l : List Field) (i : Bool) (f : Option Reg) (ef : f ≡ reg_here i tag p) (q c : ℕ) (t all : List ℕ)
    (h : start_fill q c (registers (decls i false (field_in tag p ∷ l))) t ≡ all) where
  pub starts_none : f ≡ None → start_fill q c (registers (decls (then i tag p) false l)) t ≡ all
  starts_none e = rw (regs_turn tag p l i, ← ef, e) at h

  pub starts_turn : (r : Reg) → f ≡ Some r → start_fill q c (r ∷ registers (decls (then i tag p) false l)) t ≡ all
  starts_turn r e = rw (regs_turn tag p l i, ← ef, e) at h

-- ---- gates

-- the first k gates are entered, and these are left
pub record Entered (img : List ℕ) (ds : List Decl) (places : List ℕ) (k : ℕ) : Type 0 where
  pub before : List Gate
  pub all : before ++ gate_list ds ≡ gate_list (decls false false (rest img 0))
  pub count : length before ≡ k
  pub have : Placed img before places

pub entered_all : (img : List ℕ) (ds : List Decl) (places : List ℕ) (k : ℕ) → ds ≡ [] → Entered img ds places k → Placed img (gate_list (decls false false (rest img 0))) places
unfolding gate_list
entered_all img ds places k d e = subst (λ (gs : List Gate). Placed img gs places) (sym (append-nil e.before) ∙ (rw d at e.all)) e.have

one_more : (img : List ℕ) (at : ℕ) (gs : List Gate) (g : Gate) (places : List ℕ) → gate_here img at ≡ g → Placed img gs places → Placed img (gs ++ (g ∷ [])) (set places (length gs) at)
one_more img at gs g places e P = record {
  at = λ i h l. elim (dec_lt i (length gs)) [
    | yes b ↦
        let d : (i ≡ length gs → ⊥) = λ z. omega arith in
        ap (gate_here img) (get_or-set_other places (length gs) i at 0 d) ∙ P.at i b (omega (arith, length-set places (length gs) at))
        ∙ sym (get_or-append gs (g ∷ []) no_gate i b)
    | no b ↦
        let z : i ≡ length gs = omega (arith, length-append gs (g ∷ [])) in
        let r : length gs < length places = omega (arith, length-set places (length gs) at) in
        subst (λ (j : ℕ). gate_here img (get_or (set places (length gs) at) j 0) ≡ gate_at (gs ++ (g ∷ [])) j) (sym z)
        (ap (gate_here img) (get_or-set_same places (length gs) at 0 r) ∙ e ∙ sym (get_or-append_seam gs g [] no_gate))
  ];
}

module _ (tag : ℕ) (p : List ℕ) (l : List Field) (img places : List ℕ) (k : ℕ) where
  other_turn : (i : Bool) → (i ≡ false → tag ≡ 5 → ⊥) → Entered img (decls i false (field_in tag p ∷ l)) places k → Entered img (decls (then i tag p) false l) places k
  unfolding gate_list
  other_turn true n e = record { before = e.before; all = ap (λ (ds : List Decl). e.before ++ gate_list ds) (sym (first_inside tag p l)) ∙ e.all; count = e.count; have = e.have }
  other_turn false n e = record {
    before = e.before;
    all = ap (λ (gs : List Gate). e.before ++ gs) (sym (first_not_gate gate_list (λ sp x ds. refl) tag p l (λ s ds. refl) (λ c d o ds. refl) (n refl))) ∙ e.all;
    count = e.count;
    have = e.have;
  }

  gate_turn : (at : ℕ) → tag ≡ 5 → gate_here img at ≡ gate_at_place p l → Entered img (decls false false (field_in tag p ∷ l)) places k
      → Entered img (decls (then false tag p) false l) (set places k at) (k + 1)
  unfolding gate_list
  gate_turn at f g e =
      let b : List Gate = e.before ++ (gate_at_place p l ∷ []) in
      let r : List Gate = gate_list (decls (then false tag p) false l) in
      record {
        before = b;
        all = append_assoc e.before (gate_at_place p l ∷ []) r ∙ ap (λ (ds : List Decl). e.before ++ gate_list ds) (sym (first_gate tag p l f)) ∙ e.all;
        count = length-append e.before (gate_at_place p l ∷ []) ∙ ap (λ (n : ℕ). n + 1) e.count;
        have = subst (λ (n : ℕ). Placed img b (set places n at)) e.count (one_more img at e.before (gate_at_place p l) places g e.have);
      }

module _ (img : List ℕ) (s t : Fields) (f : here.Field) (k : Passes s f t) (places : List ℕ) (n : ℕ) (e : Entered img (opened s) places n) where
  -- no gate stands here
  pub enters_none : (f.inside ≡ false) × (f.tag ≡ 5 → ⊥) ⊎ (f.inside ≡ true) → Entered img (opened t) places n
  enters_none = ⊎_elim (λ o. go false (o.0) (λ q. o.1)) (λ o. go true o (λ q. absurd (true_no q)))
    where
      true_no : true ≡ false → ⊥
      true_no q = subst T q tt

      go : (i : Bool) → f.inside ≡ i → (i ≡ false → f.tag ≡ 5 → ⊥) → Entered img (opened t) places n
      go i q m =
          let h : Entered img (decls i false (field_in f.tag f.payload.now ∷ left t)) places n = rw (head_opened s t f k, q) at e in
          rw (k.body, q) (other_turn f.tag f.payload.now (left t) img places n i m h)

  -- a gate does
  pub enters_gate : s.img.now ≡ img → f.inside ≡ false → f.tag ≡ 5 → Entered img (opened t) (set places n f.place) (n + 1)
  enters_gate q i g =
      let h : Entered img (decls false false (field_in f.tag f.payload.now ∷ left t)) places n = rw (head_opened s t f k, i) at e in
      rw (k.body, i) (gate_turn f.tag f.payload.now (left t) img places n f.place g (rw (k.payload, k.img, k.next, k.place, q) refl) h)
