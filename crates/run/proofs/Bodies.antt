-- What a run of a gate comes to, and a turn over its body.
use Rattle.std.specs.Prelude.{Option, Some, None}
use mathlib.Core.Path.{◌≡◌, refl, sym, ◌∙◌, subst}
use mathlib.Core.List.{List, [], ◌∷◌, ◌++◌, map, append-nil}
use mathlib.Core.Bool.{Bool, true, false}
use Prim.Native.Nat.{ℕ, suc, ◌-◌, ◌<◌, ◌≤◌}
use native.Mathlib.Omega.{arith}
use native.Mathlib.Decide.{ℕ_discrete, dec_lt}
use borrow.Author.Tests.{ne_eqb, le-leb, leb-true}
use mathlib.Core.Logic.{◌⊎◌, inl, inr, ⊎_elim}
use lib.Dec.{T, eqb, ltb, leb, lit≤}
use lib.ListN.{get_or, take}
use Rattle.rules.specs.declared.Reg.{Reg}
use Rattle.rules.specs.Basics.{pick}
use Rattle.rules.specs.Reading.{is_stmt, load_at}
use Rattle.rules.specs.Syntax.{Field, name_f, include_f, reg_f, gate_f, end_f, stmt_f, if_f}
use Rattle.rules.specs.Grouping.{stmt, stmts}
use Rattle.rules.specs.Checking.{Asked, quantum, assert_reg}
use Rattle.rules.specs.Run.{Entry, opaque_e, entry_field, common}
use Rattle.views.specs.View.{name_in, operand_in, row_in, u_in, barrier_in, call_in, stmt_in, is_plain, field_in, next_in, rest}
use Rattle.views.specs.Steps.{after, stmts_after, first_plain, first_if, first_stmt, first_end, first_skip}
use Rattle.views.specs.declared.Field as here
use Rattle.views.specs.declared.Fields.{Fields}
use Rattle.views.specs.Fields.{Passes, Over, left, head, none_left}
use Rattle.output.specs.declared.Writer.{Writer}
use Rattle.output.specs.Writers.{Puts, puts_none}
use Rattle.tables.specs.Tables.{gate_in, reg_in}
use Rattle.counts.specs.Sums.{size_in, sizes_in}
use Rattle.run.specs.declared.Program.{Program}
use Rattle.run.specs.Lines.{lanes_in, turn_list, spread_in, called, walked, line, lines, plain_line, sees, gate_runs, gate_lines}

-- ---- without a table of registers every size is 1

reg_none : (x : ℕ) → reg_in [] x ≡ None
unfolding reg_in
reg_none x = go (ltb x 512)
  where
    go : (b : Bool) → ◌≡◌ {A = Option Reg} (pick b None None) None
    go true = refl
    go false = refl

size_one : (q : Asked) → size_in [] q ≡ 1
unfolding size_in assert_reg
size_one q = rw (reg_none q.operand.name) refl

common_one : (qs : List Asked) → common (sizes_in [] qs) ≡ 1
unfolding sizes_in common
common_one [] = refl
common_one (q ∷ qs) = rw (size_one q) (common_one qs)

once : (bits : List ℕ) (qs : List Asked) (f : List ℕ → List Entry) → spread_in [] bits qs f ≡ f (lanes_in [] bits 0 qs)
unfolding spread_in turn_list
once bits qs f = rw (common_one qs) (append-nil (f (lanes_in [] bits 0 qs)))

-- ---- a gate

module _ (p : Program) (depth g : ℕ) (qs : List ℕ) where
  pub gate_zero : depth ≡ 0 → (w : Writer) → Puts entry_field w (gate_runs p depth g qs) w
  unfolding gate_lines
  gate_zero e w = rw e (puts_none entry_field w)

  module _ (some : depth ≡ 0 → ⊥) (place : ℕ) (ep : place ≡ get_or p.places.now g 0) (head : List ℕ) (eh : head ≡ load_at p.img.now place) (k : Bool) (ek : k ≡ eqb (get_or head 10 0) 1) where
    deep : suc (depth - 1) ≡ depth
    deep = omega (arith, some)

    pub gate_opaque : k ≡ false → (x : ℕ) → (x ≡ name_in head 8) × (x < 512) → gate_runs p depth g qs ≡ opaque_e x qs ∷ []
    unfolding gate_lines
    gate_opaque e x ex = subst (λ (d : ℕ). gate_runs p d g qs ≡ opaque_e x qs ∷ []) deep (rw (← ep, ← eh, ← ek, e, ← ex.0) refl)

    pub gate_body : k ≡ true → gate_runs p depth g qs
        ≡ lines (gate_runs p (depth - 1)) p.gates.now p.counts.now [] (sees [] head qs) (stmts false (rest p.img.now (next_in p.img.now place)))
    unfolding gate_lines
    gate_body e =
        subst (λ (d : ℕ). gate_runs p d g qs ≡ lines (gate_runs p (depth - 1)) p.gates.now p.counts.now [] (sees [] head qs) (stmts false (rest p.img.now (next_in p.img.now place)))) deep
        (rw (← ep, ← eh, ← ek, e) refl)

-- ---- a turn

pub stmt_plain : (t : ℕ) → is_stmt t ≡ true → (t ≡ 22 → ⊥) → (16 ≤ t) × (t ≤ 21)
stmt_plain t e n = go (leb 16 t) refl (leb t 22) refl
  where
    go : (c : Bool) → leb 16 t ≡ c → (d : Bool) → leb t 22 ≡ d → (16 ≤ t) × (t ≤ 21)
    go true f true g = let h : t ≤ 22 = leb-true t 22 g in (leb-true 16 t f, omega arith)
    go true f false g = let z : ◌≡◌ {A = Bool} false true = rw (f, g) at e in absurd (subst T (sym z) tt)
    go false f d g = let z : ◌≡◌ {A = Bool} false true = rw f at e in absurd (subst T (sym z) tt)

pub plain_is : (t : ℕ) → (16 ≤ t) × (t ≤ 21) → is_plain t ≡ true
plain_is t k = rw (le-leb 16 t k.0, le-leb t 21 k.1) refl

not_stmt : (t : ℕ) → is_stmt t ≡ false → (t < 16) ⊎ (21 < t)
not_stmt t e = elim (dec_lt t 16) [
  | yes h ↦ inl h
  | no h ↦ elim (dec_lt 22 t) [
    | yes k ↦ inr (omega arith)
    | no k ↦
        let a : 16 ≤ t = omega arith in
        let b : t ≤ 22 = omega arith in
        let z : ◌≡◌ {A = Bool} true false = rw (le-leb 16 t a, le-leb t 22 b) at e in
        absurd (subst T z tt)
  ]
]

no_entries : (regs bits : List ℕ) (t : ℕ) (p : List ℕ) → (t < 16) ⊎ (21 < t) → plain_line regs bits t p ≡ []
unfolding plain_line
no_entries regs bits t p h =
    let n : (m : ℕ) → 16 ≤ m → m ≤ 20 → (t ≡ m → ⊥) = λ m a b e. ⊎_elim (λ l. omega arith) (λ l. omega arith) h in
    rw (ne_eqb t 16 (n 16 (lit≤ tt) (lit≤ tt)), ne_eqb t 17 (n 17 (lit≤ tt) (lit≤ tt)), ne_eqb t 18 (n 18 (lit≤ tt) (lit≤ tt)), ne_eqb t 19 (n 19 (lit≤ tt) (lit≤ tt)), ne_eqb t 20 (n 20 (lit≤ tt) (lit≤ tt))) refl

pub plain_none : (regs bits : List ℕ) (t : ℕ) (p : List ℕ) (w : Writer) → (t ≡ 16 → ⊥) → (t ≡ 17 → ⊥) → (t ≡ 18 → ⊥) → (t ≡ 19 → ⊥) → (t ≡ 20 → ⊥)
    → Puts entry_field w (plain_line regs bits t p) w
unfolding plain_line
plain_none regs bits t p w h i j k l = rw (ne_eqb t 16 h, ne_eqb t 17 i, ne_eqb t 18 j, ne_eqb t 19 k, ne_eqb t 20 l) (puts_none entry_field w)

module _ (f' : ℕ → List ℕ → List Entry) (gates counts regs bits : List ℕ) where
  abbrev pub Lines : List Field → List Entry
  Lines l = lines f' gates counts regs bits (stmts false l)

  lines_flat : (l : List Field) → line f' gates counts regs bits (stmt l) ++ Lines (after l) ≡ Lines l
  unfolding line lines stmt stmts after
  lines_flat [] = refl
  lines_flat (name_f x ∷ l) = refl
  lines_flat (include_f sp x ∷ l) = refl
  lines_flat (reg_f c d o ∷ l) = refl
  lines_flat (gate_f d sp x b ps qs ∷ l) = refl
  lines_flat (end_f ∷ l) = refl
  lines_flat (stmt_f s ∷ l) = refl
  lines_flat (if_f sp o vs v ∷ l) = rw (stmts_after l) refl

  -- a statement but a call and an IF
  pub plain_line_lem : (t : ℕ) (p : List ℕ) → (16 ≤ t) × (t ≤ 21) → (t ≡ 21 → ⊥) → line f' gates counts regs bits (stmt_in t p) ≡ plain_line regs bits t p
  unfolding line stmt_in plain_line u_in barrier_in
  plain_line_lem t p h n = elim (ℕ_discrete t 16) [
    | yes e ↦ rw e refl
    | no a ↦ elim (ℕ_discrete t 17) [
      | yes e ↦ rw e refl
      | no b ↦ elim (ℕ_discrete t 18) [
        | yes e ↦ rw e refl
        | no c ↦ elim (ℕ_discrete t 19) [
          | yes e ↦ rw e refl
          | no d ↦ let e : t ≡ 20 = omega arith in rw e refl
        ]
      ]
    ]
  ]

  module _ (s t : Fields) (f : here.Field) (k : Passes s f t) where
    abbrev p : List ℕ
    p = f.payload.now

    body_call : f.tag ≡ 21 → Lines (left s) ≡ line f' gates counts regs bits (call_in p) ++ Lines (left t)
    unfolding lines stmt_in
    body_call e =
        let q = first_plain f.tag p (left t) (rw e refl) in
        rw (head s t f k, first_stmt f.tag p (left t) (rw e refl), q.0, q.1, e) refl

    pub body_plain : (f.tag ≡ 6 → ⊥) → (f.tag ≡ 21 → ⊥) → Lines (left s) ≡ plain_line regs bits f.tag f.payload.now ++ Lines (left t)
    unfolding lines line
    body_plain not6 n = rw (head s t f k) (elim (ℕ_discrete f.tag 22) [
      | yes e ↦
          let q = first_if f.tag p (left t) e in
          rw (first_stmt f.tag p (left t) (rw e refl), q.0, q.1, no_entries regs bits f.tag p (inr (omega arith))) (lines_flat (left t))
      | no e ↦ go (is_stmt f.tag) refl e
    ])
      where
        go : (b : Bool) → is_stmt f.tag ≡ b → (f.tag ≡ 22 → ⊥) → Lines (field_in f.tag p ∷ left t) ≡ plain_line regs bits f.tag p ++ Lines (left t)
        go true i e =
            let h = stmt_plain f.tag i e in
            let q = first_plain f.tag p (left t) (plain_is f.tag h) in
            rw (first_stmt f.tag p (left t) i, q.0, q.1, plain_line_lem f.tag p h n) refl
        go false i e = rw (first_skip f.tag p (left t) i not6, no_entries regs bits f.tag p (not_stmt f.tag i)) refl

    pub body_over : f.tag ≡ 6 → Lines (left s) ≡ []
    unfolding lines
    body_over e = rw (head s t f k, first_end f.tag p (left t) e) refl

  pub body_done : (s t : Fields) → Over s t → Lines (left s) ≡ []
  unfolding lines stmts
  body_done s t k = rw (none_left s t k) refl

-- ---- a call

module _ (f : ℕ → List ℕ → List Entry) (gates counts regs bits p : List ℕ) (x : ℕ) (ex : (x ≡ name_in p 8) × (x < 512)) (r : Option ℕ)
    (er : (f : ℕ → List Entry) → called (gate_in gates x) counts f ≡ walked r f) where
  pub call_skip : r ≡ None → line f gates counts regs bits (call_in p) ≡ []
  unfolding line call_in
  call_skip e = rw (← ex.0) (er _ ∙ (rw e refl))

  pub call_walk : (g : ℕ) → r ≡ Some g → line f gates counts regs bits (call_in p) ≡ spread_in regs bits (map quantum (row_in operand_in 15 (get_or p 11 0) p 12)) (f g)
  unfolding line call_in
  call_walk g e = rw (← ex.0) (er _ ∙ (rw e refl))

-- .. in a body
module _ (f' : ℕ → List ℕ → List Entry) (gates counts bits : List ℕ) (s t : Fields) (f : here.Field) (k : Passes s f t) (e : f.tag ≡ 21) (x : ℕ) (ex : (x ≡ name_in f.payload.now 8) × (x < 512)) (r : Option ℕ)
    (er : (f : ℕ → List Entry) → called (gate_in gates x) counts f ≡ walked r f) where
  pub skip_turn : r ≡ None → Lines f' gates counts [] bits (left s) ≡ [] ++ Lines f' gates counts [] bits (left t)
  skip_turn q = body_call f' gates counts [] bits s t f k e ∙ (rw (call_skip f' gates counts [] bits f.payload.now x ex r er q) refl)

  pub walk_turn : (g : ℕ) → r ≡ Some g → (n : ℕ) → (n ≡ get_or f.payload.now 11 0) × (n < 256) → (row : List ℕ) → take n row ≡ lanes_in [] bits 0 (map quantum (row_in operand_in 15 n f.payload.now 12))
      → Lines f' gates counts [] bits (left s) ≡ f' g (take n row) ++ Lines f' gates counts [] bits (left t)
  walk_turn g q n en row el =
      body_call f' gates counts [] bits s t f k e
      ∙ (rw (call_walk f' gates counts [] bits f.payload.now x ex r er g q, once bits (map quantum (row_in operand_in 15 (get_or f.payload.now 11 0) f.payload.now 12)) (f' g), el, en.0) refl)
