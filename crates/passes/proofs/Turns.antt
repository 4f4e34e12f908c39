-- What a turn of each pass gives.
use mathlib.Core.Path.{◌≡◌, refl, sym, ap, ◌∙◌, subst}
use mathlib.Core.List.{List, ◌∷◌, ◌++◌}
use mathlib.Core.Bool.{Bool, true, false}
use Prim.Native.Nat.{ℕ}
use native.Mathlib.Decide.{ℕ_discrete}
use borrow.Author.Tests.{ne_eqb}
use lib.Dec.{T, eqb}
use Rattle.rules.specs.Errors.{error_field}
use Rattle.rules.specs.Reading.{is_stmt}
use Rattle.rules.specs.Syntax.{Gate, top}
use Rattle.rules.specs.Grouping.{stmt, stmts, body_of, decls}
use Rattle.rules.specs.Checking.{Scope, body_scope, stmt_errors, stmts_errors, top_errors, body_errors, def_errors}
use Rattle.views.specs.declared.Field.{Field}
use Rattle.views.specs.declared.Fields.{Fields}
use Rattle.views.specs.View.{next_in, rest}
use Rattle.views.specs.Steps.{after, then, first_top, first_stmt, first_end, first_skip, first_gate, first_other, first_not_gate, gate_at_place}
use Rattle.views.specs.Fields.{Passes, Over, left, opened, head, head_opened, stays_inside, none_left, none_opened}
use Rattle.output.specs.declared.Writer.{Writer}
use Rattle.output.specs.Writers.{Says, puts_none, Owes, owes_less, owes_none}
use Rattle.tables.specs.Tables.{scope_in}
use Rattle.typing.specs.Checked.{Done}
use Rattle.passes.specs.Passes.{Heads, BodyChecked, defs, DefsSaid}

-- no body is open behind a statement
shut : (t : ℕ) (p : List ℕ) → is_stmt t ≡ true → then false t p ≡ false
unfolding then
shut t p e =
    let n : eqb t 5 ≡ false = ne_eqb t 5 (λ q. let w : ◌≡◌ {A = Bool} false true = rw q at e in subst T (sym w) tt) in
    rw n refl

-- ---- statements, at the top level and in a body: what is owed where the iterator stands at s

pub record TopsOwed (C : Scope) (img : List ℕ) (w₀ : Writer) (s : Fields) (w : Writer) : Type 0 where
  pub whole : s.img.now ≡ img
  pub owes : Owes error_field w₀ (top_errors C (decls false false (rest img 0))) w (top_errors C (opened s))

pub record BodyOwed (C : Scope) (img : List ℕ) (place : ℕ) (w₀ : Writer) (s : Fields) (w : Writer) : Type 0 where
  pub whole : s.img.now ≡ img
  pub owes : Owes error_field w₀ (stmts_errors C (stmts false (rest img (next_in img place)))) w (stmts_errors C (stmts false (left s)))

module _ (gates regs img : List ℕ) (s t : Fields) (f : Field) (k : Passes s f t) (whole : s.img.now ≡ img) (w w' : Writer) (next : ℕ) where
  -- the fields from the statement on, and the iterator set behind it
  here : rest img f.place ≡ left s
  here = rw (k.place, whole) refl

  abbrev moved : Fields
  moved = record { img = t.img; at = next; inside = t.inside }

  behind : Done gates regs img f.place w w' next → left moved ≡ after (left s)
  behind d = ap (λ x. rest x.now next) k.img ∙ ap (λ (x : List ℕ). rest x next) whole ∙ d.left ∙ ap after here

  still : moved.img.now ≡ img
  still = ap (λ x. x.now) k.img ∙ whole

module _ (gates regs img : List ℕ) (w₀ : Writer) (s t : Fields) (f : Field) (w : Writer) (k : Passes s f t) (o : TopsOwed (scope_in gates regs) img w₀ s w) where
  abbrev C : Scope
  C = scope_in gates regs

  top_on : top_errors C (opened s) ≡ top_errors C (opened t) → TopsOwed C img w₀ t w
  top_on q = record { whole = ap (λ x. x.now) k.img ∙ o.whole; owes = owes_less error_field o.owes q (puts_none error_field w) }

  pub top_inside : f.inside ≡ true → TopsOwed C img w₀ t w
  top_inside e = top_on (ap (top_errors C) (stays_inside s t f k e))

  pub top_other : f.inside ≡ false → is_stmt f.tag ≡ false → TopsOwed C img w₀ t w
  unfolding top_errors
  top_other e n = top_on (rw (head_opened s t f k, k.body, e) (first_other (top_errors C) (λ sp x ds. refl) f.tag f.payload.now (left t) (λ c d o ds. refl) (λ g ds. refl) n))

  pub top_stmt : f.inside ≡ false → is_stmt f.tag ≡ true → (w' : Writer) (next : ℕ) → Done gates regs img f.place w w' next → TopsOwed C img w₀ (record { img = t.img; at = next; inside = t.inside }) w'
  unfolding top_errors
  top_stmt e n w' next d =
      let first : opened s ≡ top (stmt (left s)) ∷ decls false false (after (left s)) = rw (← k.inside, e, head s t f k) (first_top f.tag f.payload.now (left t) n) in
      let open' : t.inside ≡ false = k.body ∙ (rw e (shut f.tag f.payload.now n)) in
      let m : Fields = record { img = t.img; at = next; inside = t.inside } in
      let owed : top_errors C (opened s) ≡ stmt_errors C (stmt (left s)) ++ top_errors C (opened m) = rw (first, open', behind gates regs img s t f k o.whole w w' next d) refl in
      let said : Says w (stmt_errors C (stmt (left s))) w' = subst (λ l. Says w (stmt_errors C (stmt l)) w') (here gates regs img s t f k o.whole w w' next) d.said in
      record { whole = still gates regs img s t f k o.whole w w' next; owes = owes_less error_field o.owes owed said }

pub tops_done : (C : Scope) (img : List ℕ) (w₀ : Writer) (s t : Fields) (w : Writer) → TopsOwed C img w₀ s w → Over s t → Says w₀ (top_errors C (decls false false (rest img 0))) w
unfolding top_errors
tops_done C img w₀ s t w o k = owes_none error_field o.owes (rw (none_opened s t k) refl)

module _ (gates regs img : List ℕ) (place : ℕ) (w₀ : Writer) (s t : Fields) (f : Field) (w : Writer) (k : Passes s f t) (o : BodyOwed (scope_in gates regs) img place w₀ s w) where
  abbrev C' : Scope
  C' = scope_in gates regs

  pub body_over : f.tag ≡ 6 → Says w₀ (stmts_errors C' (stmts false (rest img (next_in img place)))) w
  unfolding stmts_errors
  body_over e = owes_none error_field o.owes (rw (head s t f k, first_end f.tag f.payload.now (left t) e) refl)

  pub body_other : (f.tag ≡ 6 → ⊥) → is_stmt f.tag ≡ false → BodyOwed C' img place w₀ t w
  body_other m n = record {
    whole = ap (λ x. x.now) k.img ∙ o.whole;
    owes = owes_less error_field o.owes (rw (head s t f k, first_skip f.tag f.payload.now (left t) n m) refl) (puts_none error_field w);
  }

  pub body_stmt : is_stmt f.tag ≡ true → (w' : Writer) (next : ℕ) → Done gates regs img f.place w w' next → BodyOwed C' img place w₀ (record { img = t.img; at = next; inside = t.inside }) w'
  unfolding stmts_errors
  body_stmt n w' next d =
      let first : stmts false (left s) ≡ stmt (left s) ∷ stmts false (after (left s)) = rw (head s t f k) (first_stmt f.tag f.payload.now (left t) n) in
      let m : Fields = record { img = t.img; at = next; inside = t.inside } in
      let owed : stmts_errors C' (stmts false (left s)) ≡ stmt_errors C' (stmt (left s)) ++ stmts_errors C' (stmts false (left m)) = rw (first, behind gates regs img s t f k o.whole w w' next d) refl in
      let said : Says w (stmt_errors C' (stmt (left s))) w' = subst (λ l. Says w (stmt_errors C' (stmt l)) w') (here gates regs img s t f k o.whole w w' next) d.said in
      record { whole = still gates regs img s t f k o.whole w w' next; owes = owes_less error_field o.owes owed said }

pub body_done : (C : Scope) (img : List ℕ) (place : ℕ) (w₀ : Writer) (s t : Fields) (w : Writer) → BodyOwed C img place w₀ s w → Over s t → Says w₀ (stmts_errors C (stmts false (rest img (next_in img place)))) w
unfolding stmts_errors stmts
body_done C img place w₀ s t w o k = owes_none error_field o.owes (rw (none_left s t k) refl)

-- ---- bodies behind headers

pub record DefsOwed (gates img : List ℕ) (w₀ : Writer) (s : Fields) (w : Writer) : Type 0 where
  pub whole : s.img.now ≡ img
  pub same : w.out.ghost_name ≡ w₀.out.ghost_name
  pub owes : (gs : List Gate) → Heads gs gates → Owes error_field w₀ (defs gs img false 0) w (def_errors gs (opened s))

module _ (gates img : List ℕ) (w₀ : Writer) (s t : Fields) (f : Field) (w : Writer) (o : DefsOwed gates img w₀ s w) (k : Passes s f t) where
  -- nothing told, whatever the gates are
  def_on : ((gs : List Gate) → def_errors gs (opened s) ≡ def_errors gs (opened t)) → DefsOwed gates img w₀ t w
  def_on q = record { whole = ap (λ x. x.now) k.img ∙ o.whole; same = o.same; owes = λ gs heads. owes_less error_field (o.owes gs heads) (q gs) (puts_none error_field w) }

  pub def_inside : f.inside ≡ true → DefsOwed gates img w₀ t w
  def_inside e = def_on (λ gs. ap (def_errors gs) (stays_inside s t f k e))

  -- a header: its body, if it has one
  header : f.inside ≡ false → f.tag ≡ 5 → (gs : List Gate) → def_errors gs (opened s) ≡ body_errors (body_scope gs (gate_at_place f.payload.now (left t))) (body_of t.inside (left t)) ++ def_errors gs (opened t)
  unfolding def_errors gate_at_place then
  header e n gs = rw (head_opened s t f k, k.body, e, first_gate f.tag f.payload.now (left t) n, n) refl

  opened_by : f.inside ≡ false → then false f.tag f.payload.now ≡ true → f.tag ≡ 5
  unfolding then
  opened_by e h = elim (ℕ_discrete f.tag 5) [ yes q ↦ q | no q ↦ let w : ◌≡◌ {A = Bool} false true = rw (ne_eqb f.tag 5 q) at h in absurd (subst T (sym w) tt) ]

  pub def_body : f.inside ≡ false → (b : Bool) → b ≡ then false f.tag f.payload.now → b ≡ true → (w' : Writer) → BodyChecked gates img f.place f.payload.now w w' → DefsOwed gates img w₀ t w'
  def_body e b eb h w' x =
      let there : rest img (next_in img f.place) ≡ left t = rw (k.place, ← o.whole, ← k.next, k.img) refl in
      let n : f.tag ≡ 5 = opened_by e (sym eb ∙ h) in
      let open' : t.inside ≡ true = k.body ∙ (rw e (sym eb ∙ h)) in
      record {
        whole = ap (λ x. x.now) k.img ∙ o.whole;
        same = x.same ∙ o.same;
        owes = λ gs heads.
            let p : List ℕ = f.payload.now in
            let owed : def_errors gs (opened s) ≡ stmts_errors (body_scope gs (gate_at_place p (left t))) (stmts false (left t)) ++ def_errors gs (opened t) = header e n gs ∙ (rw open' refl) in
            let said : Says w (stmts_errors (body_scope gs (gate_at_place p (left t))) (stmts false (left t))) w' =
            subst (λ l. Says w (stmts_errors (body_scope gs (gate_at_place p l)) (stmts false l)) w') there (x.said gs heads) in
            owes_less error_field (o.owes gs heads) owed said;
      }

  pub def_other : f.inside ≡ false → (b : Bool) → b ≡ then false f.tag f.payload.now → b ≡ false → DefsOwed gates img w₀ t w
  unfolding def_errors
  def_other e b eb h = elim (ℕ_discrete f.tag 5) [
    | yes n ↦ let open' : t.inside ≡ false = k.body ∙ (rw e (sym eb ∙ h)) in def_on (λ gs. header e n gs ∙ (rw open' refl))
    | no n ↦ def_on (λ gs. rw (head_opened s t f k, k.body, e) (first_not_gate (def_errors gs) (λ sp x ds. refl) f.tag f.payload.now (left t) (λ x ds. refl) (λ c d o ds. refl) n))
  ]

pub defs_done : (gates img : List ℕ) (w₀ : Writer) (s t : Fields) (w : Writer) → DefsOwed gates img w₀ s w → Over s t → DefsSaid gates img w₀ w
unfolding def_errors
defs_done gates img w₀ s t w o k = record { same = o.same; said = λ gs heads. owes_none error_field (o.owes gs heads) (rw (none_opened s t k) refl) }
