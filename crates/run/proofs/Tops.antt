-- What a statement of the top level comes to, and a turn over the top level.
use mathlib.Core.Path.{◌≡◌, refl, sym, ap, ◌∙◌, subst}
use mathlib.Core.List.{List, [], ◌∷◌, ◌++◌}
use mathlib.Core.Bool.{Bool, true, false}
use Prim.Native.Nat.{ℕ, ◌≤◌}
use native.Mathlib.Omega.{arith}
use borrow.Author.Tests.{ne_eqb}
use mathlib.Core.Logic.{◌⊎◌, ⊎_elim}
use lib.Dec.{T, eqb}
use lib.ListN.{length}
use Rattle.rules.specs.declared.Operand.{Operand}
use Rattle.rules.specs.Basics.{pick}
use Rattle.rules.specs.Items.{le4, le8}
use Rattle.rules.specs.Reading.{is_stmt}
use Rattle.rules.specs.Syntax as syntax
use Rattle.rules.specs.Syntax.{cx, measure, reset, Decl}
use Rattle.rules.specs.Grouping.{stmt, decls}
use Rattle.rules.specs.Run.{Entry, if_e, if_end_e, entry_field, tops}
use Rattle.views.specs.View.{operand_in, row_in, args_in, u_in, barrier_in, call_in, stmt_in, is_plain, rest, rest_end}
use Rattle.views.specs.Steps.{after, then, first_plain, first_if, first_none, first_top, first_inside, first_other}
use Rattle.views.specs.declared.Field.{Field}
use Rattle.views.specs.declared.Fields.{Fields}
use Rattle.views.specs.Fields.{Passes, Over, left, head, none_left}
use Rattle.output.specs.declared.Writer.{Writer}
use Rattle.output.specs.Writers.{Puts, puts_none, puts_then}
use Rattle.asserts.specs.Sizes.{asked}
use Rattle.counts.specs.Sums.{size_in}
use Rattle.run.specs.declared.Top.{Top}
use Rattle.run.specs.Lines.{start_in, line, top_line, top_lines, plain_line, frame_fill, sees, full, names, runs, top_runs, Does}
use Rattle.run.proofs.Bodies.{plain_line_lem, stmt_plain, plain_is}

-- without a header the table's bits are seen
pub none_seen : (bits : List ℕ) → sees bits [] [] ≡ full bits
unfolding args_in frame_fill row_in
none_seen bits = refl

-- ---- statements

plain_top : (f : ℕ → List ℕ → List Entry) (gates counts regs bits : List ℕ) (t : ℕ) (p : List ℕ) → top_line f gates counts regs bits (stmt_in t p) ≡ line f gates counts regs bits (stmt_in t p)
unfolding top_line line stmt_in u_in barrier_in call_in
plain_top f gates counts regs bits t p = go (eqb t 16) (eqb t 17) (eqb t 18) (eqb t 19) (eqb t 20)
  where
    go : (a b c d e : Bool) → top_line f gates counts regs bits (pick a (u_in p) (pick b (cx (le4 p 0) (operand_in p 4) (operand_in p 19)) (pick c (measure (le4 p 0) (operand_in p 4) (operand_in p 19))
        (pick d (reset (le4 p 0) (operand_in p 4)) (pick e (barrier_in p) (call_in p))))))
        ≡ line f gates counts regs bits (pick a (u_in p) (pick b (cx (le4 p 0) (operand_in p 4) (operand_in p 19)) (pick c (measure (le4 p 0) (operand_in p 4) (operand_in p 19))
        (pick d (reset (le4 p 0) (operand_in p 4)) (pick e (barrier_in p) (call_in p))))))
    go true b c d e = refl
    go false true c d e = refl
    go false false true d e = refl
    go false false false true e = refl
    go false false false false true = refl
    go false false false false false = refl

module _ (top : Top) (s : Fields) (w : Writer) where
  abbrev Doing : Writer → ℕ → Type 0
  Doing w' next = Does (top_runs top (stmt (left s))) s.img.now s.at w w' next

  pub does_end : length s.img.now ≤ s.at → Doing w (length s.img.now)
  unfolding top_line stmt after
  does_end h = record {
    put = rw (rest_end s.img.now s.at h) (puts_none entry_field w);
    left = rw (rest_end s.img.now s.at h, rest_end s.img.now (length s.img.now) (omega arith)) refl;
    inside = omega arith;
    on = λ k. k;
    past = λ l e. absurd (omega arith);
  }

  module _ (t : Fields) (f : Field) (k : Passes s f t) where
    -- the same image
    next_left : left t ≡ rest s.img.now t.at
    next_left = rw k.img refl

    does_line : is_plain f.tag ≡ true → (w' : Writer) → Puts entry_field w (runs top (stmt_in f.tag f.payload.now)) w' → Doing w' t.at
    does_line i w' h =
        let e = first_plain f.tag f.payload.now (left t) i in
        record {
          put = rw (head s t f k, e.0, plain_top _ _ _ _ _ f.tag f.payload.now) h;
          left = sym (rw (head s t f k) e.1 ∙ next_left);
          inside = omega (arith, k.next);
          on = λ l. omega (arith, k.next);
          past = λ l q. omega (arith, k.next);
        }

    pub does_call : f.tag ≡ 21 → (w' : Writer) → Puts entry_field w (runs top (call_in f.payload.now)) w' → Doing w' t.at
    unfolding stmt_in
    does_call e w' h = does_line (rw e refl) w' (rw e h)

    pub does_plain : (f.tag ≡ 22 → ⊥) → (f.tag ≡ 21 → ⊥) → (b : Bool) → b ≡ is_stmt f.tag → b ≡ true
        → (w' : Writer) → Puts entry_field w (plain_line top.frame.regs.now (names top.frame) f.tag f.payload.now) w' → Doing w' t.at
    does_plain m q b eb there w' h =
        let i = stmt_plain f.tag (sym eb ∙ there) m in
        does_line (plain_is f.tag i) w' (rw (plain_line_lem _ _ _ _ _ f.tag f.payload.now i q) h)

    pub does_none : (b : Bool) → b ≡ is_stmt f.tag → b ≡ false → Doing w s.at
    unfolding top_line
    does_none b eb none =
        let e = first_none f.tag f.payload.now (left t) (sym eb ∙ none) in
        record {
          put = rw (head s t f k, e.0) (puts_none entry_field w);
          left = rw (head s t f k) (sym e.1);
          inside = omega (arith, k.within);
          on = λ l. omega arith;
          past = λ l q. absurd (subst T (sym q ∙ ap is_stmt (sym k.tag.0) ∙ sym eb ∙ none) tt);
        }

    pub does_if : f.tag ≡ 22 → (o : Operand) → o ≡ operand_in f.payload.now 4 → (x n v : ℕ) → x ≡ start_in (names top.frame) o → n ≡ size_in top.frame.regs.now (asked true o) → v ≡ le8 f.payload.now 23
        → (w₁ : Writer) → Puts entry_field w (if_e x n v ∷ []) w₁
        → (w₂ : Writer) (next : ℕ) → Does (top_runs top (stmt (rest s.img.now t.at))) s.img.now t.at w₁ w₂ next
        → (w₃ : Writer) → Puts entry_field w₂ (if_end_e ∷ []) w₃ → Doing w₃ next
    unfolding top_line
    does_if e o eo x n v ex en ev w₁ a w₂ next d w₃ c =
        let q = first_if f.tag f.payload.now (left t) e in
        let m : t.at ≤ length s.img.now = omega (arith, k.next) in
        record {
          put = rw (head s t f k, q.0, ← eo, ← ex, ← en, ← ev, next_left) (puts_then entry_field a (puts_then entry_field d.put c));
          left = d.left ∙ sym (rw (head s t f k) q.1 ∙ ap after next_left);
          inside = d.inside;
          on = λ l. omega (arith, d.on m, k.next);
          past = λ l q. omega (arith, d.on m, k.next);
        }

-- ---- turns

module _ (f' : ℕ → List ℕ → List Entry) (gates counts regs bits : List ℕ) where
  -- what the fields of the top level come to
  abbrev pub tops_from : Bool → List syntax.Field → List Entry
  tops_from i l = top_lines f' gates counts regs bits (tops (decls i false l))

  pub tops_end : (s t : Fields) → Over s t → tops_from s.inside (left s) ≡ []
  unfolding top_lines tops decls
  tops_end s t k = rw (none_left s t k) (go s.inside)
    where
      go : (i : Bool) → tops_from i [] ≡ []
      go true = refl
      go false = refl

  module _ (s t : Fields) (f : Field) (k : Passes s f t) where
    abbrev p : List ℕ
    p = f.payload.now

    -- a statement, up to the place after it
    abbrev Steps : (img : List ℕ) (next : ℕ) → Type 0
    Steps img next = tops_from s.inside (left s) ≡ top_line f' gates counts regs bits (stmt (rest img f.place)) ++ tops_from t.inside (rest t.img.now next)

    pub top_stmt : f.inside ≡ false → is_stmt f.tag ≡ true → (img : List ℕ) → s.img.now ≡ img → (next : ℕ) → rest img next ≡ after (rest img f.place) → Steps img next
    unfolding top_lines tops then
    top_stmt i e img z next a = subst (λ (l : List ℕ). rest l next ≡ after (rest l f.place) → Steps l next) z here a
      where
        here : rest s.img.now next ≡ after (rest s.img.now f.place) → Steps s.img.now next
        here a =
            let n : eqb f.tag 5 ≡ false = ne_eqb f.tag 5 (λ z. let w : is_stmt 5 ≡ true = rw z at e in let z : ◌≡◌ {A = Bool} false true = w in subst T (sym z) tt) in
            rw (k.body, i, n, ← k.inside, i, k.img, a, k.place, head s t f k, first_top f.tag p (left t) e) refl

    pub top_other : (f.inside ≡ false) × (is_stmt f.tag ≡ false) ⊎ (f.inside ≡ true) → tops_from s.inside (left s) ≡ [] ++ tops_from t.inside (left t)
    unfolding tops
    top_other = ⊎_elim
        (λ o. rw (k.body, o.0, ← k.inside, o.0, head s t f k) (first_other (λ ds. top_lines f' gates counts regs bits (tops ds)) (λ sp x ds. refl) f.tag p (left t) (λ c d o ds. refl) (λ g ds. refl) o.1))
        (λ o. rw (k.body, o, ← k.inside, o, head s t f k, first_inside f.tag p (left t)) refl)
