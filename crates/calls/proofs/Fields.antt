-- What a field adds to the calls, for any fields.
use mathlib.Core.Path.{◌≡◌, refl, ap, ◌∙◌, subst}
use mathlib.Core.Bool.{Bool, true, false}
use mathlib.Core.List.{List, [], ◌∷◌, ◌++◌, append_assoc}
use Prim.Native.Nat.{ℕ}
use native.Mathlib.Decide.{ℕ_discrete}
use native.Mathlib.Omega.{arith}
use borrow.Author.Tests.{ne_eqb}
use lib.ListN.{get_or}
use lib.Dec.{T, eqb}
use Rattle.rules.specs.Basics.{pick}
use Rattle.rules.specs.Syntax.{Gate, Field, name_f, include_f, reg_f, gate_f, end_f, stmt_f, if_f}
use Rattle.rules.specs.Grouping.{stmt, stmts, body_of, decls}
use Rattle.rules.specs.Checking.{number_of}
use Rattle.rules.specs.Calls.{Call, stmt_calls, stmts_calls, body_calls, decl_calls}
use Rattle.views.specs.View.{name_in, call_in, u_in, barrier_in, gate_in, if_in, stmt_in, is_plain, field_in}
use Rattle.views.specs.Tags.{by_tag}
use Rattle.views.specs.Steps.{then, gate_at_place, first_end, first_inside, first_gate, first_not_gate}
use Rattle.views.specs.Fields.{Passes, Over, left, head, head_opened, none_left}
use Rattle.views.specs.declared.Field as declared
use Rattle.views.specs.declared.Fields.{Fields}
use Rattle.calls.specs.Collecting.{calls_in, calls_from}

-- ---- a body: a CALL counts where it stands, also under IFs

governed : (gs : List Gate) (g : ℕ) (l : List Field) → stmt_calls gs g (stmt l) ++ stmts_calls gs g (stmts true l) ≡ stmts_calls gs g (stmts false l)
unfolding stmt_calls stmts_calls stmt stmts
governed gs g [] = refl
governed gs g (name_f x ∷ l) = refl
governed gs g (include_f sp x ∷ l) = refl
governed gs g (reg_f c d o ∷ l) = refl
governed gs g (gate_f d sp x b ps qs ∷ l) = refl
governed gs g (end_f ∷ l) = refl
governed gs g (stmt_f s ∷ l) = refl
governed gs g (if_f sp o vs v ∷ l) = refl

module _ (gs : List Gate) (g : ℕ) (p : List ℕ) (l : List Field) where
  -- the calls of a body that begins with a field other than END
  abbrev Begins : ℕ → Type 0
  Begins t = (t ≡ 6 → ⊥) → stmts_calls gs g (stmts false (field_in t p ∷ l)) ≡ pick (eqb t 21) (stmt_calls gs g (call_in p)) [] ++ stmts_calls gs g (stmts false l)

  begins : (t : ℕ) → Begins t
  unfolding stmt_calls stmts_calls stmts field_in stmt_in u_in barrier_in gate_in if_in
  begins =
      by_tag Begins (λ n. refl) (λ n. refl) (λ n. refl) (λ n. refl) (λ n. refl) (λ n. absurd (n refl)) (λ n. refl) (λ n. refl) (λ n. refl) (λ n. refl) (λ n. refl) (λ n. refl)
      (λ n. governed gs g l)
      (λ t k n. rw (k.plain, k.not22, k.not2, k.not3, k.not4, k.not5, k.not6, ne_eqb t 21 (λ q. subst T (subst (λ (x : ℕ). is_plain x ≡ false) q k.plain) tt)) refl)

-- ---- the calls that are left, after one field

module _ (gs : List Gate) (from : ℕ) (s t : Fields) (f : declared.Field) (k : Passes s f t) where
  abbrev p : List ℕ
  p = f.payload.now

  abbrev l : List Field
  l = left t

  -- in a body
  body_turn : f.inside ≡ true → (f.tag ≡ 6 → ⊥) → calls_from gs from s ≡ pick (eqb f.tag 21) (stmt_calls gs from (call_in p)) [] ++ calls_from gs from t
  unfolding calls_from then
  body_turn i n =
      rw (head_opened s t f k, head s t f k, ← k.inside, k.body, i, begins gs from p l f.tag n, first_inside f.tag p l, ne_eqb f.tag 6 n)
      (append_assoc (pick (eqb f.tag 21) (stmt_calls gs from (call_in p)) []) (stmts_calls gs from (stmts false l)) (decl_calls gs (decls true false l)))

  pub call_turn : f.inside ≡ true → f.tag ≡ 21 → calls_from gs from s ≡ stmt_calls gs from (call_in p) ++ calls_from gs from t
  call_turn i e = body_turn i (λ q. absurd (omega (arith, q, e))) ∙ rw e refl

  pub skip_turn : f.inside ≡ true → (f.tag ≡ 21 → ⊥) → calls_from gs from s ≡ calls_from gs from t
  unfolding calls_from then stmts_calls
  skip_turn i n = elim (ℕ_discrete f.tag 6) [
    | yes q ↦ rw (head_opened s t f k, head s t f k, ← k.inside, k.body, i, first_end f.tag p l q, first_inside f.tag p l, q) refl
    | no q ↦ rw (ne_eqb f.tag 21 n) at body_turn i q
  ]

  -- between bodies
  body_calls_lem : (g : ℕ) (c : Bool) → body_calls gs g (body_of c l) ≡ pick c (stmts_calls gs g (stmts false l)) []
  body_calls_lem g true = refl
  body_calls_lem g false = refl

  pub gate_turn : f.inside ≡ false → f.tag ≡ 5 → (to : ℕ) → to ≡ number_of gs (name_in p 8) → calls_from gs from s ≡ calls_from gs to t
  unfolding calls_from then decl_calls gate_at_place
  gate_turn i e to q =
      rw (head_opened s t f k, head s t f k, ← k.inside, k.body, i, first_gate f.tag p l e, e, q)
      (ap (λ (x : List Call). x ++ decl_calls gs (decls (eqb (get_or p 10 0) 1) false l)) (body_calls_lem (number_of gs (name_in p 8)) (eqb (get_or p 10 0) 1)))

  pub rest_turn : f.inside ≡ false → (f.tag ≡ 5 → ⊥) → calls_from gs from s ≡ calls_from gs from t
  unfolding calls_from then decl_calls
  rest_turn i n =
      rw (head_opened s t f k, head s t f k, ← k.inside, k.body, i, first_not_gate (decl_calls gs) (λ sp x ds. refl) f.tag p l (λ s ds. refl) (λ c d o ds. refl) n, ne_eqb f.tag 5 n) refl

pub calls_start : (gs : List Gate) (from : ℕ) (s : Fields) → s.inside ≡ false → s.at ≡ 0 → calls_in gs s.img.now ≡ calls_from gs from s
unfolding calls_in calls_from
calls_start gs from s i e = rw (i, e) refl

pub calls_end : (gs : List Gate) (from : ℕ) (s t : Fields) → Over s t → calls_from gs from s ≡ []
unfolding calls_from stmts_calls stmts decl_calls decls
calls_end gs from s t k = rw (none_left s t k) (go s.inside)
  where
    go : (i : Bool) → pick i [] [] ++ decl_calls gs (decls i false []) ≡ []
    go true = refl
    go false = refl
