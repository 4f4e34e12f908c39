-- What the parts of a statement come to.
use mathlib.Core.Path.{◌≡◌, refl, sym, ap, ◌∙◌, subst}
use mathlib.Core.List.{List, [], ◌∷◌, append-nil}
use mathlib.Core.Bool.{Bool, true, false}
use Prim.Native.Nat.{ℕ, zero, suc, ◌+◌, ◌*◌, ◌<◌, ◌≤◌}
use native.Mathlib.Omega.{arith}
use native.Mathlib.Nat.{mul-suc}
use borrow.Author.Tests.{le-leb, leb-true}
use lib.ListN.{length, get_or}
use lib.Dec.{T, leb}
use Rattle.rules.specs.declared.Operand.{Operand}
use Rattle.rules.specs.Items.{le4}
use Rattle.rules.specs.Errors.{error_field}
use Rattle.rules.specs.Reading.{is_stmt, load_at}
use Rattle.rules.specs.Grouping.{stmt}
use Rattle.rules.specs.Checking.{Asked, assert_reg, sized_errors, operand_errors, unfixed, matched, match_errors, exprs_errors, stmt_errors}
use Rattle.views.specs.View.{operand_in, row_in, row_past, expr_past, exprs_in, u_in, stmt_in, is_plain, next_in, rest_end}
use Rattle.views.specs.Steps.{after, plain_stmt, none_stmt}
use Rattle.output.specs.declared.Writer.{Writer}
use Rattle.output.specs.Writers.{Says, puts_none, puts_then}
use Rattle.tables.specs.Tables.{reg_in, param_in, scope_in}
use Rattle.asserts.specs.Sizes.{asked}
use Rattle.typing.specs.Checked.{Done}

-- how long rows are, and where they end
pub row_place : (k at : ℕ) → row_past 15 k at ≡ at + 15 * k
unfolding row_past
row_place zero at = omega arith
row_place (suc k) at = row_place k (at + 15) ∙ (let e : at + 15 + 15 * k ≡ at + 15 * suc k = omega (arith, mul-suc 15 k) in e)

pub row_length : (k : ℕ) (p : List ℕ) (at : ℕ) → length (row_in operand_in 15 k p at) ≡ k
unfolding row_in
row_length zero p at = refl
row_length (suc k) p at = ap suc (row_length k p (at + 15))

pub exprs_length : (k : ℕ) (p : List ℕ) (at : ℕ) → length (exprs_in k p at) ≡ k
unfolding exprs_in
exprs_length zero p at = refl
exprs_length (suc k) p at = ap suc (exprs_length k p (expr_past 64 p at))

-- U: its operand, then its expressions
pub u_said : (gates regs p : List ℕ) (w : Writer) (sp : ℕ) → (sp ≡ le4 p 0) × (sp < 4294967296) → (o : Operand) → o ≡ operand_in p 4 → (w₁ : Writer)
    → Says w (sized_errors (assert_reg (reg_in regs) sp (asked false o))) w₁ → (w₂ : Writer) → Says w₁ (exprs_errors (param_in regs) sp (exprs_in 3 p 19)) w₂
    → Says w (stmt_errors (scope_in gates regs) (u_in p)) w₂
unfolding stmt_errors scope_in u_in operand_errors exprs_in
u_said gates regs p w sp es o eo w₁ v w₂ x = rw (← es.0, ← eo, append-nil) (puts_then error_field v x)

pub ruleset u_laws = (u_said)

-- two operands, and their matching
pub pair_said : (regs : List ℕ) (sp : ℕ) (x y : Asked) {w w₁ w₂ w₃ : Writer} → Says w (sized_errors (assert_reg (reg_in regs) sp x)) w₁ → Says w₁ (sized_errors (assert_reg (reg_in regs) sp y)) w₂
    → Says w₂ (match_errors (reg_in regs) sp unfixed (x ∷ y ∷ [])) w₃ → Says w (matched (reg_in regs) sp (x ∷ y ∷ [])) w₃
unfolding operand_errors
pair_said regs sp x y u v m = rw append-nil (puts_then error_field (puts_then error_field u v) m)

-- ---- the statement at a place

stmt_plain : (t : ℕ) → is_stmt t ≡ true → (t ≡ 22 → ⊥) → is_plain t ≡ true
stmt_plain t e n = go (leb 16 t) refl (leb t 22) refl
  where
    go : (c : Bool) → leb 16 t ≡ c → (d : Bool) → leb t 22 ≡ d → is_plain t ≡ true
    go true f true g = let h : t ≤ 22 = leb-true t 22 g in let k : t ≤ 21 = omega arith in rw (f, le-leb t 21 k) refl
    go true f false g = let z : ◌≡◌ {A = Bool} false true = rw (f, g) at e in absurd (subst T (sym z) tt)
    go false f d g = let z : ◌≡◌ {A = Bool} false true = rw f at e in absurd (subst T (sym z) tt)

module _ (gates regs img : List ℕ) (at : ℕ) (w : Writer) where
  pub done_end : length img ≤ at → Done gates regs img at w w (length img)
  unfolding stmt_errors stmt after
  done_end h = record {
    said = rw (rest_end img at h) (puts_none error_field w);
    left = rw (rest_end img at h, rest_end img (length img) (omega arith)) refl;
    inside = omega arith;
    on = λ k. k;
    past = λ l e. absurd (omega arith);
  }

  module _ (h : at < length img) (t : ℕ) (et : (t ≡ get_or img at 0) × (t < 256)) (p : List ℕ) (ep : p ≡ load_at img at) (n : ℕ) (en : n ≡ next_in img at) where
    pub done_plain : (t ≡ 22 → ⊥) → (k : Bool) → k ≡ is_stmt t → k ≡ true → (w' : Writer) → Says w (stmt_errors (scope_in gates regs) (stmt_in t p)) w' → Done gates regs img at w w' n
    done_plain unlike k ek there w' x =
        let e = plain_stmt img at t n p h et.0 ep en (stmt_plain t (sym ek ∙ there) unlike) in
        record { said = rw e.0 x; left = sym e.1; inside = omega arith; on = λ l. omega arith; past = λ l q. omega arith }

    pub done_none : (k : Bool) → k ≡ is_stmt t → k ≡ false → Done gates regs img at w w at
    unfolding stmt_errors
    done_none k ek none =
        let e = none_stmt img at t n p h et.0 ep en (sym ek ∙ none) in
        record { said = rw e.0 (puts_none error_field w); left = sym e.1; inside = omega arith; on = λ l. omega arith; past = λ l q. absurd (subst T (sym q ∙ ap is_stmt (sym et.0) ∙ sym ek ∙ none) tt) }

pub ruleset done_laws = (done_end, done_plain, done_none)
