-- What the operand rule leaves, told back, and what two operands come to.
use Rattle.std.specs.Prelude.{None}
use mathlib.Core.Path.{◌≡◌, refl, sym, ap, ◌∙◌}
use mathlib.Core.List.{List, [], ◌∷◌, ◌++◌, append-nil}
use Prim.Native.Nat.{ℕ}
use native.Mathlib.Omega.{arith}
use Rattle.rules.specs.declared.Match.{Match}
use Rattle.rules.specs.Errors.{Error, error_field}
use Rattle.rules.specs.Checking.{Asked, Sized, size, bad, assert_reg, unfixed, fixed, differs, match_errors}
use Rattle.output.specs.declared.Writer.{Writer}
use Rattle.output.specs.Writers.{Says, puts_then, puts_same}
use Rattle.tables.specs.Tables.{reg_in}
use Rattle.asserts.specs.Sizes.{size_left}

pub left_bad : (z : Sized) → None ≡ size_left z → (e : Error) × (z ≡ bad e)
left_bad (size n) p = let q : ◌≡◌ {A = ℕ} 0 1 = cc in absurd (omega arith)
left_bad (bad e) p = (e, refl)

module _ (t : List ℕ) (stmt : ℕ) (qa qb : Asked) {m₁ m₂ : Match} {w w₁ w₂ : Writer} where
  pub match_pair : m₁ ≡ fixed unfixed (assert_reg (reg_in t) stmt qa) qa.operand.span → Says w (differs m₁ stmt (assert_reg (reg_in t) stmt qa) qa.operand.span) w₁
      → m₂ ≡ fixed m₁ (assert_reg (reg_in t) stmt qb) qb.operand.span → Says w₁ (differs m₂ stmt (assert_reg (reg_in t) stmt qb) qb.operand.span) w₂
      → Says w (match_errors (reg_in t) stmt unfixed (qa ∷ qb ∷ [])) w₂
  unfolding match_errors
  match_pair e h f k =
      puts_same error_field (puts_then error_field h k)
      (ap (λ l. differs m₁ stmt (assert_reg (reg_in t) stmt qa) qa.operand.span ++ l) (sym (append-nil (differs m₂ stmt (assert_reg (reg_in t) stmt qb) qb.operand.span))) ∙ (rw (f, e) refl))
