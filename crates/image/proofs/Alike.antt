-- Where fields end that are read alike: the kind of register, and what is made of operands, do not show in the end.
use Rattle.std.specs.Prelude.{ℕ, ◌≡◌, refl, List, true, false, Result, Ok, Err}
use Rattle.std.proofs.Common.{◌∙◌}
use Rattle.rules.specs.declared.Fault.{Fault}
use Rattle.rules.specs.Syntax.{cx, measure, barrier, reg_f, stmt_f}
use Rattle.rules.specs.Items.{Got, bind, end, times, span, count, operand}
use Rattle.rules.specs.Reading.{reg_field, pair_field}

ends_alike : {A B : Type 0} (g : Got A) (f h : A → B) → end (bind g (λ x m. Ok (f x, m))) ≡ end (bind g (λ x m. Ok (h x, m)))
ends_alike (Err k) f h = refl
ends_alike (Ok r) f h = refl

then_alike : {A B C : Type 0} (g : Got A) (f : A → ℕ → Got B) (h : A → ℕ → Got C) → ((x : A) (m : ℕ) → end (f x m) ≡ end (h x m)) → end (bind g f) ≡ end (bind g h)
then_alike (Err k) f h e = refl
then_alike (Ok r) f h e = e r.0 r.1

as_made : {A B : Type 0} (g : Got A) (f : A → B) → end g ≡ end (bind g (λ x m. Ok (f x, m)))
as_made (Err k) f = refl
as_made (Ok r) f = refl

module _ (n : ℕ) (s : List ℕ) (at : ℕ) where
  pub reg_alike : end (reg_field n false s at) ≡ end (reg_field n true s at)
  unfolding reg_field
  reg_alike = then_alike (span s at) _ _ (λ d m. ends_alike (operand n s m) (reg_f false d) (reg_f true d))

  pub pair_alike : end (pair_field n cx s at) ≡ end (pair_field n measure s at)
  unfolding pair_field
  pair_alike =
      then_alike (span s at) _ _ (λ sp m. then_alike (operand n s m) _ _ (λ x k.
      ends_alike (operand n s k) (λ y. stmt_f (cx sp x y)) (λ y. stmt_f (measure sp x y))))

  pub counted_last : (sp : ℕ) (w : Result ℕ Fault) → w ≡ end (bind (count s at) (λ k. times k (operand n) s))
      → w ≡ end (bind (count s at) (λ k m. bind (times k (operand n) s m) (λ os m. Ok (stmt_f (barrier sp os), m))))
  counted_last sp w e = e ∙ then_alike (count s at) _ _ (λ k m. as_made (times k (operand n) s m) (λ os. stmt_f (barrier sp os)))
