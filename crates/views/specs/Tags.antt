-- To know something of every tag.
use Rattle.std.specs.Prelude.{ℕ, zero, suc, ◌+◌, ◌-◌, ◌<◌, ◌≤◌, ◌≡◌, refl, true, false, List, eqb}
use Rattle.std.proofs.Common.{arith, subst, le-leb, ne_eqb}
use Rattle.std.proofs.Math.Decide.{dec_lt}
use Rattle.std.proofs.lemmas.Bool.{lt-leb}
use Rattle.rules.specs.Syntax.{Field, name_f, include_f, reg_f, end_f, stmt_f}
use Rattle.rules.specs.Items.{le4}
use Rattle.rules.specs.Reading.{is_decl, is_stmt}
use Rattle.views.specs.View.{name_in, operand_in, gate_in, if_in, stmt_in, is_plain, field_in}

-- what the tests make of a tag that stands for no field
pub record Unknown (t : ℕ) : Type 0 where
  pub not1 : eqb t 1 ≡ false
  pub not2 : eqb t 2 ≡ false
  pub not3 : eqb t 3 ≡ false
  pub not4 : eqb t 4 ≡ false
  pub not5 : eqb t 5 ≡ false
  pub not6 : eqb t 6 ≡ false
  pub not22 : eqb t 22 ≡ false
  pub decl : is_decl t ≡ false
  pub stmt : is_stmt t ≡ false
  pub plain : is_plain t ≡ false

unknown_low : (t : ℕ) → t ≡ 0 → Unknown t
unknown_low t e = rw e (record { not1 = refl; not2 = refl; not3 = refl; not4 = refl; not5 = refl; not6 = refl; not22 = refl; decl = refl; stmt = refl; plain = refl })

module _ (t : ℕ) (h : 7 ≤ t) (out : is_stmt t ≡ false) (plain : is_plain t ≡ false) (top : t ≡ 22 → ⊥) where
  unknown_high : Unknown t
  unknown_high = record {
    not1 = ne_eqb t 1 (omega arith);
    not2 = ne_eqb t 2 (omega arith);
    not3 = ne_eqb t 3 (omega arith);
    not4 = ne_eqb t 4 (omega arith);
    not5 = ne_eqb t 5 (omega arith);
    not6 = ne_eqb t 6 (omega arith);
    not22 = ne_eqb t 22 top;
    decl = let e : 5 < t = omega arith in let d : 2 ≤ t = omega arith in rw (le-leb 2 t d, lt-leb t 5 e) refl;
    stmt = out;
    plain = plain;
  }

-- seven numbers in a row
seven : (P : ℕ → Type 0) → P 0 → P 1 → P 2 → P 3 → P 4 → P 5 → P 6 → (i : ℕ) → i < 7 → P i
seven P a b c d e f g zero h = a
seven P a b c d e f g (suc zero) h = b
seven P a b c d e f g (suc (suc zero)) h = c
seven P a b c d e f g (suc (suc (suc zero))) h = d
seven P a b c d e f g (suc (suc (suc (suc zero)))) h = e
seven P a b c d e f g (suc (suc (suc (suc (suc zero))))) h = f
seven P a b c d e f g (suc (suc (suc (suc (suc (suc zero)))))) h = g
seven P a b c d e f g (suc (suc (suc (suc (suc (suc (suc i))))))) h = absurd (omega arith)

module _ (P : ℕ → Type 0) where
  pub by_tag : P 1 → P 2 → P 3 → P 4 → P 5 → P 6 → P 16 → P 17 → P 18 → P 19 → P 20 → P 21 → P 22 → ((t : ℕ) → Unknown t → P t) → (t : ℕ) → P t
  by_tag p₁ p₂ p₃ p₄ p₅ p₆ p₁₆ p₁₇ p₁₈ p₁₉ p₂₀ p₂₁ p₂₂ other t = elim (dec_lt t 7) [
    | yes h ↦ seven P (other 0 (unknown_low 0 refl)) p₁ p₂ p₃ p₄ p₅ p₆ t h
    | no h ↦ elim (dec_lt t 16) [
      | yes k ↦ other t (unknown_high t (omega arith) (rw (lt-leb 16 t k) refl) (rw (lt-leb 16 t k) refl) (omega arith))
      | no k ↦ elim (dec_lt t 23) [
        | yes j ↦
            let e : 16 + (t - 16) ≡ t = omega arith in
            subst P e (seven (λ i. P (16 + i)) p₁₆ p₁₇ p₁₈ p₁₉ p₂₀ p₂₁ p₂₂ (t - 16) (omega arith))
        | no j ↦
            let f : 16 ≤ t = omega arith in
            let g : 22 < t = omega arith in
            let i : 21 < t = omega arith in
            other t (unknown_high t (omega arith) (rw (le-leb 16 t f, lt-leb t 22 g) refl) (rw (le-leb 16 t f, lt-leb t 21 i) refl) (omega arith))
      ]
    ]
  ]

-- a field by the kind of its tag: the statements but IF are all alike, and the rest that no pass looks at
module _ (P : ℕ → Field → Type 0) (s : List ℕ) where
  pub by_kind : ((t : ℕ) → is_plain t ≡ true → P t (stmt_f (stmt_in t s))) → P 22 (if_in s) → P 2 (include_f (le4 s 0) (name_in s 4))
      → P 3 (reg_f false (le4 s 0) (operand_in s 4)) → P 4 (reg_f true (le4 s 0) (operand_in s 4)) → P 5 (gate_in s) → P 6 end_f
      → P 1 (name_f s) → ((t : ℕ) → Unknown t → P t (name_f s)) → (t : ℕ) → P t (field_in t s)
  unfolding field_in
  by_kind plain p₂₂ p₂ p₃ p₄ p₅ p₆ p₁ other =
      by_tag (λ t. P t (field_in t s)) p₁ p₂ p₃ p₄ p₅ p₆ (plain 16 refl) (plain 17 refl) (plain 18 refl) (plain 19 refl) (plain 20 refl) (plain 21 refl) p₂₂
      (λ t k. rw (k.plain, k.not22, k.not2, k.not3, k.not4, k.not5, k.not6) (other t k))
