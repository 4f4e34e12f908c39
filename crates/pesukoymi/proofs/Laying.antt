-- An answer's bytes laid at the front of a slice.
use mathlib.Core.Path.{◌≡◌, refl, ap, ◌∙◌}
use mathlib.Core.List.{List, ◌++◌}
use Prim.Native.Nat.{ℕ, ◌≤◌}
use native.Mathlib.Omega.{arith}
use lib.ListN.{length, drop}
use Rattle.rules.specs.declared.Answer.{Answer}
use Rattle.rules.specs.Errors.{bytes8}
use Rattle.rules.specs.Answers.{Result, number, values, answer_bytes}
use Rattle.output.specs.declared.Writer.{Writer}
use Rattle.output.specs.Sinks.{start}
use Rattle.output.specs.Writers.{Writes, writes_then}
use Rattle.checks.specs.Served.{Gives, laid}
use Rattle.pesukoymi.specs.Boundary.{Called}

pub answer_put : (a : Answer) (w w₁ w₂ w₃ : Writer) (x y z : ℕ) → x ≡ number a → y ≡ (values a).0 → z ≡ (values a).1
    → Writes w (bytes8 x) w₁ → Writes w₁ (bytes8 y) w₂ → Writes w₂ (bytes8 z) w₃ → Writes w (answer_bytes a) w₃
unfolding answer_bytes
answer_put a w w₁ w₂ w₃ x y z ex ey ez v₁ v₂ v₃ = rw (← ex, ← ey, ← ez) (writes_then v₁ (writes_then v₂ v₃))

answer_long : (a : Answer) → length (answer_bytes a) ≡ 24
unfolding answer_bytes
answer_long a = refl

pub called_long : (x : Result) (out answer out' : List ℕ) (a : Answer) (w₀ w : Writer) → 24 ≤ length answer → length answer ≤ 18446744073709551615 → Gives x out' a
    → w₀.out.now ≡ answer → w₀.sink ≡ start → Writes w₀ (answer_bytes a) w → (answer' : List ℕ) → answer' ≡ w.out.now → Called x out answer out' answer'
called_long x out answer out' a w₀ w h fits g eo es v answer' e = record {
  short = λ k. absurd (omega arith);
  long = λ k. (g.buffer, e ∙ put ∙ ap (λ z. answer_bytes z ++ drop 24 answer) g.answer);
}
  where
    put : w.out.now ≡ answer_bytes a ++ drop 24 answer
    put =
        let q = laid answer (answer_bytes a) (rw (answer_long a) h) in
        v.wrote.buffer (rw eo fits) ∙ rw (eo, es) (rw (answer_long a) at q)
