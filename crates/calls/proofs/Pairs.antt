-- A cycle's field: its pairs of spans.
use mathlib.Core.Path.{◌≡◌, refl, sym, ap, ◌∙◌, subst}
use mathlib.Core.List.{List, [], ◌∷◌, ◌++◌}
use Prim.Native.Nat.{ℕ, ◌+◌, ◌*◌, ◌≤◌, ◌<◌}
use native.Mathlib.Numerals.{add-one}
use native.Mathlib.Omega.{arith}
use lib.ListN.{length, get_or, drop, drop_of_length-le}
use lib.Seq.{drop-cons}
use Rattle.rules.specs.Errors.{error_field, recursive_definition, bytes2, bytes4, pair_bytes}
use Rattle.output.specs.declared.Writer.{Writer}
use Rattle.output.specs.Writers.{Writes, writes_none, writes_then, Field, field_then, field_same, Says, says_one}
use Rattle.calls.specs.Telling.{span_by, pairs_by}

-- ---- pair after pair

-- a loop that writes `all` from w₀ stands at w, with `rest` left to write
abbrev pub Owing : Writer → List ℕ → Writer → List ℕ → Type 0
Owing w₀ all w rest = (w' : Writer) → Writes w rest w' → Writes w₀ all w'

module _ (defs spans cycle : List ℕ) (w₀ : Writer) (all : List ℕ) (u i : ℕ) (w : Writer) (O : Owing w₀ all w (pair_bytes (pairs_by defs spans u (drop i cycle)))) where
  pub pairs_more : i < length cycle → (d s : ℕ) → d ≡ get_or defs (get_or cycle i 0) 0 → s ≡ span_by spans u (get_or cycle i 0)
      → (w₁ w₂ : Writer) → Writes w (bytes4 d) w₁ → Writes w₁ (bytes4 s) w₂ → Owing w₀ all w₂ (pair_bytes (pairs_by defs spans (get_or cycle i 0) (drop (i + 1) cycle)))
  unfolding pair_bytes pairs_by
  pairs_more h d s ed es w₁ w₂ v x w' y =
      let z = subst (λ (j : ℕ). Writes w₂ (pair_bytes (pairs_by defs spans (get_or cycle i 0) (drop j cycle))) w') (add-one i) y in
      O w' (rw (drop-cons cycle i 0 h, ← ed, ← es) (writes_then v (writes_then x z)))

  pub pairs_end : length cycle ≤ i → Writes w₀ all w
  unfolding pair_bytes pairs_by
  pairs_end h = O w (rw (drop_of_length-le cycle h) (writes_none w))

-- ---- the field

pairs_length : (defs spans : List ℕ) (g : ℕ) (l : List ℕ) → length (pair_bytes (pairs_by defs spans g l)) ≡ 8 * length l
unfolding pair_bytes pairs_by
pairs_length defs spans g [] = refl
pairs_length defs spans g (h ∷ l) = let e = pairs_length defs spans h l in omega arith

pub cycle_told : (defs spans : List ℕ) (g : ℕ) (l : List ℕ) (w w₁ w₂ : Writer) (n : ℕ) → n ≡ 8 * length l → Field w (4 ∷ bytes2 n) w₁
    → Writes w₁ (pair_bytes (pairs_by defs spans g l)) w₂ → Says w (recursive_definition (pairs_by defs spans g l) ∷ []) w₂
unfolding error_field
cycle_told defs spans g l w w₁ w₂ n e f v =
    says_one (recursive_definition (pairs_by defs spans g l))
    (field_same (field_then f v) (ap (λ (x : ℕ). 4 ∷ (bytes2 x ++ pair_bytes (pairs_by defs spans g l))) (e ∙ sym (pairs_length defs spans g l))))
