-- Rows read and written.
use mathlib.Core.Path.{◌≡◌, refl, sym, ap, ◌∙◌}
use mathlib.Core.Bool.{Bool, ◌&&◌, ◌||◌, or-false, or_comm}
use mathlib.Core.List.{List}
use Prim.Native.Nat.{ℕ, ◌≤◌, ◌<◌}
use native.Mathlib.Decide.{ℕ_discrete, dec_lt}
use native.Mathlib.Omega.{arith}
use borrow.Author.Tests.{lt-ltb, le-ltb, eq-eqb, ne_eqb}
use lib.ListN.{length, get_or, set, length-set, replicate, length-replicate, get_or-replicate, get_or-eq_default}
use lib.Seq.{get_or-set_same, get_or-set_other}
use lib.Dec.{eqb, ltb}
use Rattle.graph.specs.declared.sets.Set.{Set}
use Rattle.graph.specs.Sets.{holds}
use Rattle.graph.specs.Rows.{row_of, calls, NoCalls, OneMore}
use Rattle.graph.proofs.Holding.{holds_empty}

abbrev empty : Set
empty = record { gates = 0 }

pub no_calls : NoCalls (replicate 128 (record { gates = 0 }))
unfolding calls
no_calls = record { size = length-replicate {A = Set} 128 empty; none = λ a b. ap (λ (s : Set). holds s b) (at a) ∙ holds_empty b }
  where
    at : (a : ℕ) → get_or (replicate 128 empty) a empty ≡ empty
    at a = elim (dec_lt a 128) [
      | yes h ↦ get_or-replicate 128 a empty empty h
      | no h ↦ get_or-eq_default (replicate 128 empty) empty {n = a} (omega (arith, length-replicate {A = Set} 128 empty))
    ]

module _ (t : List Set) (e : length t ≡ 128) where
  row_out : (u : ℕ) → 128 ≤ u → record { gates = 0 } ≡ row_of t u
  row_out u h = sym (get_or-eq_default t empty {n = u} (omega (arith, e)))

  pub row_put : (u : ℕ) (s : Set) → u < 128 → row_of (set t u s) u ≡ s
  row_put u s h = get_or-set_same t u s empty (omega (arith, e))

  -- there are no calls from 128 on
  pub calls_below : (u w : ℕ) → (ltb u 128 && calls t u w) ≡ calls t u w
  unfolding calls
  calls_below u w = elim (dec_lt u 128) [
    | yes h ↦ rw (lt-ltb u 128 h) refl
    | no h ↦ rw (le-ltb u 128 (omega arith)) (sym (ap (λ (s : Set). holds s w) (sym (row_out u (omega arith))) ∙ holds_empty w))
  ]

  pub calls_is : (u w : ℕ) (s : Set) → s ≡ row_of t u → (b : Bool) → b ≡ holds s w → b ≡ (ltb u 128 && calls t u w)
  unfolding calls
  calls_is u w s f b q = q ∙ ap (λ (x : Set). holds x w) f ∙ sym (calls_below u w)

  pub link_in : (u w : ℕ) → u < 128 → (s r : Set) → s ≡ row_of t u → ((k : ℕ) → k < 128 → holds r k ≡ (eqb w k || holds s k)) → OneMore u w t (set t u r)
  unfolding calls
  link_in u w h s r f g = record {
    size = length-set t u r ∙ e;
    now = λ a b x y. elim (ℕ_discrete a u) [
      | yes q ↦
          let row : row_of (set t u r) a ≡ r = ap (row_of (set t u r)) q ∙ row_put u r h in
          ap (λ (z : Set). holds z b) row ∙ g b y ∙ ap (λ (z : Set). eqb w b || holds z b) (f ∙ ap (row_of t) (sym q)) ∙ or_comm (eqb w b) (holds (row_of t a) b)
          ∙ ap (λ (z : Bool). holds (row_of t a) b || (z && eqb w b)) (sym (eq-eqb u a (sym q)))
      | no q ↦
          ap (λ (z : Set). holds z b) (get_or-set_other t u a r empty q) ∙ sym (or-false (holds (row_of t a) b))
          ∙ ap (λ (z : Bool). holds (row_of t a) b || (z && eqb w b)) (sym (ne_eqb u a (λ z. q (sym z))))
    ];
  }
