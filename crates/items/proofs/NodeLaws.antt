-- The ways out of making a node.
use Prim.Native.Nat.{ℕ, ◌+◌, ◌≤◌, min}
use native.Mathlib.Omega.{arith}
use mathlib.Core.Path.{◌≡◌, refl, sym, ap, ◌∙◌}
use mathlib.Core.List.{List}
use mathlib.Core.Bool.{Bool, true, false}
use borrow.Author.Tests.{leb-true, leb-false}
use lib.Dec.{leb}
use lib.ListN.{length, get_or}
use lib.Ieee.{Float, is_nan, nan, inf, fin}
use Rattle.rules.specs.Items.{le2, le4, le8}
use Rattle.items.specs.declared.nodes.Node.{Node}
use Rattle.items.specs.Node.{node_of, node_at}
use Rattle.items.proofs.Numbers.{zero_2, zero_4, zero_8}

-- a value that is a NaN is the one NaN
pub the_nan : (v : Float) → is_nan v ≡ true → nan ≡ v
unfolding is_nan
the_nan nan p = cc
the_nan (inf s) p = cc
the_nan (fin s m e) p = cc

-- what counts as 0 past the end is the same where a place past the end is cut to it
cut : (f : List ℕ → ℕ → ℕ) (s : List ℕ) → ((i : ℕ) → length s ≤ i → f s i ≡ 0) → (i r : ℕ) → r ≡ min i (length s) → f s r ≡ f s i
cut f s zeros i r e = go (leb i (length s)) refl
  where
    go : (b : Bool) → leb i (length s) ≡ b → f s r ≡ f s i
    go true t = let q : r ≡ i = omega (arith, leb-true) in ap (f s) q
    go false t = zeros r (omega (arith, leb-false)) ∙ sym (zeros i (omega (arith, leb-false)))

pub node_cut : (o : ℕ) (s : List ℕ) (at r : ℕ) (n : Node) → r ≡ min (at + 5) (length s) → o ≡ get_or s at 0 → n ≡ node_of o s r → n ≡ node_at s at
unfolding node_at node_of
node_cut o s at r n e f g =
    let two = cut (λ l i. le2 l i) s (zero_2 s) (at + 5) r e in
    let four = cut (λ l i. le4 l i) s (zero_4 s) (at + 5) r e in
    let eight = cut (λ l i. le8 l i) s (zero_8 s) (at + 5) r e in
    rw (← f) (g ∙ rw (eight, four, two))
