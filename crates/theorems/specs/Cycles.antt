-- The cycle that is shown for a group.
use Rattle.std.specs.Prelude.{◌≡◌, Bool, ◌&&◌, T, length}
use Rattle.std.proofs.Math.Path.{refl, ap, subst}
use Rattle.std.proofs.Common.{sym, ◌∙◌, arith}
use Rattle.std.proofs.Math.Logic.{inl, inr}
use mathlib.Core.List.{List, [], ◌∷◌}
use Prim.Native.Nat.{ℕ, zero, suc, ◌≤◌}
use Rattle.std.proofs.Math.Decide.{ℕ_discrete}
use Rattle.rules.specs.Basics.{first}
use Rattle.rules.specs.Graph.{walks, way, cycle}
use Rattle.theorems.specs.Words.{Walk, Within, Reach, Chain, NotAfter}
use Rattle.theorems.specs.Search.{and_T, T_and, first_true, first_hit}
use Rattle.theorems.specs.Walks.{short_reach}
use Rattle.theorems.specs.Groups.{walks_walk, walk_walks}

module _ (n : ℕ) (E : ℕ → ℕ → Bool) (within : Within n E) where
  chain_walk : (u : ℕ) (ws : List ℕ) (v : ℕ) → Chain E u ws v → Walk E (length ws) u v
  chain_walk u [] v c = c
  chain_walk u (w ∷ ws) v c = (w, c.0, chain_walk w ws v c.1)

  -- w can be the next gate after u on a way of k + 1 steps to g
  abbrev next : (g k u w : ℕ) → Bool
  next g k u w = E u w && walks n E k w g

  next_hit : (g k u w : ℕ) → T (E u w) → Walk E k w g → first n (next g k u) ≤ w
  next_hit g k u w e p = first_hit n (next g k u) w (T_and (E u w) (walks n E k w g) e (walk_walks n E within k w g p))

  way_chain : (g k u : ℕ) → Walk E k u g → Chain E u (way n E g k u) g
  unfolding way
  way_chain g zero u p = p
  way_chain g (suc k) u (w, e, p) =
      let f : ℕ = first n (next g k u) in
      let a = and_T (E u f) (walks n E k f g) (first_true n (next g k u) (omega (arith, next_hit g k u w e p, within u w e))) in
      (a.0, way_chain g k f (walks_walk n E k f g a.1))

  way_length : (g k u : ℕ) → length (way n E g k u) ≡ k
  unfolding way
  way_length g zero u = refl
  way_length g (suc k) u = ap suc (way_length g k (first n (next g k u)))

  way_lowest : (g u : ℕ) (ws : List ℕ) → Chain E u ws g → NotAfter (way n E g (length ws) u) ws
  unfolding way
  way_lowest g u [] c = tt
  way_lowest g u (w ∷ ws) (e, c) =
      let f : ℕ = first n (next g (length ws) u) in
      let l = next_hit g (length ws) u w e (chain_walk w ws g c) in
      elim (ℕ_discrete f w) [
        | yes q ↦ inr (q, subst (λ (x : ℕ). NotAfter (way n E g (length ws) x) ws) (sym q) (way_lowest g w ws c))
        | no q ↦ inl (omega arith)
      ]

  -- the least k such that g comes back to itself in k + 1 calls
  abbrev lap : ℕ → ℕ
  lap g = first n (λ k. walks n E (suc k) g g)

  pub cycle_length : (g : ℕ) → length (cycle n E g) ≡ suc (lap g)
  unfolding cycle
  cycle_length g = way_length g (suc (lap g)) g

  pub cycle_chain : (g : ℕ) → Reach E g g → Chain E g (cycle n E g) g
  unfolding cycle
  cycle_chain g r =
      let s = short_reach E n within g g r in
      let l : lap g ≤ s.0 = first_hit n (λ k. walks n E (suc k) g g) s.0 (walk_walks n E within (suc s.0) g g s.2) in
      way_chain g (suc (lap g)) g (walks_walk n E (suc (lap g)) g g (first_true n (λ k. walks n E (suc k) g g) (omega (arith, s.1))))

  pub cycle_shortest : (g w : ℕ) (ws : List ℕ) → Chain E g (w ∷ ws) g → length (cycle n E g) ≤ length (w ∷ ws)
  cycle_shortest g w ws c =
      let t = walk_walks n E within (suc (length ws)) g g (chain_walk g (w ∷ ws) g c) in
      omega (arith, cycle_length g, first_hit n (λ k. walks n E (suc k) g g) (length ws) t)

  pub cycle_lowest : (g : ℕ) (ws : List ℕ) → Chain E g ws g → length ws ≡ length (cycle n E g) → NotAfter (cycle n E g) ws
  unfolding cycle
  cycle_lowest g ws c e = subst (λ (x : ℕ). NotAfter (way n E g x g) ws) (e ∙ cycle_length g) (way_lowest g g ws c)
