-- Groups and their leaders: the rules' tests say what they mean of walks.
use Rattle.std.specs.Prelude.{◌≡◌, refl, Bool, not, ◌&&◌, List, [], ◌∷◌, eqb}
use Rattle.std.proofs.Math.Path.{subst}
use Rattle.std.proofs.Common.{inl, arith}
use Prim.Native.Nat.{ℕ, zero, suc, ◌≤◌, ◌<◌, zero-le}
use Rattle.std.proofs.Math.Dec.{T, eqb→eq, eqb_refl, not_T, T_not}
use Rattle.rules.specs.Basics.{first, any}
use Rattle.rules.specs.Graph.{walks, reaches, leads, leaders}
use Rattle.theorems.specs.Words.{Walk, Within, Reach, Together, Lowest, Acyclic, In, Rising}
use Rattle.theorems.specs.Search.{and_T, T_and, first_true, first_least, first_hit, any_some, any_of, those_rising, those_pass, pass_those}
use Rattle.theorems.specs.Walks.{reach_trans, short_reach}

module _ (n : ℕ) (E : ℕ → ℕ → Bool) where
  pub walks_walk : (k u v : ℕ) → T (walks n E k u v) → Walk E k u v
  unfolding walks
  walks_walk zero u v t = eqb→eq u v t
  walks_walk (suc k) u v t =
      let s = any_some n (λ w. E u w && walks n E k w v) t in
      let a = and_T (E u s.0) (walks n E k s.0 v) s.2 in
      (s.0, a.0, walks_walk k s.0 v a.1)

  -- the test for one group
  abbrev grouped : ℕ → ℕ → Bool
  grouped g h = reaches n E g h && reaches n E h g

  pub reaches_reach : (u v : ℕ) → T (reaches n E u v) → Reach E u v
  unfolding reaches
  reaches_reach u v t = let s = any_some n (λ k. walks n E (suc k) u v) t in (s.0, walks_walk (suc s.0) u v s.2)

  pub leaders_rise : Rising 0 (leaders n E)
  unfolding leaders
  leaders_rise = those_rising n 0 (leads n E)

  module _ (within : Within n E) where
    pub walk_walks : (k u v : ℕ) → Walk E k u v → T (walks n E k u v)
    unfolding walks
    walk_walks zero u v p = subst (λ (x : ℕ). T (eqb u x)) p (eqb_refl u)
    walk_walks (suc k) u v p =
        any_of n (λ w. E u w && walks n E k w v) p.0 (within u p.0 p.1).1
        (T_and (E u p.0) (walks n E k p.0 v) p.1 (walk_walks k p.0 v p.2))

    pub reach_reaches : (u v : ℕ) → Reach E u v → T (reaches n E u v)
    unfolding reaches
    reach_reaches u v r =
        let s = short_reach E n within u v r in
        any_of n (λ k. walks n E (suc k) u v) s.0 s.1 (walk_walks (suc s.0) u v s.2)

    grouped_together : (g h : ℕ) → T (grouped g h) → Together E g h
    grouped_together g h t = let a = and_T (reaches n E g h) (reaches n E h g) t in (reaches_reach g h a.0, reaches_reach h g a.1)

    together_grouped : (g h : ℕ) → Together E g h → T (grouped g h)
    together_grouped g h m = T_and (reaches n E g h) (reaches n E h g) (reach_reaches g h m.0) (reach_reaches h g m.1)

    -- a gate leads where it is the lowest of its group
    pub leads_lowest : (g : ℕ) → T (leads n E g) → Lowest E g
    unfolding leads
    leads_lowest g t =
        let a = and_T (reaches n E g g) (not (any g (grouped g))) t in
        (reaches_reach g g a.0, λ h l m. T_not (any g (grouped g)) a.1 (any_of g (grouped g) h l (together_grouped g h m)))

    pub lowest_leads : (g : ℕ) → Lowest E g → T (leads n E g)
    unfolding leads
    lowest_leads g (r, l) =
        T_and (reaches n E g g) (not (any g (grouped g))) (reach_reaches g g r)
        (not_T (any g (grouped g)) (λ t. let s = any_some g (grouped g) t in l s.0 s.1 (grouped_together g s.0 s.2)))

    -- the leaders are just the lowest gates of their groups
    pub listed_lowest : (g : ℕ) → In g (leaders n E) → (g < n) × Lowest E g
    unfolding leaders
    listed_lowest g i = let a = those_pass n 0 (leads n E) g i in (omega (arith, a.1), leads_lowest g a.2)

    lowest_listed : (g : ℕ) → Lowest E g → In g (leaders n E)
    unfolding leaders
    lowest_listed g l =
        let b = within g l.0.1.0 l.0.1.1 in
        pass_those n 0 (leads n E) g zero-le (omega arith) (lowest_leads g l)

    -- each gate that reaches itself has a leader in its group, and two leaders of one group are one
    has_leader : (g : ℕ) → Reach E g g → (h : ℕ) × In h (leaders n E) × Together E g h
    has_leader g r =
        let b = within g r.1.0 r.1.1 in
        let h : ℕ = first n (grouped g) in
        let l : h ≤ g = first_hit n (grouped g) g (together_grouped g g (r, r)) in
        let m = grouped_together g h (first_true n (grouped g) (omega arith)) in
        let low : (x : ℕ) → x < h → Together E h x → ⊥ = λ x q k.
        first_least n (grouped g) x q (together_grouped g x (reach_trans E g h x m.0 k.0, reach_trans E x h g k.1 m.1)) in
        (h, lowest_listed h (reach_trans E h g h m.1 m.0, low), m)

    one_leader : (g h : ℕ) → In g (leaders n E) → In h (leaders n E) → Together E g h → g ≡ h
    one_leader g h a b m =
        let x : ¬ (h < g) = λ l. (listed_lowest g a).1.1 h l m in
        let y : ¬ (g < h) = λ l. (listed_lowest h b).1.1 g l (m.1, m.0) in
        omega arith

    pub exactly_one : (g : ℕ) → Reach E g g → (h : ℕ) × In h (leaders n E) × Together E g h × ((k : ℕ) → In k (leaders n E) → Together E g k → k ≡ h)
    exactly_one g r =
        let l = has_leader g r in
        let same : (k : ℕ) → In k (leaders n E) → Together E g k → k ≡ l.0 = λ k i m.
        one_leader k l.0 i l.1 (reach_trans E k g l.0 m.1 l.2.0, reach_trans E l.0 g k l.2.1 m.0) in
        (l.0, l.1, l.2, same)

    pub no_leaders : leaders n E ≡ [] → Acyclic E
    no_leaders e g r = let h = has_leader g r in subst (In h.0) e h.1

    pub none_leads : Acyclic E → leaders n E ≡ []
    none_leads a = go (leaders n E) (λ g i. a g (listed_lowest g i).1.0)
      where
        go : (l : List ℕ) → ((g : ℕ) → In g l → ⊥) → l ≡ []
        go [] h = refl
        go (x ∷ xs) h = absurd (h x (inl refl))
