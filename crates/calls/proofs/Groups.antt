-- The groups' errors: what the tables of the code say is what the rules say.
use mathlib.Core.Path.{◌≡◌, refl, sym, ap, ◌∙◌, subst, fun_ext}
use mathlib.Core.Logic.{inl, inr}
use mathlib.Core.Bool.{Bool, true, false}
use mathlib.Core.List.{List, [], ◌∷◌, map}
use Prim.Native.Nat.{ℕ, zero, suc, ◌+◌, ◌*◌, ◌≤◌, ◌<◌}
use native.Mathlib.Nat.{not-suc-le-zero, le_of_suc-le-suc}
use native.Mathlib.Decide.{dec_lt}
use native.Mathlib.Numerals.{add-one}
use native.Mathlib.Omega.{arith}
use borrow.Author.Tests.{lt-ltb, le-ltb}
use lib.ListN.{length, get_or, take, drop, drop_of_length-le}
use lib.Seq.{drop-cons, length-take-le}
use lib.Dec.{T, ltb}
use Rattle.rules.specs.Basics.{pick}
use Rattle.rules.specs.Syntax.{Gate}
use Rattle.rules.specs.Errors.{Error, error_field, recursive_definition}
use Rattle.rules.specs.Graph.{reaches, leaders, cycle}
use Rattle.rules.specs.Order.{order}
use Rattle.rules.specs.Calls.{Call, edge, earliest, pairs, group_error, recursion_errors}
use Rattle.theorems.specs.Words.{In, Chain, Within}
use Rattle.theorems.specs.Groups.{reaches_reach, reach_reaches, listed_lowest}
use Rattle.theorems.specs.Cycles.{cycle_chain}
use Rattle.output.specs.declared.Writer.{Writer}
use Rattle.output.specs.Writers.{Says, puts_none, Owes, owes_all, owes_less, owes_none}
use Rattle.graph.specs.declared.gates.Gates.{Gates}
use Rattle.graph.specs.Rows.{linked, listed}
use Rattle.graph.specs.declared.sets.Set.{Set}
use Rattle.calls.specs.declared.Tables.{Tables}
use Rattle.calls.specs.Collecting.{Numbered, Has}
use Rattle.calls.specs.Telling.{span_by, pairs_by, Defined, Shown}

-- ---- the graph

pub same_graph : (n : ℕ) (cs : List Call) (t : List Set) (s : List ℕ) → n ≤ 128 → Within n (edge cs) → Has cs t s → linked n t ≡ edge cs
unfolding linked
same_graph n cs t s small within H = fun_ext (λ u. fun_ext (λ w. elim (dec_lt u n) [
  | yes a ↦ elim (dec_lt w n) [
    | yes b ↦ rw (lt-ltb u n a, lt-ltb w n b) (H.rows u w (omega arith) (omega arith))
    | no b ↦ rw (lt-ltb u n a, le-ltb w n (omega arith)) (sym (none u w (λ o. b (within u w o).1)))
  ]
  | no a ↦ rw (le-ltb u n (omega arith)) (sym (none u w (λ o. a (within u w o).0)))
]))
  where
    none : (u w : ℕ) → (T (edge cs u w) → ⊥) → edge cs u w ≡ false
    none u w f = go (edge cs u w) f
      where
        go : (b : Bool) → (T b → ⊥) → b ≡ false
        go true f = absurd (f tt)
        go false f = refl

module _ (n : ℕ) (cs : List Call) (t : List Set) (s : List ℕ) (small : n ≤ 128) (within : Within n (edge cs)) (H : Has cs t s) where
  pub same_order : order n (linked n t) ≡ order n (edge cs)
  same_order = ap (order n) (same_graph n cs t s small within H)

  pub same_leaders : leaders n (linked n t) ≡ leaders n (edge cs)
  same_leaders = ap (leaders n) (same_graph n cs t s small within H)

-- ---- a group

pub listed_length : (c : Gates) → length c.gates ≡ 128 → (row : List ℕ) → row ≡ listed c → c.count ≡ length row
listed_length c size row e = rw (e, length-take-le c.count c.gates (omega (arith, size, c.fits))) refl

module _ (gs : List Gate) (cs : List Call) (t : Tables) (S : Shown gs cs t) where
  abbrev n : ℕ
  n = t.n

  abbrev defs : List ℕ
  defs = t.defs.now

  abbrev spans : List ℕ
  spans = t.spans.now

  -- along calls, the tables show the pairs
  same_pairs : (g : ℕ) (hs : List ℕ) (v : ℕ) → Chain (edge cs) g hs v → pairs_by defs spans g hs ≡ pairs gs cs g hs
  unfolding pairs_by pairs span_by
  same_pairs g [] v c = refl
  same_pairs g (h ∷ hs) v (e, c) =
      let b = S.within g h e in
      let x : g < 128 = omega (arith, S.defined.few, b.0) in
      let y : h < 128 = omega (arith, S.defined.few, b.1) in
      let p : pick (ltb g 128) (pick (ltb h 128) (get_or spans (128 * g + h) 0) 0) 0 ≡ earliest cs g h = rw (lt-ltb g 128 x, lt-ltb h 128 y) (S.has.spans S.room g h x y e) in
      rw (S.defined.decl h b.1, p, same_pairs h hs v c) refl

  group_same : (g : ℕ) → T (reaches n (edge cs) g g) → (hs : List ℕ) → hs ≡ cycle n (edge cs) g → recursive_definition (pairs_by defs spans g hs) ≡ group_error gs cs g
  unfolding group_error
  group_same g r hs e =
      ap recursive_definition
      (ap (pairs_by defs spans g) e
      ∙ same_pairs g (cycle n (edge cs) g) g (cycle_chain n (edge cs) S.within g (reaches_reach n (edge cs) g g r))
      ∙ ap (λ (k : ℕ). pairs gs cs g (cycle k (edge cs) g)) S.count)

  same : linked n t.graph.now.rows ≡ edge cs
  same = same_graph n cs t.graph.now.rows spans S.defined.few S.within S.has

  pub group_told : (g : ℕ) (c : Gates) → (n ≤ 128 → g < n → T (reaches n (linked n t.graph.now.rows) g g) → listed c ≡ cycle n (linked n t.graph.now.rows) g)
      → g < n → T (reaches n (edge cs) g g) → (row : List ℕ) → row ≡ listed c → (w w' : Writer) → Says w (recursive_definition (pairs_by defs spans g row) ∷ []) w' → Says w (group_error gs cs g ∷ []) w'
  group_told g c f h r row e w w' k =
      let q : row ≡ cycle n (edge cs) g = e ∙ f S.defined.few h (subst (λ (x : ℕ → ℕ → Bool). T (reaches n x g g)) (sym same) r) ∙ ap (λ (x : ℕ → ℕ → Bool). cycle n x g) same in
      rw (← group_same g r row q) k

-- ---- all groups

in_at : (l : List ℕ) (i : ℕ) → i < length l → In (get_or l i 0) l
in_at [] i h = absurd (not-suc-le-zero h)
in_at (x ∷ l) zero h = inl refl
in_at (x ∷ l) (suc i) h = inr (in_at l i (le_of_suc-le-suc h))

module _ (gs : List Gate) (cs : List Call) (t : Tables) (S : Shown gs cs t) (l : List ℕ) (lead : l ≡ leaders t.n (edge cs)) where
  -- the groups from place i on
  abbrev from : ℕ → List Error
  from i = map (group_error gs cs) (drop i l)

  pub groups_start : (w : Writer) → Owes error_field w (recursion_errors gs cs) w (from 0)
  unfolding recursion_errors
  groups_start w = rw (lead, S.count) (owes_all error_field w (map (group_error gs cs) (leaders (length gs) (edge cs))))

  module _ (i : ℕ) where
    module _ (h : i < length l) where
      pub group_leads : (get_or l i 0 < t.n) × T (reaches t.n (edge cs) (get_or l i 0) (get_or l i 0))
      group_leads =
          let g : ℕ = get_or l i 0 in
          let a = listed_lowest t.n (edge cs) S.within g (subst (In g) lead (in_at l i h)) in
          (a.0, reach_reaches t.n (edge cs) S.within g g a.1.0)

      pub groups_more : (w₀ w w₁ : Writer) → Owes error_field w₀ (recursion_errors gs cs) w (from i) → Says w (group_error gs cs (get_or l i 0) ∷ []) w₁ → Owes error_field w₀ (recursion_errors gs cs) w₁ (from (i + 1))
      groups_more w₀ w w₁ O k = owes_less error_field O (rw (drop-cons l i 0 h, add-one i) refl) k

    pub groups_end : length l ≤ i → (w₀ w : Writer) → Owes error_field w₀ (recursion_errors gs cs) w (from i) → Says w₀ (recursion_errors gs cs) w
    groups_end h w₀ w O = owes_none error_field O (rw (drop_of_length-le l {i = i} h) refl)

-- no group
pub none_told : (gs : List Gate) (cs : List Call) (n : ℕ) (gates defs : List ℕ) (t : List Set) → Numbered gates n gs → Defined defs n gs → Within n (edge cs) → {s : List ℕ} → Has cs t s
    → (lowest : Gates) → lowest.count ≡ 0 → listed lowest ≡ leaders n (linked n t) → (w : Writer) → Says w (recursion_errors gs cs) w
unfolding recursion_errors
none_told gs cs n gates defs t N D within {s} H lowest e L w =
    let none : leaders (length gs) (edge cs) ≡ [] = ap (λ (k : ℕ). leaders k (edge cs)) (sym N.count) ∙ sym (L ∙ same_leaders n cs t s D.few within H) ∙ ap (λ (k : ℕ). take k lowest.gates) e in
    rw none (puts_none error_field w)
