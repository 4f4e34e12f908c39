-- Calls put into the rows, one after another.
use Rattle.std.specs.Prelude.{Option, Some, None, option_map, unwrap_or}
use mathlib.Core.Path.{◌≡◌, refl, sym, ap, ◌∙◌, subst}
use mathlib.Core.Logic.{◌≢◌}
use mathlib.Core.Bool.{Bool, true, false, ◌&&◌, ◌||◌, or-false, or-true, or_assoc, and-false}
use mathlib.Core.List.{List, [], ◌∷◌, ◌++◌}
use Prim.Native.Nat.{ℕ, ◌+◌, ◌*◌, ◌≤◌, ◌<◌}
use native.Mathlib.Decide.{ℕ_discrete}
use native.Mathlib.Omega.{arith}
use borrow.Author.Tests.{lt-ltb, eq-eqb, ne_eqb, ltb-false}
use lib.ListN.{length, get_or, set, length-set}
use lib.Seq.{get_or-set_same, get_or-set_other}
use lib.Dec.{T, eqb, ltb}
use Rattle.rules.specs.declared.Header.{Header}
use Rattle.rules.specs.Basics.{pick, first}
use Rattle.rules.specs.Items.{le4}
use Rattle.rules.specs.Syntax.{Gate}
use Rattle.rules.specs.Checking.{gate_at, number_of, is_gate, header_of, header}
use Rattle.rules.specs.Calls.{Call, stmt_calls, between, edge, earliest}
use Rattle.theorems.specs.Search.{first_le, pick_same}
use Rattle.views.specs.View.{name_in, call_in}
use Rattle.graph.specs.declared.sets.Set.{Set}
use Rattle.graph.specs.Rows.{calls, NoCalls, OneMore}
use Rattle.calls.specs.declared.Calls.{Calls}
use Rattle.calls.specs.Collecting.{Numbered, named, Added, Has}

-- ---- the number of a name

module _ (gates : List ℕ) (gs : List Gate) (n : ℕ) (N : Numbered gates n gs) (x : ℕ) where
  -- by the rules' own words
  by_number : named gates x ≡ pick (is_gate gs x) (Some (number_of gs x)) None
  unfolding header
  by_number = ap (option_map (λ (h : Header). h.number)) (sym (N.known x)) ∙ go (is_gate gs x)
    where
      go : (b : Bool) → option_map (λ (h : Header). h.number) (pick b (Some (header_of gs (number_of gs x))) None) ≡ pick b (Some (number_of gs x)) None
      go true = refl
      go false = refl

  -- n stands for none
  pub named_or : unwrap_or (named gates x) n ≡ number_of gs x
  unfolding is_gate number_of
  named_or = ap (λ (r : Option ℕ). unwrap_or r n) by_number ∙ go (ltb (number_of gs x) (length gs)) refl
    where
      go : (b : Bool) → ltb (first (length gs) (λ i. eqb (gate_at gs i).name x)) (length gs) ≡ b
          → unwrap_or (pick b (Some (first (length gs) (λ i. eqb (gate_at gs i).name x))) None) n ≡ first (length gs) (λ i. eqb (gate_at gs i).name x)
      go true e = refl
      go false e =
          let l = ltb-false (first (length gs) (λ i. eqb (gate_at gs i).name x)) (length gs) e in
          omega (arith, first_le (length gs) (λ i. eqb (gate_at gs i).name x), N.count)

-- ---- one call

pub added_none : (c : Calls) → Added [] c c
unfolding edge
added_none c = record {
  long = refl;
  rows = λ a b x y. sym (or-false (calls c.graph.rows a b));
  spans = λ r a b x y. sym (pick_same (calls c.graph.rows a b) (get_or c.spans.now (128 * a + b) 0));
}

module _ (u w sp : ℕ) (c : Calls) where
  abbrev one : Call
  one = record { from = u; to = w; span = sp }

  abbrev t : List Set
  t = c.graph.rows

  abbrev s : List ℕ
  s = c.spans.now

  -- by and of other gates
  other : (a b : ℕ) → (a ≡ u → b ≡ w → ⊥) → between one a b ≡ false
  other a b f = elim (ℕ_discrete u a) [
    | yes p ↦ elim (ℕ_discrete w b) [ yes q ↦ absurd (f (sym p) (sym q)) | no q ↦ rw (ne_eqb w b q) (and-false (eqb u a)) ]
    | no p ↦ rw (ne_eqb u a p) refl
  ]

  itself : between one u w ≡ true
  itself = rw (eq-eqb u u refl, eq-eqb w w refl) refl

  keeps : (c' : Calls) → length c'.spans.now ≡ length s
      → ((a b : ℕ) → a < 128 → b < 128 → (a ≡ u → b ≡ w → ⊥)
      → (calls c'.graph.rows a b ≡ calls t a b) × (16384 ≤ length s → get_or c'.spans.now (128 * a + b) 0 ≡ get_or s (128 * a + b) 0))
      → (u < 128 → w < 128
      → (calls c'.graph.rows u w ≡ true) × (16384 ≤ length s → get_or c'.spans.now (128 * u + w) 0 ≡ pick (calls t u w) (get_or s (128 * u + w) 0) sp))
      → Added (one ∷ []) c c'
  unfolding edge earliest
  keeps c' long old new = record {
    long = long;
    rows = λ a b x y. elim (ℕ_discrete a u) [
      | yes p ↦ elim (ℕ_discrete b w) [
        | yes q ↦ rw (p, q, itself, (new (rw p at x) (rw q at y)).0) (sym (or-true (calls t u w)))
        | no q ↦ apart a b x y (λ _ z. q z)
      ]
      | no p ↦ apart a b x y (λ z _. p z)
    ];
    spans = λ r a b x y. elim (ℕ_discrete a u) [
      | yes p ↦ elim (ℕ_discrete b w) [
        | yes q ↦ rw (p, q, itself) ((new (rw p at x) (rw q at y)).1 r)
        | no q ↦ rw (other a b (λ _ z. q z)) ((old a b x y (λ _ z. q z)).1 r ∙ sym (pick_same (calls t a b) (get_or s (128 * a + b) 0)))
      ]
      | no p ↦ rw (other a b (λ z _. p z)) ((old a b x y (λ z _. p z)).1 r ∙ sym (pick_same (calls t a b) (get_or s (128 * a + b) 0)))
    ];
  }
    where
      apart : (a b : ℕ) → a < 128 → b < 128 → (a ≡ u → b ≡ w → ⊥) → calls c'.graph.rows a b ≡ (calls t a b || (between one a b || false))
      apart a b x y f = rw (other a b f) ((old a b x y f).0 ∙ sym (or-false (calls t a b)))

  pub add_out : 128 ≤ u → Added (one ∷ []) c c
  add_out h = keeps c refl (λ a b x y f. (refl, λ r. refl)) (λ x y. absurd (omega arith))

  pub add_past : 128 ≤ w → Added (one ∷ []) c c
  add_past h = keeps c refl (λ a b x y f. (refl, λ r. refl)) (λ x y. absurd (omega arith))

  module _ (h : u < 128) (k : w < 128) (d : Bool) (q : d ≡ (ltb u 128 && calls t u w)) where
    was : d ≡ calls t u w
    was = q ∙ (rw (lt-ltb u 128 h) refl)

    pub add_had : d ≡ true → Added (one ∷ []) c c
    add_had e = keeps c refl (λ a b x y f. (refl, λ r. refl)) (λ x y. (sym was ∙ e, λ r. rw (← was, e) refl))

    pub add_new : d ≡ false → (c' : Calls) → c'.spans.now ≡ set s (128 * u + w) sp → OneMore u w t c'.graph.rows → Added (one ∷ []) c c'
    add_new e c' g O =
        keeps c' (ap length g ∙ length-set s (128 * u + w) sp)
        (λ a b x y f. (
          O.now a b x y ∙ ap (λ (z : Bool). calls t a b || z) (other a b f) ∙ or-false (calls t a b),
          λ r.
              let n : 128 * a + b ≢ 128 * u + w = λ z. f (omega arith) (omega arith) in
              ap (λ (l : List ℕ). get_or l (128 * a + b) 0) g ∙ get_or-set_other s (128 * u + w) (128 * a + b) sp 0 n,
        ))
        (λ x y. (
          O.now u w x y ∙ ap (λ (z : Bool). calls t u w || z) itself ∙ or-true (calls t u w),
          λ r.
              rw (← was, e) (ap (λ (l : List ℕ). get_or l (128 * u + w) 0) g ∙ get_or-set_same s (128 * u + w) sp 0 (omega arith)),
        ))

-- ---- the CALL of a field

module _ (p gates : List ℕ) (from : ℕ) (c : Calls) (r : Option ℕ) (e : r ≡ named gates (name_in p 8)) where
  abbrev by : ℕ → List Call
  by to = record { from = from; to = to; span = le4 p 0 } ∷ []

  call_pick : (n : ℕ) (gs : List Gate) → Numbered gates n gs → stmt_calls gs from (call_in p) ≡ unwrap_or (option_map by r) []
  unfolding stmt_calls call_in
  call_pick n gs N = rw (e, by_number gates gs n N (name_in p 8)) (go (is_gate gs (name_in p 8)))
    where
      go : (b : Bool) → pick b (by (number_of gs (name_in p 8))) [] ≡ unwrap_or (option_map by (pick b (Some (number_of gs (name_in p 8))) None)) []
      go true = refl
      go false = refl

  pub call_some : (to : ℕ) → r ≡ Some to → (sp : ℕ) → sp ≡ le4 p 0 → (c' : Calls) → Added (record { from = from; to = to; span = sp } ∷ []) c c'
      → (n : ℕ) (gs : List Gate) → Numbered gates n gs → Added (stmt_calls gs from (call_in p)) c c'
  call_some to q sp es c' A n gs N = rw (call_pick n gs N, q, ← es) A

  pub call_none : r ≡ None → (n : ℕ) (gs : List Gate) → Numbered gates n gs → Added (stmt_calls gs from (call_in p)) c c
  call_none q n gs N = rw (call_pick n gs N, q) (added_none c)

-- ---- calls one after another

edge_append : (cs ds : List Call) (a b : ℕ) → edge (cs ++ ds) a b ≡ (edge cs a b || edge ds a b)
unfolding edge
edge_append [] ds a b = refl
edge_append (c ∷ cs) ds a b = ap (λ (x : Bool). between c a b || x) (edge_append cs ds a b) ∙ sym (or_assoc (between c a b) (edge cs a b) (edge ds a b))

earliest_append : (cs ds : List Call) (a b : ℕ) → earliest (cs ++ ds) a b ≡ pick (edge cs a b) (earliest cs a b) (earliest ds a b)
unfolding edge earliest
earliest_append [] ds a b = refl
earliest_append (c ∷ cs) ds a b = go (between c a b) (earliest_append cs ds a b)
  where
    go : (x : Bool) → earliest (cs ++ ds) a b ≡ pick (edge cs a b) (earliest cs a b) (earliest ds a b)
        → pick x c.span (earliest (cs ++ ds) a b) ≡ pick (x || edge cs a b) (pick x c.span (earliest cs a b)) (earliest ds a b)
    go true e = refl
    go false e = e

-- of the calls `all`, those in `rest` were not met yet
pub record Left (all rest : List Call) (c : Calls) : Type 0 where
  pub rows : (a b : ℕ) → a < 128 → b < 128 → (calls c.graph.rows a b || edge rest a b) ≡ edge all a b
  pub spans : 16384 ≤ length c.spans.now → (a b : ℕ) → a < 128 → b < 128 → pick (calls c.graph.rows a b) (get_or c.spans.now (128 * a + b) 0) (earliest rest a b) ≡ earliest all a b

pub left_all : (all rest : List Call) (c : Calls) → all ≡ rest → NoCalls c.graph.rows → Left all rest c
left_all all rest c e N = record {
  rows = λ a b x y. rw (N.none a b) (ap (λ (l : List Call). edge l a b) (sym e));
  spans = λ r a b x y. rw (N.none a b) (ap (λ (l : List Call). earliest l a b) (sym e));
}

pub left_as : {all rest ds : List Call} {c : Calls} → Left all rest c → rest ≡ ds → Left all ds c
left_as L e = rw (← e) L

pub left_less : {all rest cs ds : List Call} {c c' : Calls} → Left all rest c → rest ≡ cs ++ ds → Added cs c c' → Left all ds c'
left_less {all} {rest} {cs} {ds} {c} {c'} L e A = record {
  rows = λ a b x y.
      ap (λ (z : Bool). z || edge ds a b) (A.rows a b x y) ∙ or_assoc (calls t a b) (edge cs a b) (edge ds a b)
      ∙ ap (λ (z : Bool). calls t a b || z) (sym (ap (λ (l : List Call). edge l a b) e ∙ edge_append cs ds a b)) ∙ L.rows a b x y;
  spans = λ r a b x y.
      let room : 16384 ≤ length s = omega (arith, A.long) in
      rw (A.rows a b x y, A.spans room a b x y)
      (go (calls t a b) (edge cs a b) (get_or s (128 * a + b) 0) (earliest cs a b) (earliest ds a b)
      ∙ ap (λ (z : ℕ). pick (calls t a b) (get_or s (128 * a + b) 0) z) (sym (ap (λ (l : List Call). earliest l a b) e ∙ earliest_append cs ds a b)) ∙ L.spans room a b x y);
}
  where
    t : List Set
    t = c.graph.rows

    s : List ℕ
    s = c.spans.now

    go : (x y : Bool) (v w z : ℕ) → pick (x || y) (pick x v (pick y w v)) z ≡ pick x v (pick y w z)
    go true y v w z = refl
    go false true v w z = refl
    go false false v w z = refl

pub left_none : (all rest : List Call) (c : Calls) (s : List ℕ) → c.spans.now ≡ s → Left all rest c → rest ≡ [] → Has all c.graph.rows s
unfolding edge earliest
left_none all rest c s es L e = record {
  size = c.graph.wide;
  rows = rows;
  spans = rw (← es) (λ r a b x y o.
      sym (ap (λ (z : Bool). pick z (get_or c.spans.now (128 * a + b) 0) (earliest [] a b)) (on (calls c.graph.rows a b) (subst T (sym (rows a b x y)) o)))
      ∙ ap (λ (l : List Call). pick (calls c.graph.rows a b) (get_or c.spans.now (128 * a + b) 0) (earliest l a b)) (sym e) ∙ L.spans r a b x y);
}
  where
    rows : (a b : ℕ) → a < 128 → b < 128 → calls c.graph.rows a b ≡ edge all a b
    rows a b x y = sym (or-false (calls c.graph.rows a b)) ∙ ap (λ (l : List Call). calls c.graph.rows a b || edge l a b) (sym e) ∙ L.rows a b x y

    on : (x : Bool) → T x → x ≡ true
    on true o = refl
    on false o = absurd o
