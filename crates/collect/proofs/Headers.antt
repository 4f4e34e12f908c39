-- One header's part in the collection of gates.
use Rattle.std.specs.Prelude.{Option, Some, None}
use mathlib.Core.Path.{◌≡◌, refl, sym, ap, ◌∙◌, subst}
use mathlib.Core.List.{List, [], ◌∷◌, ◌++◌}
use mathlib.Core.Bool.{Bool, true, false}
use mathlib.Core.Logic.{◌⊎◌, inl, inr, ⊎_elim}
use Prim.Native.Nat.{ℕ, suc, ◌+◌, ◌<◌, ◌≤◌}
use native.Mathlib.Omega.{arith}
use native.Mathlib.Decide.{ℕ_discrete, dec_lt}
use native.Mathlib.Nat.{mod-lt}
use native.Mathlib.Numerals.{add-one}
use borrow.Author.Tests.{eq-eqb, ne_eqb, lt-ltb, ltb-true}
use lib.ListN.{length, get_or, set, length-append, length-set, get_or-append}
use lib.Seq.{get_or-append_seam, get_or-set_same, get_or-set_other}
use lib.Dec.{T, eqb, ltb, eqb→eq, eqb_refl, lit<}
use Rattle.rules.specs.declared.Header.{Header}
use Rattle.rules.specs.Basics.{pick, first, first_from}
use Rattle.rules.specs.Errors.{error_field, redefined_gate, redefined_argument, redefined_parameter}
use Rattle.rules.specs.Items.{le2, le4}
use Rattle.rules.specs.Syntax.{Gate, gate}
use Rattle.rules.specs.Checking.{no_gate, gate_at, number_of, is_gate, header_of, header, entered, entries, repeats, decl_errors}
use Rattle.theorems.specs.Search.{first_true, first_least, first_hit, first_only}
use Rattle.views.specs.declared.Field.{Field}
use Rattle.views.specs.declared.Fields.{Fields}
use Rattle.views.specs.View.{name_in, params_in, args_in}
use Rattle.views.specs.Steps.{first_gate, first_not_gate, gate_at_place}
use Rattle.views.specs.Fields.{Passes, Over, left, opened, head_opened, stays_inside, none_opened}
use Rattle.output.specs.declared.Writer.{Writer}
use Rattle.output.specs.Writers.{Says, puts_none, puts_then, Owes, owes_same, owes_less, owes_none}
use Rattle.tables.specs.Tables.{gate_in, row_set, row_set_length, gate_set}
use Rattle.tables.specs.Zeros.{zeros_gate}
use Rattle.collect.specs.declared.Gates.{Gates}
use Rattle.collect.specs.Collected.{left_regs, Holds, GateEntered, HeaderDone, GatesDone}

-- ---- one gate more

module _ (gs : List Gate) (g : Gate) where
  gate_old : (i : ℕ) → i < length gs → gate_at (gs ++ (g ∷ [])) i ≡ gate_at gs i
  gate_old i h = get_or-append gs (g ∷ []) no_gate i h

  gate_new : gate_at (gs ++ (g ∷ [])) (length gs) ≡ g
  gate_new = get_or-append_seam gs g [] no_gate

  more : length (gs ++ (g ∷ [])) ≡ suc (length gs)
  more = length-append gs (g ∷ []) ∙ (let e : length gs + 1 ≡ suc (length gs) = omega arith in e)

  unknown : (x : ℕ) → header gs x ≡ None → (i : ℕ) → i < length gs → (gate_at gs i).name ≡ x → ⊥
  unfolding header is_gate number_of
  unknown x e i h q =
      let l = first_hit (length gs) (λ i. eqb (gate_at gs i).name x) i (subst (λ (y : ℕ). T (eqb (gate_at gs i).name y)) q (eqb_refl (gate_at gs i).name)) in
      let k : first (length gs) (λ i. eqb (gate_at gs i).name x) < length gs = omega arith in
      let z : Some (header_of gs (first (length gs) (λ i. eqb (gate_at gs i).name x))) ≡ None = rw (lt-ltb _ _ k) at e in
      let w : ◌≡◌ {A = ℕ} 0 1 = cc in omega arith

  number_is : (x r : ℕ) → r < length gs → (gate_at gs r).name ≡ x → ((j : ℕ) → j < r → (gate_at gs j).name ≡ x → ⊥) → number_of gs x ≡ r
  unfolding number_of
  number_is x r h e l =
      first_only (length gs) (λ i. eqb (gate_at gs i).name x) r h (subst (λ (y : ℕ). T (eqb (gate_at gs r).name y)) e (eqb_refl (gate_at gs r).name))
      (λ j k t. l j k (eqb→eq (gate_at gs j).name x t))

known_at : (gs : List Gate) (x r : ℕ) → r < length gs → number_of gs x ≡ r → header gs x ≡ Some (header_of gs r)
unfolding header is_gate
known_at gs x r h e = rw (e, lt-ltb r (length gs) h) refl

known_cases : (gs : List Gate) (x : ℕ) → ((number_of gs x < length gs) × ((gate_at gs (number_of gs x)).name ≡ x)) ⊎ (header gs x ≡ None)
unfolding header is_gate number_of
known_cases gs x = go (ltb (first (length gs) (λ i. eqb (gate_at gs i).name x)) (length gs)) refl
  where
    go : (b : Bool) → ltb (first (length gs) (λ i. eqb (gate_at gs i).name x)) (length gs) ≡ b
        → ((first (length gs) (λ i. eqb (gate_at gs i).name x) < length gs) × ((gate_at gs (first (length gs) (λ i. eqb (gate_at gs i).name x))).name ≡ x))
        ⊎ (pick (ltb (first (length gs) (λ i. eqb (gate_at gs i).name x)) (length gs)) (Some (header_of gs (first (length gs) (λ i. eqb (gate_at gs i).name x)))) None ≡ None)
    go true e = let h = ltb-true _ _ e in inl (h, eqb→eq _ x (first_true (length gs) (λ i. eqb (gate_at gs i).name x) h))
    go false e = inr (rw e refl)

not_before : (gs : List Gate) (x j : ℕ) → j < number_of gs x → (gate_at gs j).name ≡ x → ⊥
unfolding number_of
not_before gs x j l q = first_least (length gs) (λ i. eqb (gate_at gs i).name x) j l (subst (λ (y : ℕ). T (eqb (gate_at gs j).name y)) q (eqb_refl (gate_at gs j).name))

-- g entered where its name is not known: the next number is its
module _ (gs : List Gate) (g : Gate) (fresh : header gs g.name ≡ None) where
  abbrev row : Header
  row = record { number = length gs; params = length g.params; args = length g.args; decl = g.decl }

  own : header (gs ++ (g ∷ [])) g.name ≡ Some row
  own =
      let h : length gs < length (gs ++ (g ∷ [])) = omega (arith, more gs g) in
      let n = number_is (gs ++ (g ∷ [])) g g.name (length gs) h (ap (λ x. x.name) (gate_new gs g))
      (λ j l q. unknown gs g g.name fresh j l (ap (λ x. x.name) (sym (gate_old gs g j l)) ∙ q)) in
      known_at (gs ++ (g ∷ [])) g.name (length gs) h n ∙ (rw (gate_new gs g) refl)

  others : (x : ℕ) → (g.name ≡ x → ⊥) → header (gs ++ (g ∷ [])) x ≡ header gs x
  others x ne = ⊎_elim (λ k. same k) (λ u. none u) (known_cases gs x)
    where
      same : (number_of gs x < length gs) × ((gate_at gs (number_of gs x)).name ≡ x) → header (gs ++ (g ∷ [])) x ≡ header gs x
      same k =
          let r : ℕ = number_of gs x in
          let h : r < length (gs ++ (g ∷ [])) = omega (arith, more gs g, k.0) in
          let n = number_is (gs ++ (g ∷ [])) g x r h (ap (λ y. y.name) (gate_old gs g r k.0) ∙ k.1)
          (λ j l q. earlier_not j l (ap (λ y. y.name) (sym (gate_old gs g j (omega (arith, k.0)))) ∙ q)) in
          known_at (gs ++ (g ∷ [])) x r h n ∙ (rw (gate_old gs g r k.0) refl) ∙ sym (known_at gs x r k.0 refl)
        where
          earlier_not : (j : ℕ) → j < number_of gs x → (gate_at gs j).name ≡ x → ⊥
          earlier_not j l q = not_before gs x j l q

      none : header gs x ≡ None → header (gs ++ (g ∷ [])) x ≡ header gs x
      none u = ⊎_elim (λ k. absurd (there k)) (λ v. v ∙ sym u) (known_cases (gs ++ (g ∷ [])) x)
        where
          there : (number_of (gs ++ (g ∷ [])) x < length (gs ++ (g ∷ []))) × ((gate_at (gs ++ (g ∷ [])) (number_of (gs ++ (g ∷ [])) x)).name ≡ x) → ⊥
          there k = elim (dec_lt (number_of (gs ++ (g ∷ [])) x) (length gs)) [
            | yes l ↦ unknown gs g x u _ l (ap (λ y. y.name) (sym (gate_old gs g _ l)) ∙ k.1)
            | no l ↦
                let e : number_of (gs ++ (g ∷ [])) x ≡ length gs = omega (arith, more gs g, k.0) in
                ne (ap (λ y. y.name) (sym (gate_new gs g)) ∙ ap (λ (n : ℕ). (gate_at (gs ++ (g ∷ [])) n).name) (sym e) ∙ k.1)
          ]

  header_snoc : (x : ℕ) → header (gs ++ (g ∷ [])) x ≡ pick (eqb g.name x) (Some row) (header gs x)
  header_snoc x = elim (ℕ_discrete g.name x) [
    | yes e ↦ rw (eq-eqb g.name x e, ← e) own
    | no e ↦ rw (ne_eqb g.name x e) (others x e)
  ]

  -- and so in the tables
  pub held_more : (t defs : List ℕ) (count : ℕ) → count ≡ length gs → Holds gs t defs → g.name < 512
      → (t' defs' : List ℕ) → t' ≡ row_set t g.name (suc count ∷ length g.params ∷ length g.args ∷ g.decl ∷ []) → defs' ≡ set defs count g.decl
      → Holds (gs ++ (g ∷ [])) t' defs'
  held_more t defs count ec h small t' defs' et ed = record {
    full = ap length et ∙ row_set_length t g.name _ ∙ h.full;
    heads = λ x.
        let here : gate_in t' x ≡ pick (eqb g.name x) (Some row) (gate_in t x) = rw (et, gate_set t h.full g.name small count (length g.params) (length g.args) g.decl x, ec) refl in
        header_snoc x ∙ ap (λ z. pick (eqb g.name x) (Some row) z) (h.heads x) ∙ sym here;
    spans = λ i l k. elim (dec_lt i (length gs)) [
      | yes m ↦ rw (ed, get_or-set_other defs count i g.decl 0 (λ q. omega arith), gate_old gs g i m) (h.spans i m (rw (← length-set defs count g.decl) (rw ed at k)))
      | no m ↦
          let e : i ≡ length gs = omega (arith, more gs g) in
          let q : count < length defs = omega (arith, length-set defs count g.decl, ap length ed) in
          rw (ed, e, gate_new gs g, ← ec) (get_or-set_same defs count g.decl 0 q)
    ];
  }

known_is : (gs : List Gate) (x : ℕ) (h : Header) → header gs x ≡ Some h → is_gate gs x ≡ true
unfolding header
known_is gs x h e = go (is_gate gs x) refl
  where
    go : (c : Bool) → is_gate gs x ≡ c → is_gate gs x ≡ true
    go true f = f
    go false f = let z : None ≡ Some h = rw f at e in let w : ◌≡◌ {A = ℕ} 0 1 = cc in absurd (omega arith)

unknown_is : (gs : List Gate) (x : ℕ) → header gs x ≡ None → is_gate gs x ≡ false
unfolding header
unknown_is gs x e = go (is_gate gs x) refl
  where
    go : (c : Bool) → is_gate gs x ≡ c → is_gate gs x ≡ false
    go false f = f
    go true f = let z : Some (header_of gs (number_of gs x)) ≡ None = rw f at e in let w : ◌≡◌ {A = ℕ} 0 1 = cc in absurd (omega arith)

-- ---- a header

pub gate_entered : (p : List ℕ) (g : Gates) (d : ℕ) → (d ≡ le4 p 0) × (d < 4294967296) → {w w₁ w₂ : Writer} → Says w (repeats redefined_argument d [] (args_in p)) w₁ → Says w₁ (repeats redefined_parameter d [] (params_in p)) w₂
    → (n k : ℕ) → n ≡ length (params_in p) → k ≡ length (args_in p) → (x : ℕ) → (x ≡ name_in p 8) × (x < 512)
    → (t' : List ℕ) → t' ≡ row_set g.rows x ((g.count + 1) ∷ n ∷ k ∷ d ∷ []) → (defs' : List ℕ) → defs' ≡ set g.defs g.count d
    → GateEntered p g w (record { rows = t'; defs = defs'; count = g.count + 1 }) w₂
gate_entered p g d ed v w n k en ek x ex t' et defs' es = record {
  said = rw (← ed.0) (puts_then error_field v w);
  row = et ∙ (rw (ed.0, en, ek, ex.0, add-one g.count) refl);
  span = es ∙ (rw ed.0 refl);
  count = add-one g.count;
}

module _ (p : List ℕ) (g : Gates) (x : ℕ) (ex : (x ≡ name_in p 8) × (x < 512)) (f : Option Header) (ef : f ≡ gate_in g.rows x) where
  pub header_known : (h : Header) → f ≡ Some h → (sp d : ℕ) → (sp ≡ le4 p 4) × (sp < 4294967296) → (d ≡ le4 p 0) × (d < 4294967296) → (w w' : Writer)
      → Says w (redefined_gate sp x d h.decl ∷ []) w' → HeaderDone p g w g w'
  unfolding gate_at_place entered
  header_known h q sp d es ed w w' says = record {
    said = λ l. rw (← ex.0, ← ef, q, ← es.0, ← ed.0) says;
    held = λ gs l ec hold.
        let e : is_gate gs (name_in p 8) ≡ true = known_is gs (name_in p 8) h (hold.heads (name_in p 8) ∙ (rw (← ex.0) (sym ef ∙ q))) in
        (rw e hold, rw e ec);
    few = omega arith;
    long = refl;
  }

  pub header_new : f ≡ None → (w : Writer) (g' : Gates) (w' : Writer) → GateEntered p g w g' w' → HeaderDone p g w g' w'
  unfolding gate_at_place entered
  header_new q w g' w' made = record {
    said = λ l. rw (← ex.0, ← ef, q) made.said;
    held = λ gs l ec hold.
        let u : header gs (name_in p 8) ≡ None = hold.heads (name_in p 8) ∙ (rw (← ex.0) (sym ef ∙ q)) in
        let e : is_gate gs (name_in p 8) ≡ false = unknown_is gs (name_in p 8) u in (
          rw e (held_more gs (gate_at_place p l) u g.rows g.defs g.count ec hold (mod-lt (le2 p 8) (lit< tt)) g'.rows g'.defs made.row made.span),
          rw e (made.count ∙ ap suc ec ∙ sym (more gs (gate_at_place p l))),
        );
    few = omega (arith, made.count);
    long = ap length made.span ∙ length-set g.defs g.count (le4 p 0);
  }

-- ---- the loop over the fields

-- what a collection that began at w₀ owes where the iterator stands at s
pub record DeclsOwed (img : List ℕ) (w₀ : Writer) (s : Fields) (w : Writer) (g : Gates) : Type 0 where
  pub spans : length g.defs ≡ 128
  pub found : List Gate
  pub holds : Holds found g.rows g.defs
  pub owes : Owes error_field w₀ (decl_errors [] (left_regs img false 0)) w (decl_errors found (opened s))
  pub listed : entries found (opened s) ≡ entries [] (left_regs img false 0)
  pub counted : g.count ≡ length found
  pub few : g.count ≤ s.at
  pub whole : s.img.now ≡ img

pub decls_start : (img t defs : List ℕ) (w : Writer) (s : Fields) → opened s ≡ left_regs img false 0 → s.img.now ≡ img → length t ≡ 2048 → ((i : ℕ) → get_or t i 0 ≡ 0) → length defs ≡ 128
    → DeclsOwed img w s w (record { rows = t; defs = defs; count = 0 })
unfolding header is_gate number_of first first_from
decls_start img t defs w s e whole full zero_all spans = record {
  spans = spans;
  found = [];
  holds = record { full = full; heads = λ x. (none_known x) ∙ sym (zeros_gate t zero_all x); spans = λ i h k. absurd (omega arith) };
  owes = owes_same error_field w (ap (decl_errors []) (sym e));
  listed = ap (entries []) e;
  counted = refl;
  few = omega arith;
  whole = whole;
}
  where
    none_known : (x : ℕ) → header [] x ≡ None
    none_known x = refl

module _ (img : List ℕ) (w₀ : Writer) (s t : Fields) (f : Field) (w : Writer) (g : Gates) (o : DeclsOwed img w₀ s w g) (k : Passes s f t) where
  decls_on : ((gs : List Gate) → decl_errors gs (opened s) ≡ decl_errors gs (opened t)) → ((gs : List Gate) → entries gs (opened s) ≡ entries gs (opened t)) → DeclsOwed img w₀ t w g
  decls_on q l = record {
    spans = o.spans;
    found = o.found;
    holds = o.holds;
    owes = owes_less error_field o.owes (q o.found) (puts_none error_field w);
    listed = sym (l o.found) ∙ o.listed;
    counted = o.counted;
    few = omega (arith, o.few, k.within, k.next);
    whole = ap (λ x. x.now) k.img ∙ o.whole;
  }

  pub decls_inside : f.inside ≡ true → DeclsOwed img w₀ t w g
  decls_inside e = let h = stays_inside s t f k e in decls_on (λ gs. ap (decl_errors gs) h) (λ gs. ap (entries gs) h)

  pub decls_other : f.inside ≡ false → (f.tag ≡ 5 → ⊥) → DeclsOwed img w₀ t w g
  unfolding decl_errors entries
  decls_other e n =
      decls_on
      (λ gs. rw (head_opened s t f k, k.body, e) (first_not_gate (decl_errors gs) (λ sp x ds. refl) f.tag f.payload.now (left t) (λ x ds. refl) (λ c d o ds. refl) n))
      (λ gs. rw (head_opened s t f k, k.body, e) (first_not_gate (entries gs) (λ sp x ds. refl) f.tag f.payload.now (left t) (λ x ds. refl) (λ c d o ds. refl) n))

  pub decls_header : f.inside ≡ false → f.tag ≡ 5 → (g' : Gates) (w' : Writer) → HeaderDone f.payload.now g w g' w' → DeclsOwed img w₀ t w' g'
  unfolding decl_errors entries gate_at_place
  decls_header e n g' w' x =
      let p : List ℕ = f.payload.now in
      let here : opened s ≡ gate (gate_at_place p (left t)) ∷ opened t = rw (head_opened s t f k, k.body, e) (first_gate f.tag p (left t) n) in
      let a = x.held o.found (left t) o.counted o.holds in
      record {
        spans = x.long ∙ o.spans;
        found = entered o.found (gate_at_place p (left t));
        holds = a.0;
        owes = owes_less error_field o.owes (rw (here, o.holds.heads (name_in p 8)) refl) (x.said (left t));
        listed = rw here at o.listed;
        counted = a.1;
        few = omega (arith, x.few, o.few, k.within, k.next);
        whole = ap (λ x. x.now) k.img ∙ o.whole;
      }

pub decls_done : (img : List ℕ) (w₀ : Writer) (s t : Fields) (w : Writer) (g : Gates) → DeclsOwed img w₀ s w g → Over s t → GatesDone img w₀ w g
unfolding decl_errors entries
decls_done img w₀ s t w g o k =
    let e = none_opened s t k in
    let f : o.found ≡ entries [] (left_regs img false 0) = ap (entries o.found) (sym e) ∙ o.listed in
    record {
      said = owes_none error_field o.owes (ap (decl_errors o.found) e);
      holds = subst (λ (l : List Gate). Holds l g.rows g.defs) f o.holds;
      count = o.counted ∙ ap length f;
      spans = o.spans;
    }
