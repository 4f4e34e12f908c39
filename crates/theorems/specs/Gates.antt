-- The first entries of a program's gates, and their numbers.
use Rattle.std.specs.Prelude.{◌≡◌, refl, ◌⊎◌, Bool, true, false, ℕ, ◌+◌, ◌≤◌, ◌<◌, T, eqb, length, Some, None}
use Rattle.std.proofs.Common.{sym, ap, ◌∙◌, subst, inl, inr, zero-le, le_refl, not-suc-le-zero, arith, eqb→eq, ltb→lt, lt→ltb, length-append}
use mathlib.Core.List.{List, [], ◌∷◌, ◌++◌, cons≢nil}
use Rattle.std.proofs.Math.Decide.{dec_lt}
use Rattle.std.proofs.Math.Dec.{eqb_refl}
use Rattle.std.proofs.Math.ListN.{get_or-append}
use Rattle.std.proofs.lemmas.List.{get_or_at}
use Rattle.rules.specs.Basics.{pick, first}
use Rattle.rules.specs.Syntax.{Gate, Decl, include, reg, gate, top, Program}
use Rattle.rules.specs.Checking.{no_gate, gate_at, number_of, is_gate, header_of, header, entered, entries, gates_of, header_errors, decl_errors}
use Rattle.theorems.specs.Search.{nil_parts, first_true, first_hit}

-- ---- the number of a name

pub number_of_lem : (gs : List Gate) (x : ℕ) → T (is_gate gs x) → (number_of gs x < length gs) × ((gate_at gs (number_of gs x)).name ≡ x)
unfolding is_gate number_of
number_of_lem gs x t =
    let p : ℕ → Bool = λ i. eqb (gate_at gs i).name x in
    let h : first (length gs) p < length gs = ltb→lt (first (length gs) p) (length gs) t in
    (h, eqb→eq (gate_at gs (first (length gs) p)).name x (first_true (length gs) p h))

pub is_gate_lem : (gs : List Gate) (i : ℕ) → i < length gs → T (is_gate gs (gate_at gs i).name)
unfolding is_gate number_of
is_gate_lem gs i h =
    let x : ℕ = (gate_at gs i).name in
    let l = first_hit (length gs) (λ j. eqb (gate_at gs j).name x) i (eqb_refl x) in
    lt→ltb (first (length gs) (λ j. eqb (gate_at gs j).name x)) (length gs) (omega arith)

-- no two gates of the list have one name
abbrev pub Once : List Gate → Type 0
Once gs = (i j : ℕ) → i < length gs → j < length gs → (gate_at gs i).name ≡ (gate_at gs j).name → i ≡ j

pub number_at : (gs : List Gate) → Once gs → (i : ℕ) → i < length gs → number_of gs (gate_at gs i).name ≡ i
number_at gs o i h = let a = number_of_lem gs (gate_at gs i).name (is_gate_lem gs i h) in o (number_of gs (gate_at gs i).name) i a.0 h a.1

-- ---- the first entries

-- the declarations have this gate
abbrev pub Declares : Gate → List Decl → Type 0
Declares g [] = ⊥
Declares g (include sp x ∷ ds) = Declares g ds
Declares g (reg c d o ∷ ds) = Declares g ds
Declares g (gate h ∷ ds) = (g ≡ h) ⊎ Declares g ds
Declares g (top s ∷ ds) = Declares g ds

-- gs has grown to r by gates that D says yes to: those of gs stand where they stood, and names stay different
record Grown (gs : List Gate) (D : Gate → Type 0) (r : List Gate) : Type 0 where
  longer : length gs ≤ length r
  kept : (i : ℕ) → i < length gs → gate_at r i ≡ gate_at gs i
  new : (i : ℕ) → length gs ≤ i → i < length r → D (gate_at r i)
  once : Once gs → Once r

grown_not : (gs : List Gate) (D : Gate → Type 0) → Grown gs D gs
grown_not gs D = record { longer = le_refl (length gs); kept = λ i h. refl; new = λ i l h. absurd (omega arith); once = λ o. o }

grown_twice : {gs r s : List Gate} {D : Gate → Type 0} → Grown gs D r → Grown r D s → Grown gs D s
grown_twice {gs} {r} {s} {D} a b = record {
  longer = omega (arith, a.longer, b.longer);
  kept = λ i h. b.kept i (omega (arith, a.longer)) ∙ a.kept i h;
  new = λ i l h. elim (dec_lt i (length r)) [ yes k ↦ subst D (sym (b.kept i k)) (a.new i l k) | no k ↦ b.new i (omega arith) h ];
  once = λ o. b.once (a.once o);
}

grown_more : {gs r : List Gate} {D F : Gate → Type 0} → ((g : Gate) → D g → F g) → Grown gs D r → Grown gs F r
grown_more {r = r} f a = record { longer = a.longer; kept = a.kept; new = λ i l h. f (gate_at r i) (a.new i l h); once = a.once }

grown_keeps : {gs r : List Gate} {D : Gate → Type 0} → Grown gs D r → (x : ℕ) → T (is_gate gs x) → T (is_gate r x)
grown_keeps {gs} {r} a x t =
    let i = number_of_lem gs x t in
    let e : (gate_at r (number_of gs x)).name ≡ x = ap (λ (g : Gate). g.name) (a.kept (number_of gs x) i.0) ∙ i.1 in
    subst (λ (y : ℕ). T (is_gate r y)) e (is_gate_lem r (number_of gs x) (omega (arith, i.0, a.longer)))

-- one gate more at the end, of a new name
grown_snoc : (gs : List Gate) (g : Gate) → (T (is_gate gs g.name) → ⊥) → Grown gs (λ h. g ≡ h) (gs ++ (g ∷ []))
grown_snoc gs g fresh = record { longer = omega (arith, len); kept = old; new = λ i l h. sym (last i l h); once = once }
  where
    len : length (gs ++ (g ∷ [])) ≡ length gs + 1
    len = length-append gs (g ∷ [])

    old : (i : ℕ) → i < length gs → gate_at (gs ++ (g ∷ [])) i ≡ gate_at gs i
    old i h = get_or-append gs (g ∷ []) no_gate i h

    last : (i : ℕ) → length gs ≤ i → i < length (gs ++ (g ∷ [])) → gate_at (gs ++ (g ∷ [])) i ≡ g
    last i l h = get_or_at gs g [] no_gate i (omega (arith, len))

    -- an old gate has not the new gate's name
    apart : (i j : ℕ) → i < length gs → length gs ≤ j → j < length (gs ++ (g ∷ []))
        → (gate_at (gs ++ (g ∷ [])) i).name ≡ (gate_at (gs ++ (g ∷ [])) j).name → ⊥
    apart i j h l k e =
        let q : (gate_at gs i).name ≡ g.name = ap (λ (x : Gate). x.name) (sym (old i h)) ∙ e ∙ ap (λ (x : Gate). x.name) (last j l k) in
        fresh (subst (λ (x : ℕ). T (is_gate gs x)) q (is_gate_lem gs i h))

    once : Once gs → Once (gs ++ (g ∷ []))
    once o i j h k e = elim (dec_lt i (length gs)) [
      | yes a ↦ elim (dec_lt j (length gs)) [
        | yes b ↦ o i j a b (ap (λ (x : Gate). x.name) (sym (old i a)) ∙ e ∙ ap (λ (x : Gate). x.name) (old j b))
        | no b ↦ absurd (apart i j a (omega arith) k e)
      ]
      | no a ↦ elim (dec_lt j (length gs)) [
        | yes b ↦ absurd (apart j i b (omega arith) h (sym e))
        | no b ↦ omega (arith, len)
      ]
    ]

grown_entered : (gs : List Gate) (g : Gate) → Grown gs (λ h. g ≡ h) (entered gs g) × T (is_gate (entered gs g) g.name)
unfolding entered
grown_entered gs g = go (is_gate gs g.name) refl
  where
    go : (b : Bool) → is_gate gs g.name ≡ b → Grown gs (λ h. g ≡ h) (pick b gs (gs ++ (g ∷ []))) × T (is_gate (pick b gs (gs ++ (g ∷ []))) g.name)
    go true e = (grown_not gs (λ h. g ≡ h), subst T (sym e) tt)
    go false e =
        let last : gate_at (gs ++ (g ∷ [])) (length gs) ≡ g = get_or_at gs g [] no_gate (length gs) refl in
        let len = length-append gs (g ∷ []) in
        let t = is_gate_lem (gs ++ (g ∷ [])) (length gs) (omega arith) in
        (grown_snoc gs g (λ t. subst T e t), subst (λ (x : Gate). T (is_gate (gs ++ (g ∷ [])) x.name)) last t)

grown_entries : (gs : List Gate) (ds : List Decl) → Grown gs (λ g. Declares g ds) (entries gs ds)
unfolding entries
grown_entries gs [] = grown_not gs (λ g. ⊥)
grown_entries gs (include sp x ∷ ds) = grown_entries gs ds
grown_entries gs (reg c d o ∷ ds) = grown_entries gs ds
grown_entries gs (gate g ∷ ds) =
    grown_twice (grown_more (λ h e. inl (sym e)) (grown_entered gs g).0) (grown_more (λ h d. inr d) (grown_entries (entered gs g) ds))
grown_entries gs (top s ∷ ds) = grown_entries gs ds

pub declared_gate : (gs : List Gate) (ds : List Decl) (g : Gate) → Declares g ds → T (is_gate (entries gs ds) g.name)
unfolding entries
declared_gate gs [] g d = absurd d
declared_gate gs (include sp x ∷ ds) g d = declared_gate gs ds g d
declared_gate gs (reg c e o ∷ ds) g d = declared_gate gs ds g d
declared_gate gs (gate h ∷ ds) g (inl e) =
    grown_keeps (grown_entries (entered gs h) ds) g.name (subst (λ (k : Gate). T (is_gate (entered gs h) k.name)) (sym e) (grown_entered gs h).1)
declared_gate gs (gate h ∷ ds) g (inr d) = declared_gate (entered gs h) ds g d
declared_gate gs (top s ∷ ds) g d = declared_gate gs ds g d

-- where no gate name is seen before, each declared gate is a first entry itself
fresh_header : (gs : List Gate) (g : Gate) → header_errors (header gs g.name) g ≡ [] → entered gs g ≡ gs ++ (g ∷ [])
unfolding header entered
fresh_header gs g = go (is_gate gs g.name)
  where
    go : (b : Bool) → header_errors (pick b (Some (header_of gs (number_of gs g.name))) None) g ≡ [] → pick b gs (gs ++ (g ∷ [])) ≡ gs ++ (g ∷ [])
    go true q = absurd (cons≢nil q)
    go false q = refl

pub own_entry : (gs : List Gate) (ds : List Decl) (g : Gate) → decl_errors gs ds ≡ [] → Declares g ds
    → (i : ℕ) × (i < length (entries gs ds)) × (gate_at (entries gs ds) i ≡ g)
unfolding entries decl_errors
own_entry gs [] g e d = absurd d
own_entry gs (include sp x ∷ ds) g e d = own_entry gs ds g e d
own_entry gs (reg c f o ∷ ds) g e d = own_entry gs ds g e d
own_entry gs (gate h ∷ ds) g e d =
    let a = nil_parts (header_errors (header gs h.name) h) (decl_errors (entered gs h) ds) e in
    go (own_entry (entered gs h) ds g a.1) (fresh_header gs h a.0) d
  where
    go : (Declares g ds → (i : ℕ) × (i < length (entries (entered gs h) ds)) × (gate_at (entries (entered gs h) ds) i ≡ g))
        → entered gs h ≡ gs ++ (h ∷ []) → (g ≡ h) ⊎ Declares g ds
        → (i : ℕ) × (i < length (entries (entered gs h) ds)) × (gate_at (entries (entered gs h) ds) i ≡ g)
    go ih q (inl r) =
        let w = grown_entries (entered gs h) ds in
        let n : ℕ = length gs in
        let b : n < length (entered gs h) = omega (arith, ap length q, length-append gs (h ∷ [])) in
        (n, omega (arith, w.longer), w.kept n b ∙ ap (λ (l : List Gate). gate_at l n) q ∙ get_or_at gs h [] no_gate n refl ∙ sym r)
    go ih q (inr m) = ih m
own_entry gs (top s ∷ ds) g e d = own_entry gs ds g e d

pub gates_once : (p : Program) → Once (gates_of p)
unfolding gates_of
gates_once p = (grown_entries [] p.decls).once (λ i j h. absurd (not-suc-le-zero h))

pub gate_declared : (p : Program) (i : ℕ) → i < length (gates_of p) → Declares (gate_at (gates_of p) i) p.decls
unfolding gates_of
gate_declared p i h = (grown_entries [] p.decls).new i zero-le h
