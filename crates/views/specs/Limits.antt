-- A program that is read has at most 128 gates.
use Rattle.std.specs.Prelude.{Ok, Err, ℕ, zero, suc, ◌+◌, ◌<◌, ◌≤◌, ◌≡◌, refl, List, [], ◌∷◌, ◌++◌, Bool, true, false, ◌||◌, length, get_or, ltb, leb, eqb}
use Rattle.std.proofs.Common.{arith, ap, ◌∙◌, ltb-true, leb-true, eqb-true, length-append, lit≤}
use Rattle.rules.specs.declared.Counts.{Counts}
use Rattle.rules.specs.declared.Fault.TheVariants.{TooLong}
use Rattle.rules.specs.Basics.{pick}
use Rattle.rules.specs.Items.{Got}
use Rattle.rules.specs.Reading.{within, next, field, either, more, from, names_then, start, scan, load_at, refused, fields}
use Rattle.rules.specs.Syntax.{Gate, Program, Field, name_f, include_f, reg_f, gate_f, end_f, stmt_f, if_f}
use Rattle.rules.specs.Grouping.{body_of, decls, open_after, group, program, read}
use Rattle.rules.specs.Checking.{is_gate, entered, entries, gates_of}
use Rattle.views.specs.View.{gate_in, if_in, field_in, field_at}
use Rattle.views.specs.Tags.{by_kind}
use Rattle.views.specs.Steps.{plain_not5}
use Rattle.views.specs.Bridge.{field_is, is_within, more_is, at_end, grouped_is, not_long, names_within}

-- the gate definition fields
unfoldable pub gate_fields : List Field → ℕ
gate_fields [] = 0
gate_fields (name_f b ∷ l) = gate_fields l
gate_fields (include_f sp x ∷ l) = gate_fields l
gate_fields (reg_f c d o ∷ l) = gate_fields l
gate_fields (gate_f d sp x b ps qs ∷ l) = suc (gate_fields l)
gate_fields (end_f ∷ l) = gate_fields l
gate_fields (stmt_f s ∷ l) = gate_fields l
gate_fields (if_f sp o vs v ∷ l) = gate_fields l

-- each is counted by its tag
counted : (p : List ℕ) (l : List Field) (t : ℕ) → gate_fields (field_in t p ∷ l) ≡ pick (eqb t 5) 1 0 + gate_fields l
unfolding gate_fields gate_in if_in
counted p l =
    by_kind (λ t f. gate_fields (f ∷ l) ≡ pick (eqb t 5) 1 0 + gate_fields l) p
    (λ t a. rw (plain_not5 t a) (omega arith)) (omega arith) (omega arith) (omega arith) (omega arith) (omega arith) (omega arith) (omega arith) (λ t k. rw k.not5 (omega arith))

gates_within : (c : Counts) (p : List ℕ) (t : ℕ) → within c t ≡ true → c.gates ≤ 128 → (next c t p).gates ≤ 128
unfolding next within
gates_within c p t h small = by (eqb t 5) refl
  where
    by : (b : Bool) → eqb t 5 ≡ b → c.gates + pick b 1 0 ≤ 128
    by false e = omega arith
    by true e =
        let five : t ≡ 5 = eqb-true t 5 e in
        let q : ltb c.gates 128 ≡ true = rw five at h in
        let k : c.gates < 128 = ltb-true _ _ q in omega arith

-- so there are at most 128
from_few : (k : ℕ) (c : Counts) → c.names ≤ 512 → c.gates ≤ 128 → (ns : List (List ℕ)) (img : List ℕ) (at : ℕ) (l : List Field) → from k c ns img at ≡ fields l → c.gates + gate_fields l ≤ 128
unfolding from field_at next gate_fields
from_few zero c few small ns img at l p = let z : ◌≡◌ {A = ℕ} 0 1 = cc in absurd (omega arith)
from_few (suc k) c few small ns img at l p = go (eqb at (length img)) refl (λ d a b ms m l'. from_few k d a b ms img m l')
  where
    IH : Type 0
    IH = (d : Counts) → d.names ≤ 512 → d.gates ≤ 128 → (ms : List (List ℕ)) (m : ℕ) (l' : List Field) → from k d ms img m ≡ fields l' → d.gates + gate_fields l' ≤ 128

    after : (g : Got Field) → field c ns img at ≡ g → IH
        → either g (λ j. refused j at) (λ f m. more f (from k (next c (get_or img at 0) (load_at img at)) (names_then ns (get_or img at 0) (load_at img at)) img m)) ≡ fields l
        → c.gates + gate_fields l ≤ 128
    after (Err j) e ih q = let z : ◌≡◌ {A = ℕ} 0 1 = cc in absurd (omega arith)
    after (Ok r) e ih q =
        let t = more_is r.0 _ l q in
        let i = field_is c few ns img at r.0 r.1 e in
        let w = is_within c ns img at r.0 r.1 e in
        let h = ih (next c (get_or img at 0) (load_at img at)) (names_within c (load_at img at) (get_or img at 0) w few) (gates_within c (load_at img at) (get_or img at 0) w small) _ r.1 t.0 t.1 in
        let n : gate_fields l ≡ pick (eqb (get_or img at 0) 5) 1 0 + gate_fields t.0 = ap gate_fields t.2 ∙ ap (λ x. gate_fields (x ∷ t.0)) i.0 ∙ counted (load_at img at) t.0 (get_or img at 0) in
        omega arith

    go : (b : Bool) → eqb at (length img) ≡ b → IH → c.gates + gate_fields l ≤ 128
    go true e ih = let z = at_end (c.body || ltb 0 c.ifs) at l (rw e at p) in rw z (omega arith)
    go false e ih = after (field c ns img at) refl ih (rw e at p)

-- and no more first entries than fields
entered_few : (gs : List Gate) (g : Gate) → length (entered gs g) ≤ suc (length gs)
unfolding entered
entered_few gs g = go (is_gate gs g.name)
  where
    go : (b : Bool) → length (pick b gs (gs ++ (g ∷ []))) ≤ suc (length gs)
    go true = omega arith
    go false = omega (arith, length-append gs (g ∷ []))

entries_few : (l : List Field) (i b : Bool) (gs : List Gate) → length (entries gs (decls i b l)) ≤ length gs + gate_fields l
unfolding decls entries gate_fields
entries_few [] true b gs = omega arith
entries_few [] false b gs = omega arith
entries_few (f ∷ l) true b gs = inside f (entries_few l (open_after f) false gs)
  where
    inside : (f : Field) → length (entries gs (decls (open_after f) false l)) ≤ length gs + gate_fields l → length (entries gs (decls (open_after f) false l)) ≤ length gs + gate_fields (f ∷ l)
    inside (name_f x) h = h
    inside (include_f sp x) h = h
    inside (reg_f c d o) h = h
    inside (gate_f d sp x k ps qs) h = omega arith
    inside end_f h = h
    inside (stmt_f s) h = h
    inside (if_f sp o vs v) h = h
entries_few (name_f x ∷ l) false b gs = entries_few l false false gs
entries_few (include_f sp x ∷ l) false b gs = entries_few l false false gs
entries_few (reg_f c d o ∷ l) false b gs = entries_few l false false gs
entries_few (gate_f d sp x k ps qs ∷ l) false b gs =
    let g : Gate = record { decl = d; span = sp; name = x; params = ps; args = qs; body = body_of k l } in
    omega (arith, entries_few l k false (entered gs g), entered_few gs g)
entries_few (end_f ∷ l) false b gs = entries_few l false false gs
entries_few (stmt_f s ∷ l) false true gs = entries_few l false false gs
entries_few (stmt_f s ∷ l) false false gs = entries_few l false false gs
entries_few (if_f sp o vs v ∷ l) false true gs = entries_few l false true gs
entries_few (if_f sp o vs v ∷ l) false false gs = entries_few l false true gs

pub gates_few : (img : List ℕ) (p : Program) → read img ≡ program p → length (gates_of p) ≤ 128
unfolding read scan group gates_of
gates_few img p e =
    let o = grouped_is (scan img) p e in
    let f = from_few (length img + 1) start (lit≤ tt) (lit≤ tt) [] img 0 o.0 (not_long (leb (length img) 65536) _ _ o.1) in
    let h = entries_few o.0 false false [] in
    let q : length (entries [] p.decls) ≡ length (entries [] (decls false false o.0)) = ap (λ x. length (entries [] x.decls)) o.2 in
    omega arith

pub short : (img : List ℕ) (p : Program) → read img ≡ program p → length img ≤ 65536
unfolding read scan
short img p e =
    let o = grouped_is (scan img) p e in
    by (leb (length img) 65536) refl o.0 o.1
  where
    by : (b : Bool) → leb (length img) 65536 ≡ b → (l : List Field) → pick b (from (length img + 1) start [] img 0) (refused TooLong 0) ≡ fields l → length img ≤ 65536
    by true q l r = leb-true _ _ q
    by false q l r = let z : ◌≡◌ {A = ℕ} 0 1 = cc in absurd (omega arith)
