-- Comparing names, and looking one up among those of a table.
use Prim.Native.Nat.{ℕ, zero, suc, ◌+◌, ◌<◌, ◌≤◌}
use native.Mathlib.Numerals.{add-one}
use native.Mathlib.Omega.{arith}
use mathlib.Core.Path.{◌≡◌, refl, sym, ap, ◌∙◌}
use mathlib.Core.List.{List, [], ◌∷◌, map}
use mathlib.Core.Bool.{Bool, true, false, not, ◌&&◌, ◌||◌}
use borrow.Author.Tests.{lt-ltb, le-ltb, le-leb, lt-leb, eqb-true}
use lib.Dec.{eqb}
use lib.Pointwise.{pointwise}
use lib.ListN.{length, get_or, take, drop, drop_of_length-le}
use lib.Seq.{drop-cons, get_or-take, length-take-le}
use Rattle.rules.specs.Reading.{same_bytes, among, fresh, load_at}
use Rattle.image.specs.declared.Names.{Names}
use Rattle.image.specs.Table.{names_of, key_of, slot_of, Keyed, Marked}

-- ---- two lists

same_is : (x y : List ℕ) → pointwise eqb x y ≡ same_bytes x y
unfolding same_bytes
same_is [] [] = refl
same_is [] (b ∷ y) = refl
same_is (c ∷ x) [] = refl
same_is (c ∷ x) (b ∷ y) = ap (λ t. eqb c b && t) (same_is x y)

pub same_told : (x y : List ℕ) (b : Bool) → b ≡ pointwise eqb x y → b ≡ same_bytes x y
same_told x y b e = e ∙ same_is x y

not_true_false : false ≡ true → ⊥
not_true_false p = let z : ◌≡◌ {A = ℕ} 0 1 = cc in omega arith

-- equal names have equal keys
same_true : (x y : List ℕ) → same_bytes x y ≡ true → x ≡ y
unfolding same_bytes
same_true [] [] h = refl
same_true [] (b ∷ y) h = absurd (not_true_false h)
same_true (c ∷ x) [] h = absurd (not_true_false h)
same_true (c ∷ x) (b ∷ y) h = go (eqb c b) refl h (same_true x y)
  where
    go : (t : Bool) → eqb c b ≡ t → (t && same_bytes x y) ≡ true → (same_bytes x y ≡ true → x ≡ y) → c ∷ x ≡ b ∷ y
    go true e k same = rw (eqb-true c b e, same k)
    go false e k same = absurd (not_true_false k)

pub unlike : (p l : List ℕ) (x k : ℕ) → x ≡ key_of l → k ≡ key_of p → (x ≡ k → ⊥) → false ≡ same_bytes p l
unlike p l x k ex ek h = sym (go (same_bytes p l) refl)
  where
    go : (t : Bool) → same_bytes p l ≡ t → t ≡ false
    go true e = absurd (h (ex ∙ sym (ap key_of (same_true p l e)) ∙ sym ek))
    go false e = refl

pub alike : (p l m : List ℕ) (b : Bool) → l ≡ m → b ≡ same_bytes p l → b ≡ same_bytes p m
alike p l m b e f = f ∙ ap (same_bytes p) e

-- ---- a name among those of a table

-- those from the ith on
abbrev pub names_from : List ℕ → Names → ℕ → List (List ℕ)
names_from img t i = map (load_at img) (drop i (take t.count t.at))

module _ (img : List ℕ) (t : Names) (p : List ℕ) where
  pub known_start : among p (names_from img t 0) ≡ among p (names_of img t)
  unfolding names_of
  known_start = refl

  module _ (i : ℕ) (w : Bool) (all : t.count ≤ length t.at) where
    next : i < t.count → among p (names_from img t i) ≡ (same_bytes p (load_at img (get_or t.at i 0)) || among p (names_from img t (i + 1)))
    unfolding among
    next h =
        let l : i < length (take t.count t.at) = rw (length-take-le t.count t.at all) h in
        rw (add-one i, drop-cons (take t.count t.at) i 0 l, get_or-take t.count t.at i 0 h)

    module _ (b : Bool) (h : i < t.count) (f : b ≡ same_bytes p (load_at img (get_or t.at i 0))) where
      pub known_hit : b ≡ true → among p (names_from img t i) ≡ w → true ≡ w
      known_hit g inv =
          let one : among p (names_from img t i) ≡ true = rw (next h, ← f, g) in
          sym one ∙ inv

      pub known_turn : b ≡ false → among p (names_from img t i) ≡ w → among p (names_from img t (i + 1)) ≡ w
      known_turn g inv =
          let one : among p (names_from img t i) ≡ among p (names_from img t (i + 1)) = rw (next h, ← f, g) in
          sym one ∙ inv

    pub known_end : t.count ≤ i → among p (names_from img t i) ≡ w → false ≡ w
    unfolding among
    known_end h inv =
        let short : length (take t.count t.at) ≤ i = rw (length-take-le t.count t.at all) h in
        let none : drop i (take t.count t.at) ≡ [] = drop_of_length-le (take t.count t.at) short in
        let one : among p (names_from img t i) ≡ false = rw none in
        sym one ∙ inv

-- no name where its key's slot has no mark
module _ (img keys marks : List ℕ) (t : Names) (w : Keyed img t.at keys t.count) (v : Marked keys marks t.count) (p : List ℕ) (k : ℕ) (e : k ≡ key_of p) where
  pub whole : t.count ≤ length t.at
  whole = omega (arith, w.few, w.long)

  none_from : (d i : ℕ) → i + d ≡ t.count → get_or marks (slot_of k) 0 ≡ 0 → among p (names_from img t i) ≡ false
  none_from zero i s z = sym (known_end img t p i _ whole (omega arith) refl)
  none_from (suc d) i s z =
      let h : i < t.count = omega arith in
      let off : same_bytes p (load_at img (get_or t.at i 0)) ≡ false =
      sym (unlike p _ (get_or keys i 0) k (w.keyed i h) e (λ q. let o : ◌≡◌ {A = ℕ} 0 1 = sym z ∙ ap (λ j. get_or marks (slot_of j) 0) (sym q) ∙ v.marked i h in omega arith)) in
      rw (next img t p i false whole h, off) (none_from d (i + 1) (omega arith) z)

  pub unmarked : (j : ℕ) → j ≡ slot_of k → get_or marks j 0 ≡ 0 → among p (names_of img t) ≡ false
  unmarked j ej z = sym (known_start img t p) ∙ none_from t.count 0 (omega arith) (rw ej at z)

-- ---- a fresh name

module _ (ns : List (List ℕ)) (s : List ℕ) where
  pub fresh_none : length s < 1 → false ≡ fresh ns s
  unfolding fresh
  fresh_none h = let z : length s ≤ 0 = omega arith in rw (le-ltb 0 (length s) z)

  pub fresh_long : 1 ≤ length s → 64 < length s → false ≡ fresh ns s
  unfolding fresh
  fresh_long h k = rw (lt-ltb 0 (length s) h, lt-leb (length s) 64 k)

  pub fresh_is : (b : Bool) → 1 ≤ length s → length s ≤ 64 → b ≡ among s ns → not b ≡ fresh ns s
  unfolding fresh
  fresh_is b h k e = rw (lt-ltb 0 (length s) h, le-leb (length s) 64 k, e)

pub ruleset fresh_laws = (fresh_none, fresh_long, fresh_is)
