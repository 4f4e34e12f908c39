-- The ways out of each function on a text, over plain variables; of a loop, what is left from the place where a turn begins.
use Rattle.std.proofs.Common.{Bool, true, false, Option, Some, None, cond, ltb, ltb-false, subst, add-zero}
use Rattle.std.specs.Option.{unwrap_or, option_map}
use Rattle.std.specs.List.{find, fold, range_with_len, before_first, after_first, position_or_len, count_by, AllZip}
use Rattle.std.proofs.lemmas.List.{length-drop}
use Rattle.std.proofs.lemmas.List.Sums.{sum_by-cons}
use mathlib.Core.Path.{◌≡◌, refl, ap, sym, ◌∙◌}
use mathlib.Core.List.{List, [], ◌∷◌}
use Prim.Native.Nat.{ℕ, zero, suc, ◌+◌, ◌-◌, ◌*◌, ◌≤◌, ◌<◌}
use native.Mathlib.Numerals.{add-one}
use native.Mathlib.Omega.{arith}
use borrow.Author.Tests.{lt-ltb, le-ltb, le-leb, lt-leb}
use lib.ListN.{length, get_or}
use lib.Dec.{eqb}
use Rattle.rules.specs.Basics.{pick, first_from}
use Rattle.output.specs.Bytes.{Wrote, wrote_then, wrote_none}
use Rattle.texts.specs.Text.{push, number_in, nibble_of, byte_of, hex_in, lines_below, lines_of}

-- ---- what a digit is

module _ (c : ℕ) where
  pub nibble_1 : c < 48 → 0 ≡ nibble_of c
  unfolding nibble_of
  nibble_1 h = simp (lt-ltb _ _ h)

  pub nibble_2 : 48 ≤ c → c ≤ 57 → c - 48 ≡ nibble_of c
  unfolding nibble_of
  nibble_2 g h = simp (le-ltb _ _ g, le-leb _ _ h)

  pub nibble_3 : 48 ≤ c → 57 < c → c < 97 → 0 ≡ nibble_of c
  unfolding nibble_of
  nibble_3 g h j = simp (le-ltb _ _ g, lt-leb _ _ h, lt-ltb _ _ j)

  pub nibble_4 : 97 ≤ c → c ≤ 102 → c - 97 + 10 ≡ nibble_of c
  unfolding nibble_of
  nibble_4 j k =
      let digit : 48 ≤ c = omega arith in
      let letter : 57 < c = omega arith in
      let value : c - 97 + 10 ≡ c - 87 = omega arith in
      value ∙ simp (le-ltb _ _ digit, lt-leb _ _ letter, le-ltb _ _ j, le-leb _ _ k)

  pub nibble_5 : 48 ≤ c → 57 < c → 97 ≤ c → 102 < c → 0 ≡ nibble_of c
  unfolding nibble_of
  nibble_5 g h j k = simp (le-ltb _ _ g, lt-leb _ _ h, le-ltb _ _ j, lt-leb _ _ k)

pub ruleset nibbles = (nibble_1, nibble_2, nibble_3, nibble_4, nibble_5)

module _ (n d : ℕ) where
  pub push_1 : d < 48 → n ≡ push n d
  unfolding push
  push_1 h = simp (lt-ltb _ _ h)

  pub push_2 : 48 ≤ d → 57 < d → n ≡ push n d
  unfolding push
  push_2 g h = simp (le-ltb _ _ g, lt-ltb _ _ h)

  pub push_3 : 48 ≤ d → d ≤ 57 → 1000000 ≤ n → n ≡ push n d
  unfolding push
  push_3 g h j = simp (le-ltb _ _ g, le-ltb _ _ h, le-leb _ _ j)

  pub push_4 : (k : ℕ) → k ≡ d - 48 → 48 ≤ d → d ≤ 57 → n < 1000000 → n * 10 + k ≡ push n d
  unfolding push
  push_4 k e g h j = simp (e, le-ltb _ _ g, le-ltb _ _ h, lt-leb _ _ j)

pub ruleset pushes = (push_1, push_2, push_3, push_4)

-- ---- the place of a byte

chosen : (b : Bool) (i d x : ℕ) (o : Option ℕ) → unwrap_or o d ≡ x → unwrap_or (cond b (Some i) o) d ≡ pick b i x
chosen true i d x o h = refl
chosen false i d x o h = h

-- the search that `find` makes
pub first_in_range : (p : ℕ → Bool) (k i d : ℕ) → d ≡ i + k → unwrap_or (find p (range_with_len i k)) d ≡ first_from k i p
unfolding first_from
first_in_range p zero i d e = let z : d ≡ i = omega arith in z
first_in_range p (suc k) i d e = chosen (p i) i d _ _ (rw (add-one i) (first_in_range p k (suc i) d (omega arith)))

not_before : (b : Bool) (i x : ℕ) → i ≤ x → i ≤ pick b i x
not_before true i x h = omega arith
not_before false i x h = h

pub first_from-ge : (p : ℕ → Bool) (k i : ℕ) → i ≤ first_from k i p
unfolding first_from
first_from-ge p zero i = omega arith
first_from-ge p (suc k) i = not_before (p i) i _ (let h : suc i ≤ first_from k (suc i) p = first_from-ge p k (suc i) in omega arith)

pub itself : (r : Option ℕ) → option_map (λ (x : ℕ). x) r ≡ r
itself None = refl
itself (Some x) = refl

-- what `position` answers
pub found_is : (p n i : ℕ) → cond (ltb p n) (Some p) None ≡ Some i → i ≡ p
found_is p n i e = go (ltb p n) e
  where
    go : (b : Bool) → cond b (Some p) None ≡ Some i → i ≡ p
    go true e = cc
    go false e = absurd (cc)

pub none_is : (p n : ℕ) → cond (ltb p n) (Some p) None ≡ None → n ≤ p
none_is p n e = go (ltb p n) refl
  where
    go : (b : Bool) → ltb p n ≡ b → n ≤ p
    go true h = absurd (let z : Some p ≡ None = sym (ap (λ (b : Bool). cond b (Some p) None) h) ∙ e in cc)
    go false h = ltb-false _ _ h

-- ---- a number

-- the sum that `fold` makes
pub number_is_fold : (s : List ℕ) (k i n : ℕ) → fold (λ m j. push m (get_or s j 0)) n (range_with_len i k) ≡ number_in s k i n
unfolding number_in
number_is_fold s zero i n = refl
number_is_fold s (suc k) i n = rw (add-one i) (number_is_fold s k (suc i) (push n (get_or s i 0)))

-- ---- lines

-- as many as there are bytes are enough
lines_enough : (k j : ℕ) (s : List ℕ) → length s ≤ k → length s ≤ j → lines_below k s ≡ lines_below j s
unfolding lines_below
lines_enough zero zero s h g = refl
lines_enough zero (suc j) [] h g = refl
lines_enough zero (suc j) (x ∷ s) h g = absurd (omega arith)
lines_enough (suc k) zero [] h g = refl
lines_enough (suc k) zero (x ∷ s) h g = absurd (omega arith)
lines_enough (suc k) (suc j) [] h g = refl
lines_enough (suc k) (suc j) (x ∷ s) h g =
    let behind = after_first (λ c. eqb c 10) (x ∷ s) in
    let less : length behind ≤ length s = omega (arith, length-drop (position_or_len (λ c. eqb c 10) (x ∷ s) + 1) (x ∷ s)) in
    ap (λ l. before_first (λ c. eqb c 10) (x ∷ s) ∷ l) (lines_enough k j behind (omega arith) (omega arith))

pub lines_none : (s : List ℕ) → length s ≡ 0 → lines_of s ≡ []
unfolding lines_below
lines_none [] h = refl
lines_none (x ∷ s) h = absurd (omega arith)

pub lines_some : (s : List ℕ) → 0 < length s → lines_of s ≡ before_first (λ c. eqb c 10) s ∷ lines_of (after_first (λ c. eqb c 10) s)
unfolding lines_below
lines_some [] h = absurd (omega arith)
lines_some (x ∷ s) h =
    let behind = after_first (λ c. eqb c 10) (x ∷ s) in
    let less : length behind ≤ length s = omega (arith, length-drop (position_or_len (λ c. eqb c 10) (x ∷ s) + 1) (x ∷ s)) in
    ap (λ l. before_first (λ c. eqb c 10) (x ∷ s) ∷ l) (lines_enough (length s) (length behind) behind less (omega arith))

pub lines_bound : (k : ℕ) (s : List ℕ) → length (lines_below k s) ≤ k
unfolding lines_below
lines_bound zero s = omega arith
lines_bound (suc k) [] = omega arith
lines_bound (suc k) (x ∷ s) = let h = lines_bound k (after_first (λ c. eqb c 10) (x ∷ s)) in omega arith

-- what was counted, and what comes behind it, make up the whole
pub record Counted (P : List ℕ → Bool → Type 0) (all left : List (List ℕ)) (cases right : ℕ) : Type 0 where
  pub cases_all : cases + length left ≡ length all
  pub right_all : (bs : List Bool) → AllZip P left bs → (cs : List Bool) × AllZip P all cs × (right + count_by (λ b. b) bs ≡ count_by (λ b. b) cs)

module _ (P : List ℕ → Bool → Type 0) (all left rest : List (List ℕ)) (line : List ℕ) (cases right : ℕ) (so_far : Counted P all left cases right) (e : left ≡ line ∷ rest) where
  counted_more : (b : Bool) → P line b → Counted P all rest (cases + 1) (right + cond b 1 0)
  counted_more b p = record {
    cases_all = let n : length left ≡ suc (length rest) = ap length e in omega (arith, so_far.cases_all);
    right_all = λ bs h.
        let one : count_by (λ a. a) (b ∷ bs) ≡ cond b 1 0 + count_by (λ a. a) bs = sum_by-cons (λ a. cond a 1 0) b bs in
        let q = so_far.right_all (b ∷ bs) (subst (λ l. AllZip P l (b ∷ bs)) (sym e) (p, h)) in
        (q.0, q.1, omega (arith, q.2));
  }

  pub counted_yes : P line true → Counted P all rest (cases + 1) (right + 1)
  counted_yes p = counted_more true p

  pub counted_no : P line false → Counted P all rest (cases + 1) right
  counted_no p = rw add-zero at (counted_more false p)

pub counted_end : (P : List ℕ → Bool → Type 0) (all left : List (List ℕ)) (cases right : ℕ) → Counted P all left cases right → left ≡ []
    → (cases ≡ length all) × ((cs : List Bool) × AllZip P all cs × (right ≡ count_by (λ b. b) cs))
counted_end P all left cases right so_far e =
    let n : length left ≡ 0 = ap length e in
    let q = so_far.right_all [] (subst (λ l. AllZip P l []) (sym e) tt) in
    (omega (arith, so_far.cases_all), (q.0, q.1, omega (arith, q.2)))

-- ---- bytes in hex

-- whoever writes `rest` from here has written `all` from there
pub record Owes (o₀ : List ℕ) (n : ℕ) (all : List ℕ) (o : List ℕ) (m : ℕ) (rest : List ℕ) : Type 0 where
  pub pays : (o' : List ℕ) (q : ℕ) → Wrote o m rest o' q → Wrote o₀ n all o' q

pub owes_all : (o : List ℕ) (n : ℕ) (all : List ℕ) → Owes o n all o n all
owes_all o n all = record { pays = λ o' q w. w }

module _ (o₀ o s : List ℕ) (n m i to : ℕ) (all : List ℕ) (owes : Owes o₀ n all o m (hex_in (to - i) s i)) where
  pub hex_turn : (high low b : ℕ) (o₁ : List ℕ) (m₁ j : ℕ) → high ≡ get_or s i 0 → low ≡ get_or s (i + 1) 0 → b ≡ byte_of high low → Wrote o m (b ∷ []) o₁ m₁
      → i + 2 ≤ to → j ≡ i + 2 → Owes o₀ n all o₁ m₁ (hex_in (to - j) s j)
  unfolding hex_in
  hex_turn high low b o₁ m₁ j eh el eb v h next =
      let z : to - i ≡ suc (suc (to - (i + 2))) = omega arith in
      let e : hex_in (to - i) s i ≡ b ∷ hex_in (to - (i + 2)) s (i + 2) = ap (λ (j : ℕ). hex_in j s i) z ∙ (rw (eb, eh, el) refl) in
      rw next (record { pays = λ o' q w. owes.pays o' q (rw e (wrote_then v w)) })

  pub hex_end : to < i + 2 → Wrote o₀ n all o m
  unfolding hex_in
  hex_end h = owes.pays o m (go (to - i) refl)
    where
      go : (k : ℕ) → to - i ≡ k → Wrote o m (hex_in (to - i) s i) o m
      go zero e = rw e (wrote_none o m)
      go (suc zero) e = rw e (wrote_none o m)
      go (suc (suc k)) e = absurd (omega arith)
