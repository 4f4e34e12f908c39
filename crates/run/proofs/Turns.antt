-- What a turn of each loop over numbers or items gives.
use mathlib.Core.Path.{◌≡◌, refl, sym, ap, ◌∙◌}
use mathlib.Core.List.{List, [], ◌∷◌, ◌++◌, map, append_assoc, append-nil}
use Prim.Native.Nat.{ℕ, zero, suc, ◌+◌, ◌-◌, ◌<◌, ◌≤◌}
use native.Mathlib.Omega.{arith}
use native.Mathlib.Numerals.{add-one}
use native.Mathlib.Decide.{ℕ_discrete}
use borrow.Author.Tests.{eq-eqb, ne_eqb}
use lib.Dec.{eqb}
use lib.ListN.{length, get_or, set, take, drop, replicate, length-set, length-append, length-replicate}
use lib.Seq.{take-suc-set, get_or-drop, get_or-set_same, get_or-set_other}
use Rattle.rules.specs.declared.Named.{Named}
use Rattle.rules.specs.declared.Operand.{Operand}
use Rattle.rules.specs.Basics.{pick}
use Rattle.rules.specs.Checking.{quantum, argument}
use Rattle.rules.specs.Run.{Entry, entry_field}
use Rattle.views.specs.View.{name_in, operand_in, named_in, row_in, row_past, args_in}
use Rattle.views.specs.Rows.{operand_ends, row_length}
use Rattle.views.specs.Items.{operands_left}
use Rattle.views.specs.declared.Row.{Row}
use Rattle.output.specs.declared.Writer.{Writer}
use Rattle.output.specs.Writers.{Puts, Owes, owes_less, owes_none}
use Rattle.counts.specs.Sums.{size_in}
use Rattle.run.specs.Lines.{start_in, lane_of, lanes_in, turn_list, frame_fill, full, sees, seen}

-- ---- turns

-- a loop that writes f j in turn j, n turns in all, stands at w with turn j to come
abbrev pub Turned : (f : ℕ → List Entry) (n j : ℕ) → (w₀ w : Writer) → Type 0
Turned f n j w₀ w = Owes entry_field w₀ (turn_list n 0 f) w (turn_list (n - j) j f)

module _ (f : ℕ → List Entry) (n : ℕ) where
  turns_more : (j : ℕ) → j < n → turn_list (n - j) j f ≡ f j ++ turn_list (n - (j + 1)) (j + 1) f
  unfolding turn_list
  turns_more j l = let e : n - j ≡ suc (n - (j + 1)) = omega arith in rw (e, add-one j) refl

  turns_none : (j : ℕ) → n ≤ j → turn_list (n - j) j f ≡ []
  unfolding turn_list
  turns_none j l = let e : n - j ≡ 0 = omega arith in rw e refl

  module _ (j : ℕ) {w₀ w : Writer} (h : Turned f n j w₀ w) where
    pub turned_more : j < n → {w₁ : Writer} → Puts entry_field w (f j) w₁ → Turned f n (j + 1) w₀ w₁
    turned_more l = owes_less entry_field h (turns_more j l)

    pub turned_over : n ≤ j → Puts entry_field w₀ (turn_list n 0 f) w
    turned_over l = owes_none entry_field h (turns_none j l)

-- ---- the bits of operands, i of them stored

-- an item less, and none
module _ (s : Row Operand) where
  pub operands_less : (t : Row Operand) (o : Operand) → operands_left s ≡ o ∷ operands_left t → s.left ≡ t.left + 1
  operands_less t o e =
      let q : length (operands_left s) ≡ suc (length (operands_left t)) = ap length e in
      omega (arith, q, row_length operand_in 15 operand_ends s.left s.bytes.now s.at, row_length operand_in 15 operand_ends t.left t.bytes.now t.at)

  pub operands_over : operands_left s ≡ [] → s.left ≡ 0
  operands_over e = let q : length (operands_left s) ≡ 0 = ap length e in omega (arith, q, row_length operand_in 15 operand_ends s.left s.bytes.now s.at)

module _ (regs bits : List ℕ) (j : ℕ) (i : ℕ) (row : List ℕ) (os : List Operand) (all : List ℕ) where
  pub lanes_turn : (o : Operand) → take i row ++ lanes_in regs bits j (map quantum (o ∷ os)) ≡ all → i < length row
      → (v : ℕ) → v ≡ lane_of (start_in bits o) (size_in regs (quantum o)) j
      → take (i + 1) (set row i v) ++ lanes_in regs bits j (map quantum os) ≡ all
  unfolding lanes_in
  lanes_turn o h l v e = rw (add-one i, take-suc-set row i v l, append_assoc) (rw (← e) at h)

  pub lanes_over : take i row ++ lanes_in regs bits j (map quantum os) ≡ all → os ≡ [] → take i row ≡ all
  unfolding lanes_in
  lanes_over h e = sym (append-nil (take i row)) ∙ (rw e at h)

-- ---- the bits of arguments

-- zeros past the end of a table are what is read there
full_at : (t : List ℕ) (n x : ℕ) → get_or (t ++ replicate n 0) x 0 ≡ get_or t x 0
full_at [] n x = zeros n x
  where
    zeros : (n x : ℕ) → ◌≡◌ {A = ℕ} (get_or (replicate n 0) x 0) (get_or {A = ℕ} [] x 0)
    zeros zero x = refl
    zeros (suc n) zero = refl
    zeros (suc n) (suc x) = zeros n x
full_at (y ∷ t) n zero = refl
full_at (y ∷ t) n (suc x) = full_at t n x

full_long : (t : List ℕ) → 512 ≤ length (full t)
full_long t = omega (arith, length-append t (replicate (512 - length t) 0), length-replicate {A = ℕ} (512 - length t) 0)

name_small : (s : List ℕ) (at : ℕ) → name_in s at < 512
name_small s at = omega arith

set_at : (t : List ℕ) (n v x : ℕ) → n < length t → get_or (set t n v) x 0 ≡ pick (eqb n x) v (get_or t x 0)
set_at t n v x h = elim (ℕ_discrete n x) [
  | yes e ↦ rw (eq-eqb n x e, ← e) (get_or-set_same t n v 0 h)
  | no e ↦ rw (ne_eqb n x e) (get_or-set_other t n x v 0 (λ q. e (sym q)))
]

-- a table with rows entered, seen from one name
seen_frame : (head : List ℕ) (k at : ℕ) (qs t : List ℕ) (x : ℕ) → 512 ≤ length t
    → seen (map argument (row_in named_in 6 k head at)) qs (get_or t x 0) x ≡ get_or (frame_fill (map argument (row_in named_in 6 k head at)) qs t) x 0
unfolding seen frame_fill row_in named_in
seen_frame head zero at qs t x h = refl
seen_frame head (suc k) at qs t x h =
    let n = name_in head (at + 4) in
    let l : n < length t = omega (arith, name_small head (at + 4)) in
    let m : 512 ≤ length (set t n (get_or qs 0 0)) = omega (arith, length-set t n (get_or qs 0 0)) in
    ap (λ (b : ℕ). seen (map argument (row_in named_in 6 k head (at + 6))) (drop 1 qs) b x) (sym (set_at t n (get_or qs 0 0) x l)) ∙ seen_frame head k (at + 6) (drop 1 qs) (set t n (get_or qs 0 0)) x m

pub seen_all : (bits head qs : List ℕ) (x r : ℕ) → r ≡ get_or bits x 0 → seen (map argument (args_in head)) qs r x ≡ get_or (sees bits head qs) x 0
unfolding args_in
seen_all bits head qs x r e = rw (e ∙ sym (full_at bits (512 - length bits) x)) (seen_frame head (get_or head 12 0) (row_past 6 (get_or head 11 0) 13) qs (full bits) x (full_long bits))

drop_drop : (i : ℕ) (l : List ℕ) → drop 1 (drop i l) ≡ drop (i + 1) l
drop_drop zero l = refl
drop_drop (suc i) [] = rw (add-one (suc i)) refl
drop_drop (suc i) (x ∷ l) = rw (add-one (suc i)) (drop_drop i l ∙ (rw (add-one i) refl))

module _ (qs : List ℕ) (i r x all : ℕ) (a : Named) (l : List Named) (h : seen (map argument (a ∷ l)) (drop i qs) r x ≡ all) where
  seen_turn : seen (map argument l) (drop (i + 1) qs) (pick (eqb a.name x) (get_or qs i 0) r) x ≡ all
  unfolding seen
  seen_turn =
      let z : get_or qs i 0 ≡ get_or (drop i qs) 0 0 = sym (rw get_or-drop (ap (λ (n : ℕ). get_or qs n 0) (let y : i + 0 ≡ i = omega arith in y))) in
      rw (z, ← drop_drop i qs) h

  pub seen_here : a.name ≡ x → (q : ℕ) → q ≡ get_or qs i 0 → seen (map argument l) (drop (i + 1) qs) q x ≡ all
  seen_here e q eq = rw (eq-eqb a.name x e, ← eq) at seen_turn

  pub seen_other : (a.name ≡ x → ⊥) → seen (map argument l) (drop (i + 1) qs) r x ≡ all
  seen_other e = rw (ne_eqb a.name x e) at seen_turn

pub seen_over : (qs : List ℕ) (r x all : ℕ) (l : List Named) → seen (map argument l) qs r x ≡ all → l ≡ [] → r ≡ all
unfolding seen
seen_over qs r x all l h e = rw e at h
