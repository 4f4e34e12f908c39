-- The ways out of reading an item: what a call gave stands as a variable, with what it is by the rules and what a match told.
use Rattle.std.specs.Prelude.{ℕ, zero, suc, ◌+◌, ◌-◌, ◌≡◌, refl, Bool, true, false, List, length, leb, ltb, Result, Ok, Err}
use Rattle.std.proofs.Common.{sym, ap, ◌∙◌}
use borrow.Author.Tests.{ne_eqb}
use Rattle.rules.specs.declared.Fault.{Fault}
use Rattle.rules.specs.declared.Fault.TheVariants.{BadItem, TooMany}
use native.Mathlib.Numerals.{sub-one}
use Rattle.std.proofs.Math.Dec.{leb-suc-suc}
use Rattle.rules.specs.Basics.{pick}
use Rattle.rules.specs.Items.{Got, end, fit, name, opcode, leaf, node, expr}
use Rattle.items.specs.Ends.{end_last, tested, Leaves, leaves}

-- n bytes that are there, or not
module _ (n : ℕ) (f : List ℕ → ℕ → ℕ) (s : List ℕ) (at : ℕ) (q : Result ℕ Fault) (is : q ≡ pick (leb n (length s - at)) (Ok (at + n)) (Err BadItem)) where
  pub fit_no : (k : Fault) (w : Got ℕ) → q ≡ Err k → Leaves w k → w ≡ fit n f s at
  fit_no k w e l = leaves w k l ∙ go (leb n (length s - at)) (sym is ∙ e)
    where
      go : (b : Bool) → pick b (Ok (at + n)) (Err BadItem) ≡ Err k → Err k ≡ pick {A = Got ℕ} b (Ok (f s at, at + n)) (Err BadItem)
      go true p = cc
      go false p = let e : BadItem ≡ k = cc in rw e refl

  pub fit_got : (m v : ℕ) → q ≡ Ok m → v ≡ f s at → ◌≡◌ {A = Got ℕ} (Ok (v, m)) (fit n f s at)
  fit_got m v e g = rw g (go (leb n (length s - at)) (sym is ∙ e))
    where
      go : (b : Bool) → pick b (Ok (at + n)) (Err BadItem) ≡ Ok m → ◌≡◌ {A = Got ℕ} (Ok (f s at, m)) (pick b (Ok (f s at, at + n)) (Err BadItem))
      go true p = let e : at + n ≡ m = cc in rw e refl
      go false p = cc

pub ruleset fit_laws = (fit_no, fit_got)

-- the node behind an opcode
pub expr_step : (n d : ℕ) (s : List ℕ) (at o m : ℕ) → (d ≡ 0 → ⊥) → opcode s at ≡ Ok (o, m) → expr n d s at ≡ node n (expr n (d - 1)) o s m
unfolding expr
expr_step n zero s at o m f p = absurd (f refl)
expr_step n (suc d) s at o m f p = rw (p, sub-one)

pub expr_no : (n d : ℕ) (s : List ℕ) (at : ℕ) (k : Fault) (q : Got ℕ) (w : Result ℕ Fault) → q ≡ opcode s at → q ≡ Err k → Leaves w k → w ≡ end (expr n d s at)
unfolding expr
expr_no n zero s at k q w is e l = rw (← is, e) (leaves w k l)
expr_no n (suc d) s at k q w is e l = rw (← is, e) (leaves w k l)

pub expr_deep : (n d : ℕ) (s : List ℕ) (at o m : ℕ) → d ≡ 0 → opcode s at ≡ Ok (o, m) → Err TooMany ≡ end (expr n d s at)
unfolding expr
expr_deep n d s at o m z p = rw (z, p) refl

pub leaf_var : (n o : ℕ) (s : List ℕ) (at : ℕ) (q : Got ℕ) (w : Result ℕ Fault) → w ≡ end q → q ≡ name n s at → (o ≡ 0 → ⊥) → (o ≡ 1 → ⊥) → (o ≡ 2 → ⊥)
    → w ≡ end (leaf n o s at)
unfolding leaf
leaf_var n o s at q w e is p₀ p₁ p₂ = rw (ne_eqb _ _ p₀, ne_eqb _ _ p₁, ne_eqb _ _ p₂) (end_last _ _ (λ v m. refl) _ (e ∙ ap end is))

-- below 33, or at most 32
pub at_most_32 : (r : ℕ × ℕ) → tested (ltb r.0 33) TooMany r ≡ pick (leb r.0 32) (Ok r) (Err TooMany)
at_most_32 r = rw (leb-suc-suc r.0 32)
