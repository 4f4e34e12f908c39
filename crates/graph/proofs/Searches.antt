-- What `find` and `any` over a range tell, as `first` and `any` below a bound.
use mathlib.Core.Path.{◌≡◌, refl, sym, subst}
use mathlib.Core.Bool.{Bool, true, false}
use mathlib.Core.List.{List}
use Prim.Native.Nat.{ℕ, ◌≤◌, ◌<◌}
use native.Mathlib.Decide.{dec_lt}
use native.Mathlib.Omega.{arith}
use borrow.Author.Tests.{lt-ltb, le-ltb}
use lib.Dec.{T}
use lib.ListN.{length, get_or}
use Rattle.std.proofs.Common.{Option, Some, None, zero-le}
use Rattle.std.proofs.lemmas.List.FromFn.{length-range_with_len, get_or-range_with_len}
use Rattle.std.proofs.lemmas.Iterator.{first_from_Range, cases_from_any, YieldsList-from_range}
use Rattle.std.proofs.iter.Yields.{nat_range_steps}
use Rattle.std.specs.declared.ops.Range.{Range}
use Rattle.std.specs.Bool.{MatchBool}
use Rattle.std.specs.Fn.{Called, CalledAt}
use Rattle.std.specs.Iterator.{YieldsThen}
use denote.Param.Members.{Mut}
use denote.Ref.{Bor}
use Rattle.std.specs.List.{range_with_len, AllWithin, HoldsAt, FoldsTo}
use Rattle.std.specs.Option.{MatchOption}
use Rattle.rules.specs.Basics.{first, any}
use Rattle.graph.specs.Rows.{below}
use Rattle.graph.proofs.Tests.{search_hit, search_end, any_yes, any_no}

module _ (n : ℕ) (p : ℕ → Bool) where
  abbrev pub Fails : ℕ → Type 0
  Fails k = T (p k) → ⊥

  pub find_is : (r : Option ℕ) → MatchOption r ((k : ℕ) → 0 ≤ k → k < n → T (p k) → ⊥) (λ i. (0 ≤ i) × (i < n) × T (p i) × ((k : ℕ) → 0 ≤ k → k < i → T (p k) → ⊥))
      → r ≡ below n (first n p)
  unfolding below
  find_is None h = let e : n ≡ first n p = search_end n p n (omega arith) (λ k l. h k zero-le l) in rw (← e, le-ltb n n (omega arith)) refl
  find_is (Some i) h = let e : i ≡ first n p = search_hit n p i h.1 (λ k l. h.3 k zero-le l) h.2 in rw (← e, lt-ltb i n h.1) refl

  abbrev all : List ℕ
  all = range_with_len 0 n

  at : (k : ℕ) → k < n → get_or all k 0 ≡ k
  at k h = omega (arith, get_or-range_with_len 0 n k 0 h)

  pub any_is : (r : Bool) → MatchBool r ((k : ℕ) × (k < length (range_with_len 0 n)) × HoldsAt (λ x. T (p x)) (range_with_len 0 n) k) (AllWithin (λ x. T (p x) → ⊥) (range_with_len 0 n) 0 (length (range_with_len 0 n)))
      → r ≡ any n p
  any_is true h =
      let l : h.0 < n = omega (arith, h.1, length-range_with_len 0 n) in
      sym (any_yes n p h.0 l (subst (λ (x : ℕ). T (p x)) (at h.0 l) (h.2 0)))
  any_is false h = sym (any_no n p (λ k l. subst Fails (at k l) (h k 0 zero-le (omega (arith, l, length-range_with_len 0 n)))))

-- the same of the calls: a test that passes tells p, and one that fails refutes it and leaves the closure as it was
module _ {F : Type 0} (f : F) (n : ℕ) (p : ℕ → Bool) (u : Range ℕ) where
  pub find_below : {g : Mut F (Bor ℕ × Unit {0}) Bool} (r : Option ℕ)
      → (xs : List ℕ) × (j : F) × YieldsThen nat_range_steps (record { start = 0; end = n }) xs r u × FoldsTo (λ a x b. CalledAt g a x false b) f xs j × MatchOption r (Unit {0}) (λ x. (h : F) × CalledAt g j x true h)
      → ((x : ℕ) (q : F) → CalledAt g f x true q → T (p x)) → ((x : ℕ) (q : F) → CalledAt g f x false q → (q ≡ f) × (T (p x) → ⊥)) → r ≡ below n (first n p)
  find_below r ran pass fail = find_is n p r (first_from_Range (record { start = 0; end = n }) u f r (λ x. T (p x)) (λ x. T (p x) → ⊥) ran pass fail)

  pub any_below : {g : Mut F (ℕ × Unit {0}) Bool} (r : Bool)
      → (xs : List ℕ) × (o : Option ℕ) × (j : F) × YieldsThen nat_range_steps (record { start = 0; end = n }) xs o u × FoldsTo (λ a x b. Called g a (x, tt) false b) f xs j × MatchOption o (r ≡ false) (λ x. (r ≡ true) × ((h : F) × Called g j (x, tt) true h))
      → ((x : ℕ) (q : F) → Called g f (x, tt) true q → T (p x)) → ((x : ℕ) (q : F) → Called g f (x, tt) false q → (q ≡ f) × (T (p x) → ⊥)) → r ≡ any n p
  any_below r ran pass fail = any_is n p r (cases_from_any u f r (λ x. T (p x)) (λ x. T (p x) → ⊥) ran (YieldsList-from_range 0 n n refl (omega arith)) pass fail)

-- ---- what is found

pub below_is : (n i w : ℕ) → below n i ≡ Some w → (i ≡ w) × (i < n)
unfolding below
below_is n i w e = elim (dec_lt i n) [
  | yes h ↦ let q : Some i ≡ Some w = (rw (lt-ltb i n h) at e) in (cc, h)
  | no h ↦ let q : None ≡ Some w = (rw (le-ltb i n (omega arith)) at e) in cc
]

pub below_end : (n i : ℕ) → below n i ≡ None → n ≤ i
unfolding below
below_end n i e = elim (dec_lt i n) [
  | yes h ↦ let q : Some i ≡ None = (rw (lt-ltb i n h) at e) in cc
  | no h ↦ omega arith
]
