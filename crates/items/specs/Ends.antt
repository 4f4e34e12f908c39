-- Where readings end, when what was read is not kept.
use Rattle.std.specs.Prelude.{ℕ, zero, suc, ◌+◌, ◌-◌, ◌<◌, ◌≡◌, refl, Bool, true, false, List, ◌∷◌, Result, Ok, Err, IsErrAnd}
use Rattle.std.proofs.Common.{arith, subst, sym, ◌∙◌}
use Rattle.std.proofs.lemmas.Result.{err_from_is_err_and}
use Rattle.rules.specs.declared.Fault.{Fault}
use Rattle.rules.specs.Basics.{pick}
use Rattle.rules.specs.Items.{Got, Parser, bind, times, end}

-- what was read, if a test holds
abbrev pub tested : {A : Type 0} → (ok : Bool) → Fault → A × ℕ → Got A
tested ok k r = pick ok (Ok r) (Err k)

-- ---- a reading of which the end is known

pub end_is_no : {A : Type 0} {k : Fault} (g : Got A) → end g ≡ Err k → g ≡ Err k
end_is_no {k = k} (Err j) p = let q : j ≡ k = cc in rw q refl
end_is_no (Ok r) p = cc

pub end_is_got : {A : Type 0} {m : ℕ} (g : Got A) → end g ≡ Ok m → (v : A) × (g ≡ Ok (v, m))
end_is_got (Err j) p = cc
end_is_got {m = m} (Ok r) p = (r.0, (let q : r.1 ≡ m = cc in rw q refl))

-- ---- one item after another

-- where a `?` leaves
abbrev pub Leaves : {A : Type 0} → Result A Fault → Fault → Type 0
Leaves w k = IsErrAnd w (λ j. j ≡ k)

pub leaves : {A : Type 0} (w : Result A Fault) (k : Fault) → Leaves w k → w ≡ Err k
leaves w k l = let p = err_from_is_err_and w l in rw (p.1, p.2) refl

-- A call gave q, which is g by the rules; w is what is answered after it. A refusal stays.
module _ {A B : Type 0} (g : Got A) (f : A → ℕ → Got B) (q : Got A) (is : q ≡ g) where
  pub bind_no : (k : Fault) (w : Got B) → q ≡ Err k → Leaves w k → w ≡ bind g f
  bind_no k w e l = rw (← is, e) (leaves w k l)

  pub bind_got : (r : A × ℕ) (w : Got B) → q ≡ Ok r → w ≡ f r.0 r.1 → w ≡ bind g f
  bind_got r w e h = rw (← is, e) h

  pub end_no : (k : Fault) (w : Result ℕ Fault) → q ≡ Err k → Leaves w k → w ≡ end (bind g f)
  end_no k w e l = rw (← is, e) (leaves w k l)

  pub end_got : (r : A × ℕ) (w : Result ℕ Fault) → q ≡ Ok r → w ≡ end (f r.0 r.1) → w ≡ end (bind g f)
  end_got r w e h = rw (← is, e) h

-- The same where the call gave only the end of g.
module _ {A B : Type 0} (g : Got A) (f : A → ℕ → Got B) (q : Result ℕ Fault) (is : q ≡ end g) where
  pub ends_no : (k : Fault) (w : Result ℕ Fault) → q ≡ Err k → Leaves w k → w ≡ end (bind g f)
  ends_no k w e l = leaves w k l ∙ go g (sym is ∙ e)
    where
      go : (g : Got A) → end g ≡ Err k → Err k ≡ end (bind g f)
      go (Err j) p = sym p
      go (Ok r) p = cc

  pub ends_got : (m : ℕ) (w : Result ℕ Fault) → q ≡ Ok m → ((v : A) → w ≡ end (f v m)) → w ≡ end (bind g f)
  ends_got m w e h = go g (sym is ∙ e)
    where
      go : (g : Got A) → end g ≡ Ok m → w ≡ end (bind g f)
      go (Err j) p = cc
      go (Ok r) p = let e : r.1 ≡ m = cc in rw e (h r.0)

-- the last, of which only the end is kept
module _ {A B : Type 0} (g : Got A) (f : A → ℕ → Got B) (same : (v : A) (m : ℕ) → end (f v m) ≡ Ok m) (w : Result ℕ Fault) where
  pub end_last : w ≡ end g → w ≡ end (bind g f)
  end_last h = h ∙ go g
    where
      go : (g : Got A) → end g ≡ end (bind g f)
      go (Err j) = refl
      go (Ok r) = sym (same r.0 r.1)

-- what a test settles
module _ {A : Type 0} (b t : Bool) (is : t ≡ b) (k : Fault) (x : Got A) where
  pub test_no : t ≡ false → Err k ≡ pick b x (Err k)
  test_no e = rw (← is, e) refl

  pub test_yes : (w : Got A) → t ≡ true → w ≡ x → w ≡ pick b x (Err k)
  test_yes w e h = rw (← is, e) h

pub ruleset read_laws = (bind_no, bind_got, end_no, end_got, ends_no, ends_got, test_no, test_yes, end_last)

-- ---- many of one kind

abbrev pub then : Result ℕ Fault → (ℕ → Result ℕ Fault) → Result ℕ Fault
then (Err j) f = Err j
then (Ok m) f = f m

abbrev pub rounds : ℕ → (ℕ → Result ℕ Fault) → ℕ → Result ℕ Fault
rounds zero e at = Ok at
rounds (suc k) e at = then (e at) (rounds k e)

module _ (e : ℕ → Result ℕ Fault) (k i here : ℕ) (h : i < k) (all : Result ℕ Fault) (inv : rounds (k - i) e here ≡ all) (q : Result ℕ Fault) (is : q ≡ e here) where
  turn : then (e here) (rounds (k - (i + 1)) e) ≡ all
  turn = let one_less : k - i ≡ suc (k - (i + 1)) = omega arith in subst (λ (n : ℕ). rounds n e here ≡ all) one_less inv

  pub rounds_no : (j : Fault) (w : Result ℕ Fault) → q ≡ Err j → Leaves w j → w ≡ all
  rounds_no j w p l = leaves w j l ∙ go (e here) (sym is ∙ p) turn
    where
      go : (g : Result ℕ Fault) → g ≡ Err j → then g (rounds (k - (i + 1)) e) ≡ all → Err j ≡ all
      go (Err x) p a = sym p ∙ a
      go (Ok m) p a = cc

  pub rounds_got : (m : ℕ) → q ≡ Ok m → rounds (k - (i + 1)) e m ≡ all
  rounds_got m p = go (e here) (sym is ∙ p) turn
    where
      go : (g : Result ℕ Fault) → g ≡ Ok m → then g (rounds (k - (i + 1)) e) ≡ all → rounds (k - (i + 1)) e m ≡ all
      go (Err x) p a = cc
      go (Ok x) p a = let y : x ≡ m = cc in subst (λ (n : ℕ). rounds (k - (i + 1)) e n ≡ all) y a

-- the same as the reading of a list
pub times_ends : {A : Type 0} (p : Parser A) (s : List ℕ) (k at : ℕ) → end (times k p s at) ≡ rounds k (λ m. end (p s m)) at
unfolding times
times_ends p s zero at = refl
times_ends {A} p s (suc k) at = go (p s at) (times_ends p s k)
  where
    last : (x : A) (g : Got (List A)) → end (bind g (λ l m. Ok (x ∷ l, m))) ≡ end g
    last x (Err j) = refl
    last x (Ok r) = refl

    go : (g : Got A) → ((m : ℕ) → end (times k p s m) ≡ rounds k (λ m. end (p s m)) m)
        → end (bind g (λ x n. bind (times k p s n) (λ l m. Ok (x ∷ l, m)))) ≡ then (end g) (rounds k (λ m. end (p s m)))
    go (Err j) h = refl
    go (Ok r) h = last r.0 (times k p s r.1) ∙ h r.1
