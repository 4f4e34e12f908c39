-- What a field that was read is, by its tag.
use Prim.Native.Nat.{ℕ, ◌+◌, ◌-◌}
use mathlib.Core.Path.{◌≡◌, refl, sym, ◌∙◌}
use mathlib.Core.List.{List, [], ◌∷◌}
use mathlib.Core.Bool.{Bool, true, false}
use borrow.Author.Tests.{eqb-true}
use lib.Dec.{eqb, leb}
use lib.ListN.{length, get_or}
use Rattle.std.specs.Prelude.{Ok, Err}
use Rattle.rules.specs.declared.Counts.{Counts}
use Rattle.rules.specs.declared.Fault.{Fault}
use Rattle.rules.specs.declared.Fault.TheVariants.{Cut, BadTag, BadItem, BadName, TooMany}
use Rattle.rules.specs.declared.Operand.{Operand}
use Rattle.rules.specs.Basics.{pick}
use Rattle.rules.specs.Syntax.{Stmt, u, cx, measure, reset, barrier, call, Field, name_f, include_f, reg_f, end_f, stmt_f, if_f}
use Rattle.rules.specs.Items.{Got, Parser, bind, pure, must, times, word8, span, name, flag, count, operand, expr}
use Rattle.rules.specs.Reading.{fresh, name_field, include_field, reg_field, gate_lists, gate_field, u_field, pair_field, reset_field, barrier_field, call_lists, call_field, if_field, items, payload, whole, is_reg, placed, within, len_at, load_at, field}
use Rattle.rules.specs.Grouping.{names}
use Rattle.image.specs.Whole.{is_gate, is_register}

-- what holds of a value, if one was read
pub data Of {A : Type 0} (P : A → Type 0) : Got A → Type 0 where
  none : {k : Fault} → Of P (Err k)
  some : {r : A × ℕ} → P r.0 → Of P (Ok r)

pub of_got : {A : Type 0} {P : A → Type 0} (g : Got A) (v : A) (m : ℕ) → Of P g → g ≡ Ok (v, m) → P v
of_got {P = P} g v m h e = value (rw e at h)
  where
    value : Of P (Ok (v, m)) → P v
    value (some p) = p

of_then : {A B : Type 0} {P : A → Type 0} {Q : B → Type 0} (g : Got A) (f : A → ℕ → Got B) → Of P g → ((v : A) (m : ℕ) → P v → Of Q (f v m)) → Of Q (bind g f)
of_then (Err k) f h next = none
of_then (Ok r) f (some p) next = next r.0 r.1 p

of_bind : {A B : Type 0} {Q : B → Type 0} (g : Got A) (f : A → ℕ → Got B) → ((v : A) (m : ℕ) → Of Q (f v m)) → Of Q (bind g f)
of_bind (Err k) f next = none
of_bind (Ok r) f next = next r.0 r.1

of_test : {A : Type 0} {P : A → Type 0} (b : Bool) (v : A) (m : ℕ) (k : Fault) → P v → Of P (pick b (Ok (v, m)) (Err k))
of_test true v m k h = some h
of_test false v m k h = none

-- the field's part in the counts and names, by its tag
pub record Sort (t : ℕ) (s : List ℕ) (f : Field) : Type 0 where
  pub named : names (f ∷ []) ≡ pick (eqb t 1) (s ∷ []) []
  pub gate : is_gate f ≡ eqb t 5
  pub register : is_register f ≡ is_reg t

-- tags that no count and no name goes by
module _ (t : ℕ) (s : List ℕ) (e₁ : eqb t 1 ≡ false) (e₅ : eqb t 5 ≡ false) (eᵣ : is_reg t ≡ false) where
  other : {m : ℕ} (f : Field) → names (f ∷ []) ≡ [] → is_gate f ≡ false → is_register f ≡ false → Of (Sort t s) (Ok (f, m))
  other f n g r = some {r = (f, _)} (record { named = rw e₁ n; gate = g ∙ sym e₅; register = r ∙ sym eᵣ })

  stmt : {m : ℕ} (x : Stmt) → Of (Sort t s) (Ok (stmt_f x, m))
  unfolding names is_gate is_register
  stmt x = other (stmt_f x) refl refl refl

  module _ (n : ℕ) (at : ℕ) where
    include_sort : Of (Sort t s) (include_field n s at)
    unfolding names is_gate is_register include_field
    include_sort = of_bind (span s at) _ (λ sp m. of_bind (name n s m) _ (λ x m. other (include_f sp x) refl refl refl))

    u_sort : Of (Sort t s) (u_field n s at)
    unfolding u_field
    u_sort = of_bind (span s at) _ (λ sp m. of_bind (operand n s m) _ (λ o m. of_bind (expr n 64 s m) _ (λ x m.
        of_bind (expr n 64 s m) _ (λ y m. of_bind (expr n 64 s m) _ (λ z m. stmt (u sp o x y z))))))

    pair_sort : (make : ℕ → Operand → Operand → Stmt) → Of (Sort t s) (pair_field n make s at)
    unfolding pair_field
    pair_sort make = of_bind (span s at) _ (λ sp m. of_bind (operand n s m) _ (λ x m. of_bind (operand n s m) _ (λ y m. stmt (make sp x y))))

    reset_sort : Of (Sort t s) (reset_field n s at)
    unfolding reset_field
    reset_sort = of_bind (span s at) _ (λ sp m. of_bind (operand n s m) _ (λ o m. stmt (reset sp o)))

    barrier_sort : Of (Sort t s) (barrier_field n s at)
    unfolding barrier_field
    barrier_sort = of_bind (span s at) _ (λ sp m. of_bind (count s m) _ (λ k m. of_bind (times k (operand n) s m) _ (λ os m. stmt (barrier sp os))))

    call_sort : Of (Sort t s) (call_field n s at)
    unfolding call_field
    call_sort = of_bind (span s at) _ (λ sp m. of_bind (span s m) _ (λ ns m. of_bind (name n s m) _ (λ x m.
        of_bind (call_lists n s m) _ (λ l m. stmt (call sp ns x l.1 l.0)))))

    if_sort : Of (Sort t s) (if_field n s at)
    unfolding names is_gate is_register if_field
    if_sort = of_bind (span s at) _ (λ sp m. of_bind (operand n s m) _ (λ o m. of_bind (span s m) _ (λ vs m.
        of_bind (word8 s m) _ (λ v m. other (if_f sp o vs v) refl refl refl))))

module _ (n : ℕ) (s : List ℕ) (at : ℕ) where
  reg_sort : (t : ℕ) (b : Bool) → is_reg t ≡ true → eqb t 1 ≡ false → eqb t 5 ≡ false → Of (Sort t s) (reg_field n b s at)
  unfolding names is_gate is_register reg_field
  reg_sort t b eᵣ e₁ e₅ = of_bind (span s at) _ (λ d m. of_bind (operand n s m) _ (λ o m.
      some {r = (reg_f b d o, _)} (record { named = rw e₁ refl; gate = sym e₅; register = sym eᵣ })))

  gate_sort : Of (Sort 5 s) (gate_field n s at)
  unfolding names is_gate is_register gate_field
  gate_sort = of_bind (span s at) _ (λ d m. of_bind (span s m) _ (λ sp m. of_bind (name n s m) _ (λ x m.
      of_bind (flag s m) _ (λ b m. of_bind (gate_lists n s m) _ (λ l m. some (record { named = refl; gate = refl; register = refl }))))))

  -- the tag is k, or it is not
  by : (t k : ℕ) (x y : Parser Field) → Of (Sort k s) (x s at) → (eqb t k ≡ false → Of (Sort t s) (y s at)) → Of (Sort t s) (pick (eqb t k) x y s at)
  by t k x y is rest = go (eqb t k) refl
    where
      go : (b : Bool) → eqb t k ≡ b → Of (Sort t s) (pick b x y s at)
      go true e = rw (eqb-true t k e) is
      go false e = rest e

  items_sort : (t : ℕ) → eqb t 1 ≡ false → Of (Sort t s) (items n t s at)
  unfolding names is_gate is_register items
  items_sort t e₁ =
      by t 2 (include_field n) _ (include_sort 2 s refl refl refl n at) (λ e₂.
      by t 3 (reg_field n false) _ (reg_sort 3 false refl refl refl) (λ e₃.
      by t 4 (reg_field n true) _ (reg_sort 4 true refl refl refl) (λ e₄.
      by t 5 (gate_field n) _ gate_sort (λ e₅.
      by t 6 (pure end_f) _ (other 6 s refl refl refl end_f refl refl refl) (λ e.
      by t 16 (u_field n) _ (u_sort 16 s refl refl refl n at) (λ e.
      by t 17 (pair_field n cx) _ (pair_sort 17 s refl refl refl n at cx) (λ e.
      by t 18 (pair_field n measure) _ (pair_sort 18 s refl refl refl n at measure) (λ e.
      by t 19 (reset_field n) _ (reset_sort 19 s refl refl refl n at) (λ e.
      by t 20 (barrier_field n) _ (barrier_sort 20 s refl refl refl n at) (λ e.
      by t 21 (call_field n) _ (call_sort 21 s refl refl refl n at) (λ e.
      if_sort t s e₁ e₅ (rw (e₃, e₄)) n at)))))))))))

-- a field of any tag
pub field_sort : (c : Counts) (ns : List (List ℕ)) (img : List ℕ) (at : ℕ) → Of (Sort (get_or img at 0) (load_at img at)) (field c ns img at)
unfolding names is_gate is_register field payload name_field
field_sort c ns img at =
    let t = get_or img at 0 in
    let s = load_at img at in
    of_bind (must (leb 3 (length img - at)) Cut img at) _ (λ ok m.
    of_bind (must (placed c t) BadTag img m) _ (λ ok m.
    of_bind (must (leb (len_at img at) (length img - (at + 3))) Cut img m) _ (λ ok m.
    of_bind (must (within c t) TooMany img m) _ (λ ok m.
    of_then (whole (payload c.names ns t) s 0) _
    (of_then (payload c.names ns t s 0) _ (by c.names s 0 t 1 (name_field ns) _ (of_test (fresh ns s) (name_f s) (length s) BadName (record { named = refl; gate = refl; register = refl }))
    (λ e. items_sort c.names s 0 t e)) (λ f m p. of_test (eqb m (length s)) f m BadItem p))
    (λ f m p. some p)))))
