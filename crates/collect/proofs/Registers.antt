-- The collection of registers, field by field.
use Rattle.std.specs.Prelude.{Some}
use mathlib.Core.Path.{◌≡◌, refl, sym, ap, ◌∙◌, subst}
use mathlib.Core.List.{List, [], ◌∷◌, ◌++◌, append_assoc, append-nil}
use mathlib.Core.Bool.{Bool, true, false}
use Prim.Native.Nat.{ℕ, suc, ◌+◌, ◌<◌, ◌≤◌}
use native.Mathlib.Omega.{arith}
use native.Mathlib.Decide.{ℕ_discrete}
use native.Mathlib.Nat.{mod-lt}
use native.Mathlib.Numerals.{add-one}
use borrow.Author.Tests.{ne_eqb, eqb-true}
use lib.ListN.{length, get_or, length-append}
use lib.Dec.{T, eqb, lit<}
use Rattle.rules.specs.declared.Operand.{Operand}
use Rattle.rules.specs.declared.Reg.{Reg}
use Rattle.rules.specs.Basics.{pick}
use Rattle.rules.specs.Errors.{error_field}
use Rattle.rules.specs.Items.{le2, le4}
use Rattle.rules.specs.Reading.{is_reg}
use Rattle.rules.specs.Syntax.{reg}
use Rattle.rules.specs.Checking.{latest, register, size_of, registers, register_errors, reg_errors}
use Rattle.views.specs.declared.Field.{Field}
use Rattle.views.specs.declared.Fields.{Fields}
use Rattle.views.specs.View.{operand_in}
use Rattle.views.specs.Steps.{first_reg, first_not_reg}
use Rattle.views.specs.Fields.{Passes, Over, left, opened, head_opened, stays_inside, none_opened}
use Rattle.output.specs.declared.Writer.{Writer}
use Rattle.output.specs.Writers.{Owes, owes_same, owes_less, owes_none, puts_none}
use Rattle.tables.specs.Tables.{reg_in, param_in, row_set, row_set_length, reg_set, reg_set_param}
use Rattle.tables.specs.Zeros.{zeros_reg, zeros_param}
use Rattle.collect.specs.declared.Regs.{Regs}
use Rattle.collect.specs.Collected.{kind_of, Finds, left_regs, RegEntered, RegsDone}
use Rattle.theorems.specs.Rows.{latest_snoc}

-- the tag of a register says its kind
reg_tag : (t : ℕ) → is_reg t ≡ true → t ≡ pick (eqb t 4) 4 3
reg_tag t e = elim (ℕ_discrete t 4) [
  | yes q ↦ rw q refl
  | no q ↦ rw (ne_eqb t 4 q) (eqb-true t 3 (side (eqb t 3) (ne_eqb t 4 q)))
]
  where
    side : (c : Bool) → eqb t 4 ≡ false → eqb t 3 ≡ true
    side c q = go (eqb t 3) refl
      where
        go : (d : Bool) → eqb t 3 ≡ d → eqb t 3 ≡ true
        go true f = f
        go false f = let z : ◌≡◌ {A = Bool} false true = rw (f, q) at e in absurd (subst T (sym z) tt)

not_three : (t : ℕ) → is_reg t ≡ false → t ≡ 3 → ⊥
not_three t e q = let z : ◌≡◌ {A = Bool} true false = rw q at e in subst T z tt

not_four : (t : ℕ) → is_reg t ≡ false → t ≡ 4 → ⊥
not_four t e q = let z : ◌≡◌ {A = Bool} true false = rw q at e in subst T z tt

-- every name is below 512
name_small : (p : List ℕ) (at : ℕ) → (operand_in p at).name < 512
unfolding operand_in
name_small p at = mod-lt (le2 p (at + 4)) (lit< tt)

-- a register entered: the table holds one more
entered_finds : (rs : List Reg) (t : List ℕ) (c : Bool) (o : Operand) → o.name < 512 → Finds rs t → (t' : List ℕ) → t' ≡ row_set t o.name (kind_of c ∷ o.span ∷ size_of o ∷ [])
    → Finds (rs ++ (register c o ∷ [])) t'
entered_finds rs t c o small f t' q = record {
  full = ap length q ∙ row_set_length t o.name (kind_of c ∷ o.span ∷ size_of o ∷ []) ∙ f.full;
  finds = λ x.
      let here : reg_in t' x ≡ pick (eqb o.name x) (Some (register c o)) (reg_in t x) =
      rw (q, reg_set t f.full o.name small (kind_of c) o.span (size_of o) x (some c), kind_is c) refl in
      latest_snoc rs (register c o) x ∙ ap (λ z. pick (eqb o.name x) (Some (register c o)) z) (f.finds x) ∙ sym here;
  params = λ x. ap (λ z. param_in z x) q ∙ reg_set_param t f.full o.name small (kind_of c) o.span (size_of o) x ∙ f.params x;
}
  where
    some : (c : Bool) → kind_of c ≡ 0 → ⊥
    some true e = omega arith
    some false e = omega arith

    kind_is : (c : Bool) → eqb (kind_of c) 2 ≡ c
    kind_is true = refl
    kind_is false = refl

-- ---- the loop over the fields

-- what a collection that began at w₀ owes where the iterator stands at s
pub record RegsOwed (img : List ℕ) (w₀ : Writer) (s : Fields) (w : Writer) (r : Regs) : Type 0 where
  pub found : List Reg
  pub finds : Finds found r.rows
  pub owes : Owes error_field w₀ (reg_errors [] (left_regs img false 0)) w (reg_errors found (opened s))
  pub listed : found ++ registers (opened s) ≡ registers (left_regs img false 0)
  pub counted : r.count ≡ length found
  pub few : r.count ≤ s.at
  pub whole : s.img.now ≡ img

pub regs_start : (img t : List ℕ) (w : Writer) (s : Fields) → opened s ≡ left_regs img false 0 → s.img.now ≡ img → length t ≡ 2048 → ((i : ℕ) → get_or t i 0 ≡ 0) → RegsOwed img w s w (record { rows = t; count = 0 })
unfolding latest
regs_start img t w s e whole full zero_all = record {
  found = [];
  finds = record { full = full; finds = λ x. sym (zeros_reg t zero_all x); params = zeros_param t zero_all };
  owes = owes_same error_field w (ap (reg_errors []) (sym e));
  listed = ap registers e;
  counted = refl;
  few = omega arith;
  whole = whole;
}

module _ (img : List ℕ) (w₀ : Writer) (s t : Fields) (f : Field) (w : Writer) (r : Regs) (o : RegsOwed img w₀ s w r) (k : Passes s f t) where
  -- nothing told and nothing entered
  regs_on : ((rs : List Reg) → reg_errors rs (opened s) ≡ reg_errors rs (opened t)) → registers (opened s) ≡ registers (opened t) → RegsOwed img w₀ t w r
  regs_on q l = record {
    found = o.found;
    finds = o.finds;
    owes = owes_less error_field o.owes (q o.found) (puts_none error_field w);
    listed = ap (λ x. o.found ++ x) (sym l) ∙ o.listed;
    counted = o.counted;
    few = omega (arith, o.few, k.within, k.next);
    whole = ap (λ x. x.now) k.img ∙ o.whole;
  }

  pub regs_inside : f.inside ≡ true → RegsOwed img w₀ t w r
  regs_inside e = let h = stays_inside s t f k e in regs_on (λ rs. ap (reg_errors rs) h) (ap registers h)

  pub regs_other : f.inside ≡ false → is_reg f.tag ≡ false → RegsOwed img w₀ t w r
  unfolding reg_errors registers
  regs_other e n =
      regs_on
      (λ rs. rw (head_opened s t f k, k.body, e) (first_not_reg (reg_errors rs) (λ sp x ds. refl) f.tag f.payload.now (left t) (λ x ds. refl) (λ g ds. refl) (not_three f.tag n) (not_four f.tag n)))
      (rw (head_opened s t f k, k.body, e) (first_not_reg registers (λ sp x ds. refl) f.tag f.payload.now (left t) (λ x ds. refl) (λ g ds. refl) (not_three f.tag n) (not_four f.tag n)))

  pub regs_entered : f.inside ≡ false → is_reg f.tag ≡ true → (w' : Writer) (r' : Regs) → RegEntered f.tag f.payload.now r w r' w' → RegsOwed img w₀ t w' r'
  unfolding reg_errors registers register_errors
  regs_entered e n w' r' x =
      let p : List ℕ = f.payload.now in
      let c : Bool = eqb f.tag 4 in
      let q : Operand = operand_in p 4 in
      let here : opened s ≡ reg c (le4 p 0) q ∷ opened t = rw (head_opened s t f k, k.body, e) (first_reg f.tag p (left t) c (reg_tag f.tag n)) in
      record {
        found = o.found ++ (register c q ∷ []);
        finds = entered_finds o.found r.rows c q (name_small p 4) o.finds r'.rows x.row;
        owes = owes_less error_field o.owes (rw (here, o.finds.finds q.name) refl) x.said;
        listed = append_assoc o.found (register c q ∷ []) (registers (opened t)) ∙ ap (λ l. o.found ++ l) (rw here refl) ∙ o.listed;
        counted = x.count ∙ ap suc o.counted ∙ sym (length-append o.found (register c q ∷ []) ∙ add-one (length o.found));
        few = omega (arith, x.count, o.few, k.within, k.next);
        whole = ap (λ x. x.now) k.img ∙ o.whole;
      }

pub regs_done : (img : List ℕ) (w₀ : Writer) (s t : Fields) (w : Writer) (r : Regs) → RegsOwed img w₀ s w r → Over s t → RegsDone img w₀ w r
unfolding reg_errors registers
regs_done img w₀ s t w r o k =
    let e = none_opened s t k in
    let f : o.found ≡ registers (left_regs img false 0) = sym (append-nil o.found) ∙ ap (λ l. o.found ++ registers l) (sym e) ∙ o.listed in
    record {
      said = owes_none error_field o.owes (ap (reg_errors o.found) e);
      finds = subst (λ (l : List Reg). Finds l r.rows) f o.finds;
      count = o.counted ∙ ap length f;
    }
