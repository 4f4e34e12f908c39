-- The names of a header entered into a table, one at a time.
use mathlib.Core.Path.{◌≡◌, refl, sym, ◌∙◌, subst, fun_ext}
use mathlib.Core.List.{List, [], ◌∷◌, map}
use mathlib.Core.Bool.{Bool, true, false, ◌||◌}
use Prim.Native.Nat.{ℕ, ◌<◌}
use native.Mathlib.Omega.{arith}
use lib.ListN.{length, get_or}
use lib.Dec.{eqb}
use Rattle.rules.specs.declared.Named.{Named}
use Rattle.rules.specs.Basics.{pick}
use Rattle.rules.specs.Syntax.{Gate, Field}
use Rattle.rules.specs.Grouping.{stmts}
use Rattle.rules.specs.Checking.{Scope, stmts_errors, header, argument, later, latest, is_param, body_scope}
use Rattle.views.specs.View.{params_in, args_in, next_in, rest}
use Rattle.views.specs.Steps.{gate_at_place}
use Rattle.output.specs.declared.Writer.{Writer}
use Rattle.output.specs.Writers.{Says}
use Rattle.tables.specs.Later.{later_none, later_more}
use Rattle.tables.specs.Tables.{gate_in, scope_in, reg_in, param_in, row_set, param_set, row_set_length, param_set_length, reg_set, reg_set_param, param_set_lem, param_set_reg}
use Rattle.tables.specs.Zeros.{zeros_reg, zeros_param}
use Rattle.passes.specs.Passes.{ArgsSet, ParamsSet, Heads, BodyChecked}

-- ---- one name more

pub record ArgsLeft (t₀ : List ℕ) (all : List Named) (t : List ℕ) (l : List Named) : Type 0 where
  pub long : length t ≡ length t₀
  pub regs : length t₀ ≡ 2048 → (x : ℕ) → later (latest (map argument l) x) (reg_in t x) ≡ later (latest (map argument all) x) (reg_in t₀ x)
  pub params : length t₀ ≡ 2048 → (x : ℕ) → param_in t x ≡ param_in t₀ x

pub record ParamsLeft (t₀ : List ℕ) (all : List Named) (t : List ℕ) (l : List Named) : Type 0 where
  pub long : length t ≡ length t₀
  pub regs : length t₀ ≡ 2048 → (x : ℕ) → reg_in t x ≡ reg_in t₀ x
  pub params : length t₀ ≡ 2048 → (x : ℕ) → is_param l x || param_in t x ≡ is_param all x || param_in t₀ x

or_more : (a c b : Bool) → a || pick c true b ≡ (c || a) || b
or_more true true b = refl
or_more true false b = refl
or_more false true b = refl
or_more false false b = refl

or_false : (a : Bool) → a || false ≡ a
or_false true = refl
or_false false = refl

module _ (t₀ : List ℕ) (all : List Named) (t : List ℕ) (l : List Named) where
  pub args_none : l ≡ [] → ArgsLeft t₀ all t l → ArgsSet t₀ all t
  unfolding latest
  args_none e a = record { long = a.long; regs = rw e at a.regs; params = a.params }

  pub params_none : l ≡ [] → ParamsLeft t₀ all t l → ParamsSet t₀ all t
  unfolding is_param
  params_none e a = record { long = a.long; regs = a.regs; params = rw e at a.params }

  module _ (n : Named) (r : List Named) (e : l ≡ n ∷ r) (small : n.name < 512) (t' : List ℕ) where
    pub args_more : t' ≡ row_set t n.name (1 ∷ n.span ∷ 1 ∷ []) → ArgsLeft t₀ all t l → ArgsLeft t₀ all t' r
    unfolding latest
    args_more q a = record {
      long = rw q (row_set_length t n.name (1 ∷ n.span ∷ 1 ∷ [])) ∙ a.long;
      regs = λ h x. rw (q, reg_set t (a.long ∙ h) n.name small 1 n.span 1 x (λ z. omega arith)) (sym (later_more (latest (map argument r) x) (eqb n.name x) (argument n) (reg_in t x))) ∙ (rw e at a.regs h x);
      params = λ h x. rw q (reg_set_param t (a.long ∙ h) n.name small 1 n.span 1 x) ∙ a.params h x;
    }

    pub params_more : t' ≡ param_set t n.name → ParamsLeft t₀ all t l → ParamsLeft t₀ all t' r
    unfolding is_param
    params_more q a = record {
      long = rw q (param_set_length t n.name) ∙ a.long;
      regs = λ h x. rw q (param_set_reg t (a.long ∙ h) n.name small x) ∙ a.regs h x;
      params = λ h x. rw (q, param_set_lem t (a.long ∙ h) n.name small x) (or_more (is_param r x) (eqb n.name x) (param_in t x)) ∙ (rw e at a.params h x);
    }

-- ---- a table of zeros, with both entered

-- the scope that a body is checked in is the one of its header
pub body_scope_lem : (gs : List Gate) (gates p : List ℕ) (l : List Field) (t₀ t₁ t₂ : List ℕ) → length t₀ ≡ 2048 → ((i : ℕ) → get_or t₀ i 0 ≡ 0) → Heads gs gates
    → ArgsSet t₀ (args_in p) t₁ → ParamsSet t₁ (params_in p) t₂ → scope_in gates t₂ ≡ body_scope gs (gate_at_place p l)
unfolding scope_in body_scope gate_at_place
body_scope_lem gs gates p l t₀ t₁ t₂ full zero_all heads a b =
    let regs : reg_in t₂ ≡ latest (map argument (args_in p)) = fun_ext (λ x.
    b.regs (a.long ∙ full) x ∙ a.regs full x ∙ (rw (zeros_reg t₀ zero_all x) (later_none (latest (map argument (args_in p)) x)))) in
    let params : param_in t₂ ≡ is_param (params_in p) = fun_ext (λ x.
    b.params (a.long ∙ full) x ∙ (rw (a.params full x, zeros_param t₀ zero_all x) (or_false (is_param (params_in p) x)))) in
    let heads' : gate_in gates ≡ header gs = fun_ext (λ x. sym (heads x)) in
    rw (regs, params, heads') refl

-- so the errors of a body are those by its own names
pub body_checked : (gates img : List ℕ) (place : ℕ) (p : List ℕ) (w w' : Writer) (t₀ t₁ t₂ : List ℕ) → length t₀ ≡ 2048 → ((i : ℕ) → get_or t₀ i 0 ≡ 0)
    → ArgsSet t₀ (args_in p) t₁ → ParamsSet t₁ (params_in p) t₂ → Says w (stmts_errors (scope_in gates t₂) (stmts false (rest img (next_in img place)))) w' → BodyChecked gates img place p w w'
body_checked gates img place p w w' t₀ t₁ t₂ full zero_all x y said = record {
  same = said.same;
  said = λ gs heads.
      subst (λ (C : Scope). Says w (stmts_errors C (stmts false (rest img (next_in img place)))) w') (body_scope_lem gs gates p (rest img (next_in img place)) t₀ t₁ t₂ full zero_all heads x y) said;
}
