-- The passes one after another are the error list up to recursion.
use mathlib.Core.Path.{◌≡◌, refl, sym, ap, ◌∙◌, subst, fun_ext}
use mathlib.Core.List.{List, [], ◌++◌}
use mathlib.Core.Bool.{false}
use Prim.Native.Nat.{ℕ, ◌≤◌}
use native.Mathlib.Omega.{arith}
use lib.ListN.{length}
use Rattle.rules.specs.Errors.{error_field}
use Rattle.rules.specs.Syntax.{Gate, Decl, Program}
use Rattle.rules.specs.Grouping.{decls, group, program, read}
use Rattle.rules.specs.Checking.{Scope, header, latest, registers, entries, gates_of, top_scope, top_errors, local_errors}
use Rattle.rules.specs.Calls.{edge, decl_calls, calls_of, recursion_errors, errors}
use Rattle.theorems.specs.Words.{Within}
use Rattle.theorems.specs.Callees.{calls_within}
use Rattle.views.specs.View.{rest, program_in}
use Rattle.views.specs.Bridge.{bridge}
use Rattle.views.specs.Limits.{gates_few}
use Rattle.output.specs.declared.Writer.{Writer}
use Rattle.output.specs.Writers.{Says, puts_then}
use Rattle.tables.specs.Tables.{gate_in, reg_in, param_in, scope_in}
use Rattle.passes.specs.Passes.{DefsSaid}
use Rattle.calls.specs.Collecting.{Numbered, calls_in}
use Rattle.calls.specs.Telling.{Defined}
use Rattle.collect.specs.declared.Gates.{Gates}
use Rattle.collect.specs.declared.Regs.{Regs}
use Rattle.collect.specs.Collected.{left_regs, Holds, Finds, GatesDone, RegsDone}
use Rattle.checks.specs.Told.{Local, All}

-- the tables are the top level's scope
top_same : (gs : List Gate) (ds : List Decl) (t defs rows : List ℕ) → Holds gs t defs → Finds (registers ds) rows → scope_in t rows ≡ top_scope gs ds
unfolding scope_in top_scope
top_same gs ds t defs rows h f =
    let a : gate_in t ≡ header gs = fun_ext (λ x. sym (h.heads x)) in
    let b : reg_in rows ≡ latest (registers ds) = fun_ext (λ x. sym (f.finds x)) in
    let c : param_in rows ≡ (λ x. false) = fun_ext f.params in
    rw (a, b, c) refl

pub local_said : (img : List ℕ) (w w₁ w₂ w₃ w₄ : Writer) (g : Gates) → GatesDone img w w₁ g → (t : Regs) → RegsDone img w₁ w₂ t
    → Says w₂ (top_errors (scope_in g.rows t.rows) (decls false false (rest img 0))) w₃ → DefsSaid g.rows img w₃ w₄ → Local img w w₄ g
unfolding program_in group gates_of local_errors
local_said img w w₁ w₂ w₃ w₄ g dg t dt w₃′ d =
    let ds = left_regs img false 0 in
    let gs = entries [] ds in
    let top = subst (λ (C : Scope). Says w₂ (top_errors C ds) w₃) (top_same gs ds g.rows g.defs t.rows dg.holds dt.finds) w₃′ in
    record {
      said = puts_then error_field dg.said (puts_then error_field dt.said (puts_then error_field top (d.said gs (λ x. dg.holds.heads x))));
      holds = dg.holds;
      count = dg.count;
      spans = dg.spans;
    }

-- ---- with recursion, for an image that is read

pub all_said : (img : List ℕ) (w w₁ w₂ : Writer) (g : Gates) → Local img w w₁ g → w₂.out.ghost_name ≡ w₁.out.ghost_name
    → ((gs : List Gate) → Numbered g.rows g.count gs → Defined g.defs g.count gs → Within g.count (edge (calls_in gs img)) → Says w₁ (recursion_errors gs (calls_in gs img)) w₂)
    → All img w w₂ g
unfolding errors calls_of calls_in program_in group
all_said img w w₁ w₂ g l same rec = record { same = same ∙ l.said.same; said = said; holds = λ p e. subst (λ (q : Program). Holds (gates_of q) g.rows g.defs) (sym (bridge img p e)) l.holds; count = count }
  where
    count : (p : Program) → read img ≡ program p → g.count ≡ length (gates_of p)
    count p e = l.count ∙ ap (λ q. length (gates_of q)) (sym (bridge img p e))

    said : (p : Program) → read img ≡ program p → Says w (errors p) w₂
    said p e =
        let same : p ≡ program_in img = bridge img p e in
        let few : length (gates_of (program_in img)) ≤ 128 = subst (λ (q : Program). length (gates_of q) ≤ 128) same (gates_few img p e) in
        let gs : List Gate = gates_of (program_in img) in
        let r = rec gs (record { count = l.count; known = l.holds.heads })
        (record { few = omega (arith, l.count); decl = λ i h. l.holds.spans i (omega (arith, l.count)) (omega (arith, l.count, l.spans)) })
        (subst (λ (m : ℕ). Within m (edge (calls_of (program_in img)))) (sym l.count) (calls_within (program_in img))) in
        subst (λ (q : Program). Says w (local_errors q ++ recursion_errors (gates_of q) (decl_calls (gates_of q) q.decls)) w₂) (sym same) (puts_then error_field l.said r)
