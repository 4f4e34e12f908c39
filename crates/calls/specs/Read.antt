-- Of an image that is read, the calls are those of its program, each by and of a gate of it.
use Rattle.std.specs.Prelude.{◌≡◌, List, ℕ, length}
use Rattle.std.proofs.Common.{sym, ap, subst}
use Rattle.rules.specs.Syntax.{Program}
use Rattle.rules.specs.Grouping.{group, read, program}
use Rattle.rules.specs.Checking.{gates_of}
use Rattle.rules.specs.Calls.{Call, decl_calls, calls_of, edge}
use Rattle.theorems.specs.Words.{Within}
use Rattle.theorems.specs.Callees.{calls_within}
use Rattle.views.specs.View.{program_in}
use Rattle.views.specs.Bridge.{bridge}
use Rattle.calls.specs.Collecting.{calls_in}

pub read_calls : (img : List ℕ) (p : Program) → read img ≡ program p → calls_in (gates_of p) img ≡ calls_of p
unfolding calls_in calls_of program_in group
read_calls img p e = ap (λ (q : Program). decl_calls (gates_of p) q.decls) (sym (bridge img p e))

pub read_within : (img : List ℕ) (p : Program) → read img ≡ program p → Within (length (gates_of p)) (edge (calls_in (gates_of p) img))
read_within img p e = subst (λ (cs : List Call). Within (length (gates_of p)) (edge cs)) (sym (read_calls img p e)) (calls_within p)
