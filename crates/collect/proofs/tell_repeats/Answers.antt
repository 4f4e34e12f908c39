use mathlib.Core.List.{map}
use native.Mathlib.Omega.{arith}
use Rattle.rules.specs.Errors.{error_field}
use Rattle.rules.specs.Checking.{argument, latest, repeated}
use Rattle.views.specs.Items.{names_left}
use Rattle.output.specs.Writers.{Says, puts_none, owes_same, owes_less, owes_none}
use Rattle.collect.proofs.Names.{stands_start, repeats_start, stands_fits, stands_next, repeats_next, repeats_end}
use Rattle.collect.proofs.tell_repeats.Goals.{in-Some-earlier, in_default}
use Rattle.collect.proofs.tell_repeats.Goals as goal

pub loop-n-init : goal.loop-n-init
loop-n-init g c =
    let e = c.into_iter-n-iterator.ensures.into_iter_gives in
    (rw e (stands_start c.args.row), λ kind decl t. rw e (owes_same error_field _ (repeats_start c.args.row kind decl)))

pub overflow_add-seen : goal.overflow_add-seen
overflow_add-seen g c = let h = stands_fits _ _ _ (c.loop-n.invariant.0) _ _ c.in-Some.ensures.steps in omega (arith, h)

pub loop-n-preserved : goal.loop-n-preserved
loop-n-preserved g c =
    let s = c.loop-n.invariant.0 in
    let e = c.in-Some.ensures.steps in (
      stands_next c.args.row c.loop-n.seen (names_left c.loop-n.n-iterator) s c.in-Some.n (names_left c.next.new.self) e,
      λ kind decl t.
          let said : Says c.loop-n.w (repeated kind decl (latest (map argument (names_left c.loop-n.seen)) c.in-Some.n.name) c.in-Some.n) c.match-earlier.w =
          elim c.match-earlier.branch [
            | in-Some-earlier w ↦ rw (← c.earlier.ensures, w.in-Some-earlier.is, w.w-is) (t _ _ _ _ _ w.tell.ensures)
            | in_default w ↦ rw (← c.earlier.ensures, w.in_default.is, w.w-is) (puts_none error_field _)
          ] in
          owes_less error_field (c.loop-n.invariant.1 kind decl t) (repeats_next c.args.row c.loop-n.seen (names_left c.loop-n.n-iterator) s c.in-Some.n (names_left c.next.new.self) e kind decl) said,
    )

pub returns : goal.returns
returns g c kind decl t = owes_none error_field (c.loop-n.invariant.1 kind decl t) (repeats_end _ _ kind decl (c.in-None.ensures.steps.0))
