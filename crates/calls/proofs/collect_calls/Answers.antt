use borrow.Author.Rules.{rules}
use mathlib.Core.Path.{refl, ◌∙◌}
use Rattle.calls.proofs.Adding.{named_or, left_all, left_as, left_less, left_none}
use Rattle.calls.proofs.Fields.{calls_start, call_turn, skip_turn, gate_turn, rest_turn, calls_end}
use Rattle.calls.proofs.collect_calls.Goals as goal

pub loop-f-init : goal.loop-f-init
loop-f-init c =
    (refl, λ gs N. left_all _ _ _ (rw (c.into_iter-f-iterator.ensures.into_iter_gives, c.of-f-items.ensures) (calls_start gs _ _ refl refl)) c.new.ensures)

pub loop-f-preserved-then-f-eq21 : goal.loop-f-preserved-then-f-eq21
loop-f-preserved-then-f-eq21 c = (
  c.meet.ensures.same ∙ c.loop-f.invariant.0,
  λ gs N. left_less (c.loop-f.invariant.1 gs N) (call_turn gs _ _ _ _ c.in-Some.ensures.steps c.if-f.true c.if-f-eq21.true) (c.meet.ensures.added _ gs N),
)

pub loop-f-preserved-else-f-eq21 : goal.loop-f-preserved-else-f-eq21
loop-f-preserved-else-f-eq21 c =
    (c.loop-f.invariant.0, λ gs N. left_as (c.loop-f.invariant.1 gs N) (skip_turn gs _ _ _ _ c.in-Some.ensures.steps c.if-f.true c.if-f-eq21.false))

pub loop-f-preserved-then-f-eq5 : goal.loop-f-preserved-then-f-eq5
loop-f-preserved-then-f-eq5 c = (
  c.loop-f.invariant.0,
  λ gs N.
      left_as (c.loop-f.invariant.1 gs N)
      (gate_turn gs _ _ _ _ c.in-Some.ensures.steps c.if-f.false c.if-f-eq5.true _ (rw (c.unwrap_or-from.ensures, c.number_of.ensures) (named_or _ gs _ N _))),
)

pub loop-f-preserved : goal.loop-f-preserved
loop-f-preserved c =
    (c.loop-f.invariant.0, λ gs N. left_as (c.loop-f.invariant.1 gs N) (rest_turn gs _ _ _ _ c.in-Some.ensures.steps c.if-f.false c.if-f-eq5.false))

pub returns : goal.returns
returns c = λ gs N. left_none _ _ _ _ (search rules) (c.loop-f.invariant.1 gs N) (calls_end gs _ _ _ c.in-None.ensures.steps)
