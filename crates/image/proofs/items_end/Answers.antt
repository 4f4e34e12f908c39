use Rattle.std.proofs.Common.{rules, refl, ◌∙◌}
use borrow.Author.Tests.{tests}
use Rattle.rules.specs.Reading.{items}
use Rattle.image.proofs.Alike.{reg_alike, pair_alike}
use Rattle.image.proofs.items_end.Goals as goal

pub returns-in-2 : goal.returns-in-2
unfolding items
returns-in-2 c = rw c.in-2.is c.include_end.ensures

pub returns-in-3 : goal.returns-in-3
unfolding items
returns-in-3 c = rw c.in-3.is c.reg_end.ensures

pub returns-in-4 : goal.returns-in-4
unfolding items
returns-in-4 c = rw c.in-4.is (c.reg_end-in-4.ensures ∙ reg_alike _ _ _)

pub returns-in-5 : goal.returns-in-5
unfolding items
returns-in-5 c = rw c.in-5.is c.gate_end.ensures

pub returns-in-6 : goal.returns-in-6
unfolding items
returns-in-6 c = rw c.in-6.is refl

pub returns-in-16 : goal.returns-in-16
unfolding items
returns-in-16 c = rw c.in-16.is c.u_end.ensures

pub returns-in-17 : goal.returns-in-17
unfolding items
returns-in-17 c = rw c.in-17.is c.pair_end.ensures

pub returns-in-18 : goal.returns-in-18
unfolding items
returns-in-18 c = rw c.in-18.is (c.pair_end-in-18.ensures ∙ pair_alike _ _ _)

pub returns-in-19 : goal.returns-in-19
unfolding items
returns-in-19 c = rw c.in-19.is c.reset_end.ensures

pub returns-in-20 : goal.returns-in-20
unfolding items
returns-in-20 c = rw c.in-20.is c.barrier_end.ensures

pub returns-in-21 : goal.returns-in-21
unfolding items
returns-in-21 c = rw c.in-21.is c.call_end.ensures

pub returns-in_default : goal.returns-in_default
unfolding items
returns-in_default c = search (rules, tests)
