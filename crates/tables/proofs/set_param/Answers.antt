use Rattle.tables.proofs.Words.{param_none, param_there}
use mathlib.Core.Path.{refl}
use Rattle.tables.proofs.set_param.Goals as goal

pub returns-then-x-ge512 : goal.returns-then-x-ge512
returns-then-x-ge512 c = param_none _ _ c.if-x-ge512.true

pub returns : goal.returns
returns c = param_there _ _ c.if-x-ge512.false _ refl _ c.store.ensures
