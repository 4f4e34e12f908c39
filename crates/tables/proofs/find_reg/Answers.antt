use Rattle.tables.proofs.Words.{find_laws}
use Rattle.tables.proofs.find_reg.Goals as goal

pub returns-then-x-ge512 : goal.returns-then-x-ge512
returns-then-x-ge512 c = search find_laws

pub returns-then-kind-eq0 : goal.returns-then-kind-eq0
returns-then-kind-eq0 c = search find_laws

pub returns : goal.returns
returns c = search find_laws
