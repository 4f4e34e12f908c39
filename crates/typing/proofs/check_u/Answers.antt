use Rattle.typing.proofs.Statements.{u_laws}
use Rattle.typing.proofs.check_u.Goals as goal

pub returns : goal.returns
returns c = search u_laws
