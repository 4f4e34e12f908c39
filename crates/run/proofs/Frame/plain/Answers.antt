use Rattle.run.proofs.Bodies.{plain_none}
use Rattle.run.proofs.Frame.plain.Goals as goal

pub returns-in_default : goal.returns-in_default
returns-in_default c = search plain_none
