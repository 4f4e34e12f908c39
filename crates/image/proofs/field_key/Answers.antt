use Rattle.image.proofs.Keys.{key_there, key_none}
use Rattle.image.proofs.field_key.Goals as goal

pub returns-then-byte_at-eq1 : goal.returns-then-byte_at-eq1
returns-then-byte_at-eq1 c = search key_there

pub returns : goal.returns
returns c = search key_none
