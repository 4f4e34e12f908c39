-- What is left of a row.
use Rattle.std.specs.Prelude.{List}
use Rattle.rules.specs.declared.Named.{Named}
use Rattle.rules.specs.declared.Operand.{Operand}
use Rattle.views.specs.View.{operand_in, named_in, row_in}
use Rattle.views.specs.declared.Row.{Row}

abbrev pub operands_left : Row Operand → List Operand
operands_left s = row_in operand_in 15 s.left s.bytes.now s.at

abbrev pub names_left : Row Named → List Named
names_left s = row_in named_in 6 s.left s.bytes.now s.at
