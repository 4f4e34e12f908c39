-- What a pass tells, and what a table holds after its rows were entered.
use Rattle.std.specs.Prelude.{◌≡◌, List, map, Bool, false, ℕ, ◌||◌, length}
use Rattle.rules.specs.declared.Named.{Named}
use Rattle.rules.specs.Errors.{Error}
use Rattle.rules.specs.Syntax.{Gate}
use Rattle.rules.specs.Grouping.{stmts, decls}
use Rattle.rules.specs.Checking.{header, argument, later, latest, is_param, body_scope, stmts_errors, def_errors}
use Rattle.views.specs.View.{next_in, rest}
use Rattle.views.specs.Steps.{gate_at_place}
use Rattle.output.specs.declared.Writer.{Writer}
use Rattle.output.specs.Writers.{Says}
use Rattle.tables.specs.Tables.{gate_in, reg_in, param_in}

-- ---- the scope of a body

-- the arguments entered into a table of 512 names: a name means the latest of them, or what it meant before
pub record ArgsSet (t : List ℕ) (l : List Named) (t' : List ℕ) : Type 0 where
  pub long : length t' ≡ length t
  pub regs : length t ≡ 2048 → (x : ℕ) → reg_in t' x ≡ later (latest (map argument l) x) (reg_in t x)
  pub params : length t ≡ 2048 → (x : ℕ) → param_in t' x ≡ param_in t x

-- the parameters
pub record ParamsSet (t : List ℕ) (l : List Named) (t' : List ℕ) : Type 0 where
  pub long : length t' ≡ length t
  pub regs : length t ≡ 2048 → (x : ℕ) → reg_in t' x ≡ reg_in t x
  pub params : length t ≡ 2048 → (x : ℕ) → param_in t' x ≡ is_param l x || param_in t x

-- the table of gates holds what is known of the gates gs
abbrev pub Heads : List Gate → List ℕ → Type 0
Heads gs gates = (x : ℕ) → header gs x ≡ gate_in gates x

-- whatever gates the table holds, the errors of the body behind the header p at a place, with the names of its own header
pub record BodyChecked (gates img : List ℕ) (place : ℕ) (p : List ℕ) (w w' : Writer) : Type 0 where
  pub same : w'.out.ghost_name ≡ w.out.ghost_name
  pub said : (gs : List Gate) → Heads gs gates → Says w (stmts_errors (body_scope gs (gate_at_place p (rest img (next_in img place)))) (stmts false (rest img (next_in img place)))) w'

abbrev pub defs : List Gate → List ℕ → Bool → ℕ → List Error
defs gs img i at = def_errors gs (decls i false (rest img at))

pub record DefsSaid (gates img : List ℕ) (w w' : Writer) : Type 0 where
  pub same : w'.out.ghost_name ≡ w.out.ghost_name
  pub said : (gs : List Gate) → Heads gs gates → Says w (defs gs img false 0) w'
