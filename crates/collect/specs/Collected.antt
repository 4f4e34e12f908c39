-- What collecting the declarations leaves.
use Rattle.std.specs.Prelude.{◌≡◌, List, [], ◌∷◌, ◌++◌, Bool, true, false, ℕ, suc, ◌<◌, ◌≤◌, length, get_or, set, eqb, Option}
use Rattle.std.specs.Borrow.{MutBor}
use Rattle.rules.specs.declared.Named.{Named}
use Rattle.rules.specs.declared.Operand.{Operand}
use Rattle.rules.specs.declared.Reg.{Reg}
use Rattle.rules.specs.Basics.{pick}
use Rattle.rules.specs.Errors.{Error, redefined_argument, redefined_parameter, zero_size_register}
use Rattle.rules.specs.Checking.{size_of, redeclared, latest, registers, reg_errors, gate_at, header, entered, entries, repeats, header_errors, decl_errors}
use Rattle.rules.specs.Items.{le4}
use Rattle.rules.specs.Syntax.{Gate, Decl, Field}
use Rattle.rules.specs.Grouping.{decls}
use Rattle.views.specs.View.{name_in, operand_in, params_in, args_in, rest}
use Rattle.views.specs.Steps.{gate_at_place}
use Rattle.output.specs.declared.Writer.{Writer}
use Rattle.output.specs.Writers.{Says}
use Rattle.tables.specs.Tables.{gate_in, reg_in, param_in, row_set}
use Rattle.collect.specs.declared.Regs.{Regs}
use Rattle.collect.specs.declared.Gates.{Gates}

-- a register's errors, by what its name meant before
abbrev pub reg_errors_by : Option Reg → (decl : ℕ) → Operand → List Error
reg_errors_by f decl o = pick (eqb (size_of o) 0) (zero_size_register o.span decl ∷ []) [] ++ redeclared f o decl

-- how a table writes a kind
abbrev pub kind_of : (classical : Bool) → ℕ
kind_of true = 2
kind_of false = 1

-- the table holds what names mean by the registers rs; no name is a parameter
pub record Finds (rs : List Reg) (t : List ℕ) : Type 0 where
  pub full : length t ≡ 2048
  pub finds : (x : ℕ) → latest rs x ≡ reg_in t x
  pub params : (x : ℕ) → param_in t x ≡ false

-- ---- registers

abbrev pub left_regs : List ℕ → Bool → ℕ → List Decl
left_regs img i at = decls i false (rest img at)

-- the register that a field with the tag t and the payload p declares is told and entered, whatever registers the table holds
pub record RegEntered (t : ℕ) (p : List ℕ) (r : Regs) (w : Writer) (r' : Regs) (w' : Writer) : Type 0 where
  pub said : Says w (reg_errors_by (reg_in r.rows (operand_in p 4).name) (le4 p 0) (operand_in p 4)) w'
  pub row : r'.rows ≡ row_set r.rows (operand_in p 4).name (kind_of (eqb t 4) ∷ (operand_in p 4).span ∷ size_of (operand_in p 4) ∷ [])
  pub count : r'.count ≡ suc r.count

-- the errors of the registers, and a table of what their names mean
pub record RegsDone (img : List ℕ) (w w' : Writer) (r : Regs) : Type 0 where
  pub said : Says w (reg_errors [] (left_regs img false 0)) w'
  pub finds : Finds (registers (left_regs img false 0)) r.rows
  pub count : r.count ≡ length (registers (left_regs img false 0))

-- ---- gates

-- the tables hold what is known of the gates gs: by name, and the declaration span by number
pub record Holds (gs : List Gate) (t defs : List ℕ) : Type 0 where
  pub full : length t ≡ 2048
  pub heads : (x : ℕ) → header gs x ≡ gate_in t x
  pub spans : (i : ℕ) → i < length gs → i < length defs → get_or defs i 0 ≡ (gate_at gs i).decl

-- calls that each tell of a name, by the span of the latest one before it
abbrev pub Tells : {R : Type 0} → (MutBor Writer → Named → ℕ → R → MutBor Writer → Type 0) → (ℕ → ℕ → ℕ → ℕ → Error) → (decl : ℕ) → Type 0
Tells {R} post kind decl = (v : MutBor Writer) (n : Named) (prev : ℕ) (r : R) (v' : MutBor Writer) → post v n prev r v' → Says v.now (kind n.span n.name decl prev ∷ []) v'.now

-- a first entry, behind the header p
pub record GateEntered (p : List ℕ) (g : Gates) (w : Writer) (g' : Gates) (w' : Writer) : Type 0 where
  pub said : Says w (repeats redefined_argument (le4 p 0) [] (args_in p) ++ repeats redefined_parameter (le4 p 0) [] (params_in p)) w'
  pub row : g'.rows ≡ row_set g.rows (name_in p 8) (suc g.count ∷ length (params_in p) ∷ length (args_in p) ∷ le4 p 0 ∷ [])
  pub span : g'.defs ≡ set g.defs g.count (le4 p 0)
  pub count : g'.count ≡ suc g.count

-- a header, whatever gates the tables hold; l is what stands behind it
pub record HeaderDone (p : List ℕ) (g : Gates) (w : Writer) (g' : Gates) (w' : Writer) : Type 0 where
  pub said : (l : List Field) → Says w (header_errors (gate_in g.rows (name_in p 8)) (gate_at_place p l)) w'
  pub held : (gs : List Gate) (l : List Field) → g.count ≡ length gs → Holds gs g.rows g.defs
      → Holds (entered gs (gate_at_place p l)) g'.rows g'.defs × (g'.count ≡ length (entered gs (gate_at_place p l)))
  pub few : g'.count ≤ suc g.count
  pub long : length g'.defs ≡ length g.defs

-- the errors of the headers, and tables of the gates
pub record GatesDone (img : List ℕ) (w w' : Writer) (r : Gates) : Type 0 where
  pub said : Says w (decl_errors [] (left_regs img false 0)) w'
  pub holds : Holds (entries [] (left_regs img false 0)) r.rows r.defs
  pub count : r.count ≡ length (entries [] (left_regs img false 0))
  pub spans : length r.defs ≡ 128
