-- What an image spells: the fields, and the program that they make up. After ast/mod.rs, with 01's changed forms.
-- A span is copied and never read. A name is the number of its NAME field.
use Rattle.std.specs.Prelude.{ℕ, List, Bool, Option}
use Rattle.rules.specs.declared.Operand.{Operand}
use Rattle.rules.specs.declared.Named.{Named}

-- 01: "0 Pi; 1 Real (4 bytes, any f32 bits); 2 Int (8); 3 Var (name); 4 Add, 5 Sub, 6 Mul, 7 Div, 8 Pow with two operands; 9 Neg,
-- 10 Sin, 11 Cos, 12 Tan, 13 Exp, 14 Ln, 15 Sqrt with one." An operator is kept as its opcode, Real as its bits.
pub data Expr : Type 0 where
  pi : (span : ℕ) → Expr
  real : (span bits : ℕ) → Expr
  int : (span value : ℕ) → Expr
  var : (span name : ℕ) → Expr
  two : (opcode span : ℕ) → Expr → Expr → Expr
  one : (opcode span : ℕ) → Expr → Expr

-- 01: tags 16 to 22. `missing` stands for what an IF governs where no statement follows it; no image that is read has one.
pub data Stmt : Type 0 where
  u : (span : ℕ) → Operand → (theta phi lambda : Expr) → Stmt
  cx : (span : ℕ) → (copy xor : Operand) → Stmt
  measure : (span : ℕ) → (from to : Operand) → Stmt
  reset : (span : ℕ) → Operand → Stmt
  barrier : (span : ℕ) → List Operand → Stmt
  call : (span name_span name : ℕ) → (params : List Expr) → (args : List Operand) → Stmt
  if : (span : ℕ) → Operand → (value_span value : ℕ) → (governed : Stmt) → Stmt
  missing : Stmt

-- 01: "GATE with body flag 1 is followed by statements (16 to 22) and END; flag 0 is opaque." An opaque gate has no body.
pub record Gate : Type 0 where
  pub decl : ℕ
  pub span : ℕ
  pub name : ℕ
  pub params : List Named
  pub args : List Named
  pub body : Option (List Stmt)

-- 01: "2 INCLUDE: span, name; ignored"; "3 QREG, 4 CREG: declaration span, operand (index is the size; none means 1)"
pub data Decl : Type 0 where
  include : (span name : ℕ) → Decl
  reg : (classical : Bool) → (decl : ℕ) → Operand → Decl
  gate : Gate → Decl
  top : Stmt → Decl

pub record Program : Type 0 where
  pub names : List (List ℕ)
  pub decls : List Decl

-- A field as it stands in the image: bodies and IFs are not put together yet.
pub data Field : Type 0 where
  name_f : (bytes : List ℕ) → Field
  include_f : (span name : ℕ) → Field
  reg_f : (classical : Bool) → (decl : ℕ) → Operand → Field
  gate_f : (decl span name : ℕ) → (body : Bool) → (params args : List Named) → Field
  end_f : Field
  stmt_f : Stmt → Field
  if_f : (span : ℕ) → Operand → (value_span value : ℕ) → Field
