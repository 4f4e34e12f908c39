-- The fifteen kinds of error, and their fields. 01: "Tags 1 to 15 follow TypeError's order, RedefinedGate 1 to UndefinedRegister 15. The payload
-- holds that case's members in their written order".
use Rattle.std.specs.Prelude.{ℕ, ◌/◌, ◌%◌, List, [], ◌∷◌, ◌++◌, Bool, true, false, length}
use Rattle.rules.specs.declared.Operand.{Operand}

-- a name with its span stands as both, `Span<Symbol>`; an operand as it is, `Span<Reg>`
pub data Error : Type 0 where
  redefined_gate : (span name decl prev : ℕ) → Error
  redefined_argument : (span name decl prev : ℕ) → Error
  redefined_parameter : (span name decl prev : ℕ) → Error
  recursive_definition : (cycle : List (ℕ × ℕ)) → Error
  zero_size_register : (reg decl : ℕ) → Error
  redefined_register : (reg : Operand) → (decl prev : ℕ) → Error
  undefined_parameter : (name stmt span : ℕ) → Error
  invalid_comparison_size : (reg value stmt reg_size value_size : ℕ) → Error
  wrong_argument_arity : (stmt def name arity actual : ℕ) → Error
  wrong_parameter_arity : (stmt def name arity actual : ℕ) → Error
  undefined_gate : (span name stmt : ℕ) → Error
  wrong_operand_size : (stmt span size match_span match_size : ℕ) → Error
  invalid_register_index : (name index size reg def stmt : ℕ) → Error
  wrong_register_type : (name def stmt reg : ℕ) → (classical : Bool) → Error
  undefined_register : (name reg stmt : ℕ) → Error

-- ---- numbers as bytes. 01: "spans 4 bytes, names 2, sizes, counts and indices 8, bool 1".

abbrev pub bytes2 : ℕ → List ℕ
bytes2 v = v % 256 ∷ v / 256 % 256 ∷ []

abbrev pub bytes4 : ℕ → List ℕ
bytes4 v = v % 256 ∷ v / 256 % 256 ∷ v / 65536 % 256 ∷ v / 16777216 % 256 ∷ []

abbrev pub bytes8 : ℕ → List ℕ
bytes8 v = bytes4 (v % 4294967296) ++ bytes4 (v / 4294967296)

abbrev pub bit : Bool → ℕ
bit true = 1
bit false = 0

abbrev pub operand_bytes : Operand → List ℕ
operand_bytes o = bytes4 o.span ++ (bytes2 o.name ++ (bit o.indexed ∷ bytes8 o.index))

-- 01: "cycle as pairs of spans"
unfoldable pub pair_bytes : List (ℕ × ℕ) → List ℕ
pair_bytes [] = []
pair_bytes (p ∷ ps) = bytes4 p.0 ++ (bytes4 p.1 ++ pair_bytes ps)

-- 01: "A field is a one-byte tag, a two-byte payload length, the payload."
abbrev pub tagged : ℕ → List ℕ → List ℕ
tagged t payload = t ∷ (bytes2 (length payload) ++ payload)

unfoldable pub error_field : Error → List ℕ
error_field (redefined_gate sp x d p) = tagged 1 (bytes4 sp ++ (bytes2 x ++ (bytes4 d ++ bytes4 p)))
error_field (redefined_argument sp x d p) = tagged 2 (bytes4 sp ++ (bytes2 x ++ (bytes4 d ++ bytes4 p)))
error_field (redefined_parameter sp x d p) = tagged 3 (bytes4 sp ++ (bytes2 x ++ (bytes4 d ++ bytes4 p)))
error_field (recursive_definition c) = tagged 4 (pair_bytes c)
error_field (zero_size_register r d) = tagged 5 (bytes4 r ++ bytes4 d)
error_field (redefined_register o d p) = tagged 6 (operand_bytes o ++ (bytes4 d ++ bytes4 p))
error_field (undefined_parameter x s sp) = tagged 7 (bytes2 x ++ (bytes4 s ++ bytes4 sp))
error_field (invalid_comparison_size r v s n m) = tagged 8 (bytes4 r ++ (bytes4 v ++ (bytes4 s ++ (bytes8 n ++ bytes8 m))))
error_field (wrong_argument_arity s d x n m) = tagged 9 (bytes4 s ++ (bytes4 d ++ (bytes2 x ++ (bytes8 n ++ bytes8 m))))
error_field (wrong_parameter_arity s d x n m) = tagged 10 (bytes4 s ++ (bytes4 d ++ (bytes2 x ++ (bytes8 n ++ bytes8 m))))
error_field (undefined_gate sp x s) = tagged 11 (bytes4 sp ++ (bytes2 x ++ bytes4 s))
error_field (wrong_operand_size s sp n msp m) = tagged 12 (bytes4 s ++ (bytes4 sp ++ (bytes8 n ++ (bytes4 msp ++ bytes8 m))))
error_field (invalid_register_index x i n r d s) = tagged 13 (bytes2 x ++ (bytes8 i ++ (bytes8 n ++ (bytes4 r ++ (bytes4 d ++ bytes4 s)))))
error_field (wrong_register_type x d s r c) = tagged 14 (bytes2 x ++ (bytes4 d ++ (bytes4 s ++ (bytes4 r ++ (bit c ∷ [])))))
error_field (undefined_register x r s) = tagged 15 (bytes2 x ++ (bytes4 r ++ bytes4 s))
