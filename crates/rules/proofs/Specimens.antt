-- 01's specimens marked P, as one table and one statement over it; and a second table of what the builds that 01 warns of would get wrong.
use Rattle.std.specs.Prelude.{ℕ, suc, ◌+◌, ◌≡◌, refl, List, [], ◌∷◌, ◌++◌, map, true, false, length}
use Rattle.rules.specs.declared.Operand.{Operand}
use Rattle.rules.specs.declared.Answer.{Answer}
use Rattle.rules.specs.declared.Answer.TheVariants.{Done, Errors}
use Rattle.rules.specs.Basics.{first, first_from, any}
use Rattle.rules.specs.Items.{times, byte, word2, word4, word8, span, name, flag, count, operand, named, opcode, leaf, node, expr}
use Rattle.rules.specs.Reading.{same_bytes, among, fresh, name_field, include_field, reg_field, gate_lists, gate_field, u_field, pair_field, reset_field, barrier_field, call_lists, call_field, if_field, items, payload, placed, within, next, names_then, field, more, from, scan}
use Rattle.rules.specs.Grouping.{stmt, stmts, open_after, decls, names, group, grouped, read}
use Rattle.rules.specs.Errors.{Error, redefined_gate, redefined_parameter, recursive_definition, zero_size_register, undefined_parameter, invalid_comparison_size, wrong_argument_arity, wrong_operand_size, undefined_register, bytes2, bytes4, bytes8, operand_bytes, pair_bytes, tagged, error_field}
use Rattle.rules.specs.Checking.{number_of, is_gate, header, entered, entries, gates_of, latest, registers, top_scope, body_scope, is_param, repeats, decl_errors, register_errors, reg_errors, assert_reg, operand_errors, match_errors, expr_errors, exprs_errors, value_size, compare_errors, stmt_errors, stmts_errors, top_errors, def_errors, local_errors}
use Rattle.rules.specs.Graph.{walks, reaches, leads, those, leaders, way, cycle}
use Rattle.rules.specs.Calls.{stmt_calls, stmts_calls, decl_calls, calls_of, edge, earliest, pairs, group_error, recursion_errors, errors}
use Rattle.rules.specs.Run.{bits_bytes, entry_field, turns, latest_of, starts_from, bits_of, bit_of, start_of, sizes, common, paired, lanes, spread, known, all_known, qubits_from, barrier_qubits, run, runs, body_place, run_gate, top_place, tops, run_at, run_of}
use Rattle.rules.specs.Answers.{Result, flat, lay, check_read, check, laid_run, expand_read, expand}

-- ---- fields of an image

-- a NAME of one byte
abbrev pub named1 : ℕ → List ℕ
named1 b = tagged 1 (b ∷ [])

abbrev pub whole : (span name : ℕ) → Operand
whole sp x = record { span = sp; name = x; indexed = false; index = 0 }

abbrev pub sized : (span name n : ℕ) → Operand
sized sp x n = record { span = sp; name = x; indexed = true; index = n }

-- a register of size n named x, declaration span 20 + x, operand span 10 + x
abbrev pub qreg : (x n : ℕ) → List ℕ
qreg x n = tagged 3 (bytes4 (20 + x) ++ operand_bytes (sized (10 + x) x n))

abbrev pub creg : (x n : ℕ) → List ℕ
creg x n = tagged 4 (bytes4 (20 + x) ++ operand_bytes (sized (10 + x) x n))

-- U on all of x, with span 1, operand span 2 and three Pi
abbrev pub on_u : ℕ → List ℕ
on_u x = tagged 16 (bytes4 1 ++ (operand_bytes (whole 2 x) ++ (0 ∷ (bytes4 3 ++ (0 ∷ (bytes4 4 ++ (0 ∷ bytes4 5)))))))

-- registers x, x + 1, .. of the sizes, and their operands, with spans 40 + x
abbrev pub qregs : ℕ → List ℕ → List ℕ
qregs x [] = []
qregs x (n ∷ ns) = qreg x n ++ qregs (suc x) ns

abbrev pub operands : ℕ → List ℕ → List ℕ
operands x [] = []
operands x (n ∷ ns) = operand_bytes (whole (40 + x) x) ++ operands (suc x) ns

-- CX over registers of the two sizes, with span 9
abbrev pub cx_on : (n m : ℕ) → List ℕ
cx_on n m = named1 97 ++ (named1 98 ++ (qregs 0 (n ∷ m ∷ []) ++ tagged 17 (bytes4 9 ++ operands 0 (n ∷ m ∷ []))))

-- an opaque gate of three arguments named 3, and a call of it over registers of sizes 1, 3, 1
abbrev pub call_on : List ℕ
call_on =
    named1 97 ++ (named1 98 ++ (named1 99 ++ (named1 100
    ++ (tagged 5 (bytes4 1 ++ (bytes4 2 ++ (bytes2 3 ++ (0 ∷ 0 ∷ 3 ∷ (bytes4 3 ++ (bytes2 0 ++ (bytes4 4 ++ (bytes2 1 ++ (bytes4 5 ++ bytes2 2)))))))))
    ++ (qregs 0 (1 ∷ 3 ∷ 1 ∷ []) ++ tagged 21 (bytes4 9 ++ (bytes4 8 ++ (bytes2 3 ++ (0 ∷ 3 ∷ operands 0 (1 ∷ 3 ∷ 1 ∷ []))))))))))

-- IF on a classical register of size n, span 6, value span 7, governing a RESET of a qubit
abbrev pub if_on : (n value : ℕ) → List ℕ
if_on n v =
    named1 97 ++ (named1 98 ++ (creg 0 n ++ (qreg 1 1
    ++ (tagged 22 (bytes4 6 ++ (operand_bytes (whole 40 0) ++ (bytes4 7 ++ bytes8 v))) ++ tagged 19 (bytes4 8 ++ operand_bytes (whole 41 1))))))

-- a gate without parameters and arguments, declaration span 70 + x, whose body is one call of y with the span
abbrev pub calling : (x y span : ℕ) → List ℕ
calling x y sp =
    tagged 5 (bytes4 (70 + x) ++ (bytes4 1 ++ (bytes2 x ++ (1 ∷ 0 ∷ 0 ∷ []))))
    ++ (tagged 21 (bytes4 sp ++ (bytes4 2 ++ (bytes2 y ++ (0 ∷ 0 ∷ [])))) ++ tagged 6 [])

-- an opaque gate a with parameters x, x, x of spans 31, 32, 33
abbrev pub thrice : List ℕ
thrice =
    named1 97 ++ (named1 120
    ++ tagged 5 (bytes4 70 ++ (bytes4 1 ++ (bytes2 0 ++ (0 ∷ 3 ∷ 0 ∷ (bytes4 31 ++ (bytes2 1 ++ (bytes4 32 ++ (bytes2 1 ++ (bytes4 33 ++ bytes2 1))))))))))

-- U on undeclared q, as 01 writes it
abbrev pub undeclared : List ℕ
undeclared =
    0x01 ∷ 0x01 ∷ 0x00 ∷ 0x71 ∷ 0x10 ∷ 0x22 ∷ 0x00 ∷ 0x01 ∷ 0x00 ∷ 0x00 ∷ 0x00 ∷ 0x02
    ∷ 0 ∷ 0 ∷ 0 ∷ 0 ∷ 0 ∷ 0 ∷ 0 ∷ 0 ∷ 0 ∷ 0 ∷ 0 ∷ 0 ∷ 0 ∷ 0
    ∷ 0x00 ∷ 0x03 ∷ 0x00 ∷ 0x00 ∷ 0x00 ∷ 0x00 ∷ 0x04 ∷ 0x00 ∷ 0x00 ∷ 0x00 ∷ 0x00 ∷ 0x05 ∷ 0x00 ∷ 0x00 ∷ 0x00 ∷ []

-- ---- the table: a service, an image, its answer, and all that it writes

pub record Specimen : Type 0 where
  pub service : List ℕ → List ℕ → Result
  pub image : List ℕ
  pub answer : Answer
  pub writes : List ℕ

abbrev pub checks : List ℕ → Answer → List ℕ → Specimen
checks i r w = record { service = check; image = i; answer = r; writes = w }

abbrev pub expands : List ℕ → Answer → List ℕ → Specimen
expands i r w = record { service = expand; image = i; answer = r; writes = w }

-- check lists these errors
abbrev pub lists : List ℕ → List Error → Specimen
lists i es = checks i (Errors (length es) (length (flat (map error_field es)))) (flat (map error_field es))

abbrev pub passes : List ℕ → Specimen
passes i = checks i (Done 0 0) []

abbrev pub table : List Specimen
table =
    -- "empty image: 0, nothing written, also for expand"
    passes []
    ∷ expands [] (Done 0 0) []
    -- "U on undeclared q. Check: 1, one error, whole list"
    ∷ checks undeclared (Errors 1 13) (0x0F ∷ 0x0A ∷ 0x00 ∷ 0x00 ∷ 0x00 ∷ 0x02 ∷ 0x00 ∷ 0x00 ∷ 0x00 ∷ 0x01 ∷ 0x00 ∷ 0x00 ∷ 0x00 ∷ [])
    -- "q of size 2, U on q: expand writes"
    ∷ expands (named1 113 ++ (qreg 0 2 ++ on_u 0)) (Done 2 14)
    (0x20 ∷ 0x04 ∷ 0x00 ∷ 0x00 ∷ 0x00 ∷ 0x00 ∷ 0x00 ∷ 0x20 ∷ 0x04 ∷ 0x00 ∷ 0x01 ∷ 0x00 ∷ 0x00 ∷ 0x00 ∷ [])
    -- "sizes 1, 3, 1: none", "3, 2: kind 12, size 2, match 3", "0, 5: kind 12, match 0", "5, 0: no kind 12"
    ∷ passes call_on
    ∷ lists (cx_on 3 2) (wrong_operand_size 9 41 2 40 3 ∷ [])
    ∷ lists (cx_on 0 5) (zero_size_register 10 20 ∷ wrong_operand_size 9 41 5 40 0 ∷ [])
    ∷ lists (cx_on 5 0) (zero_size_register 11 21 ∷ [])
    -- "size 2, value 3: none; value 4: kind 8, value size 2", "size 64, value 2^64 - 1: none"
    ∷ passes (if_on 2 3)
    ∷ lists (if_on 2 4) (invalid_comparison_size 40 7 6 2 2 ∷ [])
    ∷ passes (if_on 64 18446744073709551615)
    -- "a calls a: one pair", "a calls b, b calls a: (b, a's call), (a, b's call)"
    ∷ lists (named1 97 ++ calling 0 0 7) (recursive_definition ((70, 7) ∷ []) ∷ [])
    ∷ lists (named1 97 ++ (named1 98 ++ (calling 0 1 7 ++ calling 1 0 9))) (recursive_definition ((71, 7) ∷ (70, 9) ∷ []) ∷ [])
    -- "parameters x, x, x: two of kind 3, the second naming the second x"
    ∷ lists thrice (redefined_parameter 32 1 70 31 ∷ redefined_parameter 33 1 70 32 ∷ [])
    ∷ []

-- a buffer of just the length that is written
abbrev pub room : List ℕ → List ℕ
room l = map (λ b. 255) l

abbrev pub given : List Specimen → List Result
given l = map (λ (s : Specimen). s.service s.image (room s.writes)) l

abbrev pub wanted : List Specimen → List Result
wanted l = map (λ (s : Specimen). record { answer = s.answer; buffer = s.writes }) l

pub specimens : given table ≡ wanted table
unfolding first first_from any times byte word2 word4 word8 span name flag count operand named opcode leaf node expr same_bytes among fresh name_field include_field reg_field gate_lists gate_field u_field pair_field reset_field barrier_field call_lists call_field if_field items payload placed within next names_then field more from scan stmt stmts open_after decls names group grouped read pair_bytes error_field number_of is_gate header entered entries gates_of latest registers top_scope body_scope is_param repeats decl_errors register_errors reg_errors assert_reg operand_errors match_errors expr_errors exprs_errors value_size compare_errors stmt_errors stmts_errors top_errors def_errors local_errors walks reaches leads those leaders way cycle stmt_calls stmts_calls decl_calls calls_of edge earliest pairs group_error recursion_errors errors bits_bytes entry_field turns latest_of starts_from bits_of bit_of start_of sizes common paired lanes spread known all_known qubits_from barrier_qubits run runs body_place run_gate top_place tops run_at run_of flat lay check_read check laid_run expand_read expand
specimens = refl

-- ---- what 01's wrong builds would answer otherwise

-- a Var named x with span 5, where three expressions stand
abbrev pub vars : ℕ → List ℕ
vars x = 3 ∷ (bytes4 5 ++ (bytes2 x ++ (0 ∷ (bytes4 6 ++ (0 ∷ bytes4 7)))))

abbrev pub rest : List Specimen
rest =
    -- a redefined gate's calls count as the first entry's, here of an opaque one
    lists (named1 97 ++ (tagged 5 (bytes4 60 ++ (bytes4 1 ++ (bytes2 0 ++ (0 ∷ 0 ∷ 0 ∷ [])))) ++ calling 0 0 7))
    (redefined_gate 1 0 70 60 ∷ recursive_definition ((60, 7) ∷ []) ∷ [])
    -- a call with a wrong count counts in the graph; its operand has an error of its own
    ∷ lists (named1 97 ++ (tagged 5 (bytes4 70 ++ (bytes4 1 ++ (bytes2 0 ++ (1 ∷ 0 ∷ 0 ∷ []))))
    ++ (tagged 21 (bytes4 7 ++ (bytes4 2 ++ (bytes2 0 ++ (0 ∷ 1 ∷ operand_bytes (whole 40 0))))) ++ tagged 6 [])))
    (wrong_argument_arity 7 70 0 0 1 ∷ undefined_register 0 40 7 ∷ recursive_definition ((70, 7) ∷ []) ∷ [])
    -- the operand before the expressions
    ∷ lists (named1 97 ++ tagged 16 (bytes4 1 ++ (operand_bytes (whole 2 0) ++ vars 0))) (undefined_register 0 2 1 ∷ undefined_parameter 0 1 5 ∷ [])
    -- a register stands after a statement, and its errors before the statement's
    ∷ lists (named1 97 ++ (tagged 16 (bytes4 1 ++ (operand_bytes (whole 2 0) ++ vars 0)) ++ qreg 0 0)) (zero_size_register 10 20 ∷ undefined_parameter 0 1 5 ∷ [])
    -- the least power of two not below the value is 2^64
    ∷ lists (if_on 63 18446744073709551615) (invalid_comparison_size 40 7 6 63 64 ∷ [])
    ∷ []

pub further : given rest ≡ wanted rest
unfolding first first_from any times byte word2 word4 word8 span name flag count operand named opcode leaf node expr same_bytes among fresh name_field include_field reg_field gate_lists gate_field u_field pair_field reset_field barrier_field call_lists call_field if_field items payload placed within next names_then field more from scan stmt stmts open_after decls names group grouped read pair_bytes error_field number_of is_gate header entered entries gates_of latest registers top_scope body_scope is_param repeats decl_errors register_errors reg_errors assert_reg operand_errors match_errors expr_errors exprs_errors value_size compare_errors stmt_errors stmts_errors top_errors def_errors local_errors walks reaches leads those leaders way cycle stmt_calls stmts_calls decl_calls calls_of edge earliest pairs group_error recursion_errors errors bits_bytes entry_field turns latest_of starts_from bits_of bit_of start_of sizes common paired lanes spread known all_known qubits_from barrier_qubits run runs body_place run_gate top_place tops run_at run_of flat lay check_read check laid_run expand_read expand
further = refl
