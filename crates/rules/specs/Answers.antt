-- What each service answers and leaves in the lent buffer, from the image and the buffer at entry alone.
use Rattle.std.specs.Prelude.{ℕ, List, [], ◌∷◌, ◌++◌, map, Bool, true, false, ◌||◌, length, drop, ltb, eqb}
use Rattle.rules.specs.declared.Answer.{Answer}
use Rattle.rules.specs.declared.Fault.{Fault}
use Rattle.rules.specs.declared.Fault.TheVariants.{TooLong, Cut, BadTag, BadItem, BadName, TooMany}
use Rattle.rules.specs.declared.Answer.TheVariants.{Done, Errors, Refused, Rejected, Machine, Entries, Room}
use Rattle.rules.specs.Basics.{pick}
use Rattle.rules.specs.Syntax.{Program}
use Rattle.rules.specs.Grouping.{Reading, refuses, program, read}
use Rattle.rules.specs.Errors.{error_field, bytes8}
use Rattle.rules.specs.Checking.{registers}
use Rattle.rules.specs.Calls.{errors}
use Rattle.rules.specs.Order.{order_of}
use Rattle.rules.specs.Run.{Out, stuck, done, Entry, entry_field, bits_of, run_of}

-- ---- 01's table: the number and the two values of each answer

abbrev pub fault_number : Fault → ℕ
fault_number TooLong = 2
fault_number Cut = 3
fault_number BadTag = 4
fault_number BadItem = 5
fault_number BadName = 6
fault_number TooMany = 7

abbrev pub number : Answer → ℕ
number (Done items bytes) = 0
number (Errors errors bytes) = 1
number (Refused k offset) = fault_number k
number Rejected = 8
number Machine = 9
number Entries = 10
number (Room items bytes) = 11

-- 01: "Numbers not named are zero."
abbrev pub values : Answer → ℕ × ℕ
values (Done items bytes) = (items, bytes)
values (Errors errors bytes) = (errors, bytes)
values (Refused k offset) = (offset, 0)
values Rejected = (0, 0)
values Machine = (0, 0)
values Entries = (0, 0)
values (Room items bytes) = (items, bytes)

-- the three numbers as 24 bytes, for the boundary
unfoldable pub answer_bytes : Answer → List ℕ
answer_bytes r = bytes8 (number r) ++ (bytes8 (values r).0 ++ bytes8 (values r).1)

-- ---- an answer with the buffer after it

pub record Result : Type 0 where
  pub answer : Answer
  pub buffer : List ℕ

-- 01: "Refusals are 2 to 11, each given exactly then, and the buffer is unchanged."
abbrev pub unchanged : Answer → List ℕ → Result
unchanged r out = record { answer = r; buffer = out }

unfoldable pub flat : List (List ℕ) → List ℕ
flat [] = []
flat (f ∷ fs) = f ++ flat fs

-- 01: "Bytes past those written stay as they were."; "11: output buffer too small: items and bytes needed"
unfoldable pub lay : (ℕ → ℕ → Answer) → List (List ℕ) → List ℕ → Result
lay answer items out =
    pick (ltb (length out) (length (flat items)))
    (unchanged (Room (length items) (length (flat items))) out)
    (record { answer = answer (length items) (length (flat items)); buffer = flat items ++ drop (length (flat items)) out })

-- ---- check. 01: "0: done; for check: no errors"; "1: check only: errors listed"

abbrev pub listed : ℕ → ℕ → Answer
listed n b = pick (eqb n 0) (Done n b) (Errors n b)

unfoldable pub check_read : Reading → List ℕ → Result
check_read (refuses k o) out = unchanged (Refused k o) out
check_read (program p) out = lay listed (map error_field (errors p)) out

unfoldable pub check : (image out : List ℕ) → Result
check image out = check_read (read image) out

-- ---- order and expand. 01: "Order: 2; then fields from the front, first fault; then 8, 9, 10, 11."

-- 01: "8: order, expand: check finds errors"
abbrev pub admitted : Program → Bool
admitted p = eqb (length (errors p)) 0

unfoldable pub order_read : Reading → List ℕ → Result
order_read (refuses k o) out = unchanged (Refused k o) out
order_read (program p) out = pick (admitted p) (lay Done (map (λ g. g ∷ []) (order_of p)) out) (unchanged Rejected out)

unfoldable pub order : (image out : List ℕ) → Result
order image out = order_read (read image) out

-- 01: "9: expand: over 4,096 quantum or over 4,096 classical bits"
abbrev pub too_wide : Program → Bool
too_wide p = ltb 4096 (bits_of false (registers p.decls)) || ltb 4096 (bits_of true (registers p.decls))

-- an admitted program's run is never stuck
abbrev pub ran_to : Out → List Entry
ran_to stuck = []
ran_to (done es) = es

-- 01: "10: expand: over 4,096 entries"
unfoldable pub laid_run : List Entry → List ℕ → Result
laid_run es out = pick (ltb 4096 (length es)) (unchanged Entries out) (lay Done (map entry_field es) out)

unfoldable pub expand_read : Reading → List ℕ → Result
expand_read (refuses k o) out = unchanged (Refused k o) out
expand_read (program p) out =
    pick (admitted p) (pick (too_wide p) (unchanged Machine out) (laid_run (ran_to (run_of p)) out)) (unchanged Rejected out)

unfoldable pub expand : (image out : List ℕ) → Result
expand image out = expand_read (read image) out
