-- What expand answers for a program without errors.
use Rattle.std.specs.Prelude.{◌≡◌, Bool, List, [], map, ℕ, ltb, eqb, length}
use Rattle.std.proofs.Common.{sym, ap}
use Rattle.rules.specs.declared.Answer.TheVariants.{Done, Rejected, Machine, Entries}
use Rattle.rules.specs.Basics.{pick}
use Rattle.rules.specs.Syntax.{Program}
use Rattle.rules.specs.Errors.{Error}
use Rattle.rules.specs.Grouping.{program}
use Rattle.rules.specs.Calls.{errors}
use Rattle.rules.specs.Run.{Entry, Out, done, entry_field, run_of}
use Rattle.rules.specs.Answers.{unchanged, lay, too_wide, ran_to, laid_run, expand_read}
use Rattle.theorems.specs.Words.{expanded}
use Rattle.theorems.specs.Count.{program_count, Solves}
use Rattle.theorems.specs.Progress.{progress}
use Rattle.theorems.specs.Counted.{solved_program, over_limit}

answers : (p : Program) (xs : List Error) (o : Out) (es : List Entry) (over : Bool) (out : List ℕ) → xs ≡ [] → o ≡ done es → ltb 4096 (length es) ≡ over
    → pick (eqb (length xs) 0) (pick (too_wide p) (unchanged Machine out) (laid_run (ran_to o) out)) (unchanged Rejected out)
    ≡ pick (too_wide p) (unchanged Machine out) (pick over (unchanged Entries out) (lay Done (map entry_field es) out))
unfolding laid_run
answers p xs o es over out d e f =
    rw (d, e) (ap (λ (b : Bool). pick (too_wide p) (unchanged Machine out) (pick b (unchanged Entries out) (lay Done (map entry_field es) out))) f)

pub expand_admitted : (p : Program) → errors p ≡ [] → (t : ℕ → ℕ) → Solves 4097 p t → (out : List ℕ)
    → (es : List Entry) × (run_of p ≡ done es) × (expand_read (program p) out ≡ expanded p (program_count p t) es out)
unfolding expand_read
expand_admitted p ok t s out =
    let r = progress p ok in
    let n = sym (over_limit 4096 (program_count p t) (length r.0) (solved_program p ok 4097 t s r.0 r.1)) in
    (r.0, r.1, answers p (errors p) (run_of p) r.0 (ltb 4096 (program_count p t)) out ok r.1 n)
