use lib.ListN.{drop}
use Rattle.rules.specs.Errors.{pair_bytes}
use Rattle.calls.specs.Telling.{pairs_by}
use Rattle.calls.proofs.Pairs.{Owing}
use Rattle.calls.proofs.Tables.put_pairs.Given as goal

abbrev pub invariant-loop-h : goal.invariant-loop-h
invariant-loop-h l =
    Owing l.initial.w (pair_bytes (pairs_by l.self.defs.now l.self.spans.now l.g l.cycle)) l.w (pair_bytes (pairs_by l.self.defs.now l.self.spans.now l.from (drop l.h-index l.cycle)))
