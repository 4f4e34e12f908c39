use borrow.Author.Rules.{rules}
use Rattle.tables.specs.Zeros.{zeros, zeros_length, zeros_word}
use Rattle.collect.proofs.Headers.{decls_start, decls_inside, decls_other, decls_header, decls_done}
use Rattle.collect.proofs.collect_decls.Goals.{else-not-f-via-then-not-f+else-f-eq5, else-not-f-via-else-not-f}
use Rattle.collect.proofs.collect_decls.Goals as goal

pub loop-f-init : goal.loop-f-init
loop-f-init c = decls_start _ (zeros 2048) (zeros 128) _ _ (search rules) (search rules) (zeros_length 2048) (zeros_word 2048) (zeros_length 128)

pub loop-f-preserved-then-f-eq5 : goal.loop-f-preserved-then-f-eq5
loop-f-preserved-then-f-eq5 c =
    decls_header _ _ _ _ _ _ _ c.loop-f.invariant c.in-Some.ensures.steps c.if-not-f.true c.if-f-eq5.true _ _ c.header.ensures

pub loop-f-preserved : goal.loop-f-preserved
loop-f-preserved c = elim c.else-not-f.branch [
  | else-not-f-via-then-not-f+else-f-eq5 w ↦ decls_other _ _ _ _ _ _ _ c.loop-f.invariant c.in-Some.ensures.steps w.if-not-f.true w.if-f-eq5.false
  | else-not-f-via-else-not-f w ↦ decls_inside _ _ _ _ _ _ _ c.loop-f.invariant c.in-Some.ensures.steps w.if-not-f.false
]

pub returns : goal.returns
returns c = decls_done _ _ _ _ _ _ c.loop-f.invariant c.in-None.ensures.steps
