use Rattle.std.proofs.Common.{rules, arith, ◌≡◌, ◌∷◌, ap, length}
use Rattle.texts.specs.Text.{lines_of}
use Rattle.texts.proofs.Laws.{lines_none, lines_some}
use Rattle.texts.proofs.LinesIterator.next.Goals as goal

pub returns-then-is_empty-clause-steps : goal.returns-then-is_empty-clause-steps
returns-then-is_empty-clause-steps c =
    let none = lines_none c.args.self.now.0.now (search rules) in
    (none, none)

pub returns-clause-steps : goal.returns-clause-steps
returns-clause-steps c =
    let some = lines_some c.args.self.now.0.now (search rules) in
    rw (c.cut.ensures.before, c.cut.ensures.behind) some

pub returns-clause-goes : goal.returns-clause-goes
returns-clause-goes c =
    let some = lines_some c.args.self.now.0.now (search rules) in
    let more : lines_of c.args.self.now.0.now ≡ c.cut.result.0.now ∷ lines_of c.cut.result.1.now = rw (c.cut.ensures.before, c.cut.ensures.behind) some in
    record { on = λ f. (search rules, search rules, omega (arith, ap length more)); keeps = search rules; rests = search rules }
