use Rattle.std.proofs.Common.{rules, sym, ◌∙◌}
use Rattle.rules.specs.Items.{end, expr}
use Rattle.items.specs.Ends.{times_ends}
use Rattle.items.proofs.angles_end.Goals as goal

pub returns : goal.returns
returns c = c.many.ensures (λ m. end (expr c.args.names 64 c.args.s.now m)) (λ m r l h. search rules) ∙ sym (times_ends (expr c.args.names 64) c.args.s.now c.args.count c.args.at)
