use Rattle.std.proofs.Common.{ap}
use Rattle.pesukoymi.proofs.Laying.{answer_put}
use Rattle.pesukoymi.proofs.put_answer.Goals as goal

pub returns : goal.returns
returns c =
    answer_put _ _ _ _ _ _ _ _ c.from.ensures (ap (λ v. v.0) c.values_of-first.ensures) (ap (λ v. v.1) c.values_of-first.ensures) c.put8.ensures c.put8-2.ensures c.put8-3.ensures
