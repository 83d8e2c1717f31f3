use Rattle.std.proofs.Common.{rules, tests, arith}
use Rattle.std.proofs.lemmas.Iterator.{YieldsList-from_range}
use Rattle.job.specs.Cost.{separating_charge, joining_charge}
use Rattle.job.specs.Lent.{job_of}
use Rattle.job.proofs.Walks.{totals_from_rows}
use Rattle.job.proofs.lent.Job.bill.Goals as goal

pub returns : goal.returns
returns g c =
    let k = g.A.Amount.kind in
    let job = job_of c.args.self.now in
    let labels = c.args.labels.now in
    let totals = totals_from_rows k (separating_charge k job labels) (joining_charge k job labels) _ job.parts c.default.result c.fold.result c.fold.ensures.ran (YieldsList-from_range 0 job.parts job.parts (search rules) (omega arith)) (λ a x b q h. search (rules, tests)) in
    record { separating = search rules; joining = search rules }
