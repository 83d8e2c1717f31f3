use Rattle.std.proofs.Common.{rules, tests, arith}
use Rattle.std.proofs.lemmas.Iterator.{YieldsList-from_range}
use Rattle.job.specs.Cost.{separating_charge, joining_charge}
use Rattle.job.specs.Lent.{job_of}
use Rattle.job.proofs.Walks.{totals_from_row}
use Rattle.job.proofs.lent.Job.row_bill.Goals as goal

pub returns : goal.returns
returns g c =
    let k = g.A.Amount.kind in
    let job = job_of c.args.self.now in
    let labels = c.args.labels.now in
    let totals = totals_from_row k (separating_charge k job labels) (joining_charge k job labels) _ c.args.j c.args.so_far c.fold.result c.fold.ensures.ran (YieldsList-from_range 0 c.args.j c.args.j (search rules) (omega arith)) (λ a x b q h. search (rules, tests)) in
    record { separating = totals.0; joining = totals.1 }
