use Rattle.std.proofs.Common.{Ok, Err, rules}
use Rattle.job.specs.Lent.{job_of}
use Rattle.job.specs.declared.CostRefusal.TheVariants.{Marked}
use Rattle.job.proofs.Exact.{exact_cost}
use Rattle.job.proofs.Told.{price_told}
use Rattle.job.proofs.lent.Job.cost.Goals as goal

pub returns-then-not-is_respected-clause-tells : goal.returns-then-not-is_respected-clause-tells
returns-then-not-is_respected-clause-tells g c = price_told g.A.Amount.kind g.met.A.Amount.laws (job_of c.args.self.now) c.args.labels.now (Err Marked) (search rules)

pub returns-clause-tells : goal.returns-clause-tells
returns-clause-tells g c = price_told g.A.Amount.kind g.met.A.Amount.laws (job_of c.args.self.now) c.args.labels.now (Ok c.cost.result) (search rules)

-- the parts are few and the amounts narrow, as the check has told
pub returns-clause-exact : goal.returns-clause-exact
returns-clause-exact g c = let sound = c.in_ok-check.ensures.tells in λ _. exact_cost g.A.Amount.kind g.met.A.Amount.laws (job_of c.args.self.now) c.args.labels.now sound.0.1 sound.1.1.1.0
