use Rattle.std.proofs.Common.{Ok, Err, rules}
use Rattle.job.specs.Lent.{job_of}
use Rattle.job.specs.declared.JobRefusal.TheVariants.{Lopsided, TooWide}
use Rattle.job.proofs.Told.{check_told}
use Rattle.job.proofs.lent.Job.check.Goals as goal

pub returns-then-not-is_mirrored-clause-tells : goal.returns-then-not-is_mirrored-clause-tells
returns-then-not-is_mirrored-clause-tells g c = check_told g.A.Amount.kind g.met.A.Amount.laws (job_of c.args.self.now) (Err Lopsided) (search rules)

pub returns-then-not-is_narrow-clause-tells : goal.returns-then-not-is_narrow-clause-tells
returns-then-not-is_narrow-clause-tells g c = check_told g.A.Amount.kind g.met.A.Amount.laws (job_of c.args.self.now) (Err TooWide) (search rules)

pub returns-clause-tells : goal.returns-clause-tells
returns-clause-tells g c = check_told g.A.Amount.kind g.met.A.Amount.laws (job_of c.args.self.now) (Ok tt) (search rules)
