-- What a lent job means.
use Rattle.job.specs.Job.{Job}
use Rattle.job.specs.declared.lent.Job.{Job as Lent}

-- its parts, with the square and the marks as they are now
abbrev pub job_of : {A : Type 0} → Lent A → Job A
job_of lent = record { parts = lent.parts; square = lent.square.now; marks = lent.marks.now }
