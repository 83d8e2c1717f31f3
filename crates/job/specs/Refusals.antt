-- The number and the text of each refusal.
use Rattle.std.specs.Prelude.{ℕ, List, codes}
use Rattle.job.specs.declared.JobRefusal.{JobRefusal}
use Rattle.job.specs.declared.JobRefusal.TheVariants.{PartCount, WrongSize, Lopsided, TooWide}
use Rattle.job.specs.declared.CostRefusal.{CostRefusal}
use Rattle.job.specs.declared.CostRefusal.TheVariants.{Job, LabelCount, NotGrouping, Marked}

abbrev pub job_number : JobRefusal → ℕ
job_number PartCount = 1
job_number WrongSize = 2
job_number Lopsided = 3
job_number TooWide = 4

abbrev pub cost_number : CostRefusal → ℕ
cost_number (Job refusal) = job_number refusal
cost_number LabelCount = 2
cost_number NotGrouping = 7
cost_number Marked = 6

abbrev pub job_text : JobRefusal → List ℕ
job_text PartCount = codes "too few or too many parts"
job_text WrongSize = codes "square or marks are not as long as the parts ask"
job_text Lopsided = codes "square or marks are lopsided or hold something on the diagonal"
job_text TooWide = codes "an amount of the square is too wide"

abbrev pub cost_text : CostRefusal → List ℕ
cost_text (Job refusal) = job_text refusal
cost_text LabelCount = codes "there is not one label for each part"
cost_text NotGrouping = codes "a label is not the smallest part of its group"
cost_text Marked = codes "a marked pair shares a group"
