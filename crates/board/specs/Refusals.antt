-- The number and the text of each refusal.
use Rattle.std.specs.Prelude.{ℕ, List, codes}
use Rattle.job.specs.Refusals.{job_number, job_text}
use Rattle.board.specs.declared.refusals.LoadRefusal.{LoadRefusal}
use Rattle.board.specs.declared.refusals.LoadRefusal.TheVariants as loading
use Rattle.board.specs.declared.refusals.StepRefusal.{StepRefusal}
use Rattle.board.specs.declared.refusals.StepRefusal.TheVariants as stepping
use Rattle.board.specs.declared.refusals.RemainingRefusal.{RemainingRefusal}
use Rattle.board.specs.declared.refusals.RemainingRefusal.TheVariants as remaining

abbrev pub load_number : LoadRefusal → ℕ
load_number (loading.Job refusal) = job_number refusal
load_number loading.TooFewCells = 2

abbrev pub step_number : StepRefusal → ℕ
step_number stepping.TooFewCells = 2
step_number stepping.NotLive = 5
step_number stepping.Apart = 6

abbrev pub remaining_number : RemainingRefusal → ℕ
remaining_number remaining.LabelCount = 2
remaining_number remaining.NotGrouping = 7
remaining_number remaining.NotRespected = 6

abbrev pub load_text : LoadRefusal → List ℕ
load_text (loading.Job refusal) = job_text refusal
load_text loading.TooFewCells = codes "there are too few cells"

abbrev pub step_text : StepRefusal → List ℕ
step_text stepping.TooFewCells = codes "there are too few cells"
step_text stepping.NotLive = codes "an id is not live, or both are the same"
step_text stepping.Apart = codes "the pair is apart"

abbrev pub remaining_text : RemainingRefusal → List ℕ
remaining_text remaining.LabelCount = codes "there is not one label for each part"
remaining_text remaining.NotGrouping = codes "the labels are not a grouping"
remaining_text remaining.NotRespected = codes "the grouping does not respect the board"
