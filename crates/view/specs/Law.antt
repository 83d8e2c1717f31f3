-- What holds of every reached board.
use Rattle.std.specs.Prelude.{◌≡◌, ℕ, ◌+◌, ◌-◌, ◌*◌, ◌/◌, ◌^◌, ◌<◌, ◌≤◌, true, ◌⊎◌, List, map, length, filter}
use Rattle.amount.specs.Kind.{Kind}
use Rattle.amount.specs.Totals.{spans}
use Rattle.job.specs.Job.{Job, max_span, Sound}
use Rattle.job.specs.Grouping.{Grouping, Respects}
use Rattle.job.specs.Cost.{cost}
use Rattle.job.specs.Tests.{pairs}
use Rattle.view.specs.Good.{Good}
use Rattle.view.specs.View.{View, width, is_open, amount_in, live_amount, Roomy}
use Rattle.view.specs.Steps.{start, joined, separated}
use Rattle.view.specs.Play.{loaded, played, AllFree}
use Rattle.view.specs.declared.Step.{Step}
use Rattle.view.specs.Reached.{Reached}
use Rattle.view.specs.Remaining.{RespectsBoard, remaining}

-- each grouping that respects a reached board costs what was booked plus what remains
abbrev pub BookedAndRemaining : {A : Type 0} → Kind A → Type 0
BookedAndRemaining {A} k = (job : Job A) (v : View) (cells : List A) (booked : A) → Reached k job v cells booked → (labels : List ℕ) → Grouping job.parts labels → RespectsBoard v labels → cost k job labels ≡ k.sum booked (remaining k v cells labels)

-- the same after any list of joins and separations of open pairs on the loaded board
abbrev pub CostAfterSteps : {A : Type 0} → Kind A → Type 0
CostAfterSteps {A} k = (job : Job A) (cells : List A) → Sound k job → Roomy (start job) cells → (steps : List Step) → AllFree k (loaded k job cells) steps → (labels : List ℕ) → Grouping job.parts labels → RespectsBoard (played k (loaded k job cells) steps).view labels → cost k job labels ≡ k.sum (played k (loaded k job cells) steps).booked (remaining k (played k (loaded k job cells) steps).view (played k (loaded k job cells) steps).cells labels)

-- the number of pairs of parts
abbrev pub pair_count : ℕ → ℕ
pair_count n = n * (n - 1) / 2

-- the most that the amounts of a job's pairs span together
abbrev pub most_spans : {A : Type 0} → Job A → ℕ
most_spans job = pair_count job.parts * max_span

-- how many pairs are open
abbrev pub open_count : View → ℕ
open_count v = length (filter (λ p. is_open v p.0 p.1) (pairs (width v)))

-- what every reached board keeps
pub record Kept {A : Type 0} (k : Kind A) (job : Job A) (v : View) (cells : List A) (booked : A) : Type 0 where
  pub well_formed : Good v
  pub same_parts : v.parts ≡ job.parts
  pub symmetric : (i j : ℕ) → v.live i ≡ true → v.live j ≡ true → amount_in k v cells i j ≡ amount_in k v cells j i
  pub live_spans : spans k (map (λ p. live_amount k v cells p.0 p.1) (pairs (width v))) ≤ most_spans job
  -- what a step books spans at most that much, and each step settles a pair
  pub booked_bound : k.span booked + open_count v * most_spans job ≤ pair_count job.parts * most_spans job
  pub booked_span : k.span booked < 2 ^ 38
  pub settles : (a b : ℕ) → is_open v a b ≡ true → (open_count (joined v a b) < open_count v) × (open_count (separated v a b) < open_count v)
  pub respects_marks : (labels : List ℕ) → RespectsBoard v labels → Respects job labels
  pub branches : (a b : ℕ) → is_open v a b ≡ true → (labels : List ℕ) → Grouping job.parts labels → RespectsBoard v labels → RespectsBoard (joined v a b) labels ⊎ RespectsBoard (separated v a b) labels

abbrev pub ReachedKeeps : {A : Type 0} → Kind A → Type 0
ReachedKeeps {A} k = (job : Job A) (v : View) (cells : List A) (booked : A) → Reached k job v cells booked → Kept k job v cells booked
