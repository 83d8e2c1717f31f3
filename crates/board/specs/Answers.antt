-- What the calls on boards answer and leave, and what each answer tells.
use Rattle.std.specs.Prelude.{◌≡◌, ℕ, ◌+◌, ◌*◌, ◌<◌, Bool, true, false, not, ◌&&◌, List, [], ◌∷◌, length, Ok, Err, Result, ◌==◌, ◌≢◌, nat_le}
use Rattle.amount.specs.Kind.{Kind}
use Rattle.job.specs.Answers.{Rule}
use Rattle.job.specs.Grouping.{Grouping, is_grouping}
use Rattle.job.specs.Job.{Job, Within, Sized, Mirrored, Narrow, is_within, is_sized, is_mirrored, is_narrow}
use Rattle.job.specs.Tests.{refuse_unless, refuse_or}
use Rattle.job.specs.declared.JobRefusal.TheVariants.{PartCount, WrongSize, Lopsided, TooWide}
use Rattle.view.specs.Law.{open_count}
use Rattle.view.specs.Reached.{Reached}
use Rattle.view.specs.Remaining.{RespectsBoard, remaining, is_respected}
use Rattle.view.specs.Steps.{start, join_booked, separation_booked}
use Rattle.view.specs.View.{View, width, next, Roomy}
use Rattle.board.specs.State.{standing, view_of}
use Rattle.board.specs.declared.refusals.LoadRefusal.{LoadRefusal}
use Rattle.board.specs.declared.refusals.LoadRefusal.TheVariants as loading
use Rattle.board.specs.declared.refusals.RemainingRefusal.{RemainingRefusal}
use Rattle.board.specs.declared.refusals.RemainingRefusal.TheVariants as remains
use Rattle.board.specs.declared.refusals.StepRefusal.{StepRefusal}
use Rattle.board.specs.declared.refusals.StepRefusal.TheVariants as stepping
use Rattle.board.specs.declared.state.State.{State}

-- the one if a call did what it is for, the other if it refused
abbrev pub if_done : {T E X : Type 0} → Result T E → X → X → X
if_done (Ok _) done refused = done
if_done (Err _) done refused = refused

-- cells enough for every pair of ids, as a test
abbrev pub is_roomy : {A : Type 0} → View → List A → Bool
is_roomy v cells = nat_le (width v * width v) (length cells)

-- the first refusal of loading that applies
abbrev pub load_checked : {A : Type 0} → Kind A → Job A → List A → Result (Unit {0}) LoadRefusal
load_checked k job cells =
    refuse_unless (is_within job) (loading.Job PartCount)
    (refuse_unless (is_sized job) (loading.Job WrongSize)
    (refuse_unless (is_roomy (start job) cells) loading.TooFewCells
    (refuse_unless (is_mirrored k job) (loading.Job Lopsided)
    (refuse_unless (is_narrow k job.square) (loading.Job TooWide)
    (Ok tt)))))

abbrev pub load_rules : {A : Type 0} → Kind A → Job A → List A → List Rule
load_rules k job cells = (1, Within job) ∷ (2, Sized job) ∷ (2, Roomy (start job) cells) ∷ (3, Mirrored k job) ∷ (4, Narrow k job.square) ∷ []

-- two live ids
abbrev pub are_two : View → ℕ → ℕ → Bool
are_two v a b = (v.live a && v.live b) && not (a == b)

-- the first refusal of a step that applies
abbrev pub step_checked : {A : Type 0} → View → List A → ℕ → ℕ → Result (Unit {0}) StepRefusal
step_checked v cells a b =
    refuse_unless (is_roomy v cells) stepping.TooFewCells
    (refuse_unless (are_two v a b) stepping.NotLive
    (refuse_unless (not (v.apart a b)) stepping.Apart
    (Ok tt)))

abbrev pub step_rules : {A : Type 0} → View → List A → ℕ → ℕ → List Rule
step_rules v cells a b = (2, Roomy v cells) ∷ (5, (v.live a ≡ true) × ((v.live b ≡ true) × (a ≢ b))) ∷ (6, v.apart a b ≡ false) ∷ []

-- a join answers the new id and what it booked
abbrev pub join_answer : {A : Type 0} → Kind A → View → List A → ℕ → ℕ → Result (ℕ × A) StepRefusal
join_answer k v cells a b = refuse_or (λ refusal. refusal) (step_checked v cells a b) (Ok (next v, join_booked k v cells a b))

-- a separation answers what it booked
abbrev pub separation_answer : {A : Type 0} → Kind A → View → List A → ℕ → ℕ → Result A StepRefusal
separation_answer k v cells a b = refuse_or (λ refusal. refusal) (step_checked v cells a b) (Ok (separation_booked k v cells a b))

-- what a taken step makes of a board: the view that its rule gives, one step more, and fewer open pairs
pub record StepsTo (before : State) (stepped : View) (after : State) : Type 0 where
  pub view : view_of after ≡ stepped
  pub more : standing after ≡ standing before + 1
  pub fewer : open_count (view_of after) < open_count (view_of before)

-- what a step leaves of a board: that if it was taken; the board as it was if it was refused
abbrev pub Leaves : {T : Type 0} → Result T StepRefusal → State → View → State → Type 0
Leaves (Ok _) before stepped after = StepsTo before stepped after
Leaves (Err _) before stepped after = after ≡ before

-- a step that books this leads from reached boards to reached boards
abbrev pub Carries : {A : Type 0} → Kind A → View → List A → View → List A → A → Type 0
Carries {A} k v cells v' cells' amount = (job : Job A) (booked : A) → Reached k job v cells booked → Reached k job v' cells' (k.sum booked amount)

-- what a grouping costs from a board on, or the first refusal that applies
abbrev pub remaining_answer : {A : Type 0} → Kind A → View → List A → List ℕ → Result A RemainingRefusal
remaining_answer k v cells labels =
    refuse_unless (length labels == v.parts) remains.LabelCount
    (refuse_unless (is_grouping v.parts labels) remains.NotGrouping
    (refuse_unless (is_respected v labels) remains.NotRespected
    (Ok (remaining k v cells labels))))

abbrev pub remaining_rules : View → List ℕ → List Rule
remaining_rules v labels = (2, length labels ≡ v.parts) ∷ (7, Grouping v.parts labels) ∷ (6, RespectsBoard v labels) ∷ []
