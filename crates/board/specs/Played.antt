-- What a list of steps leaves, each taken and kept, up to the first that is refused.
use Rattle.std.specs.Prelude.{◌≡◌, ℕ, ◌+◌, ◌<◌, true, List, length, take, Some, None, Ok, Err, Option, Result, slice_index_or}
use Rattle.amount.specs.Kind.{Kind}
use Rattle.job.specs.Cost.{cost}
use Rattle.job.specs.Grouping.{Grouping}
use Rattle.job.specs.Job.{Job}
use Rattle.view.specs.Play.{Position, is_free, stepped, played, AllFree}
use Rattle.view.specs.Remaining.{RespectsBoard, remaining}
use Rattle.view.specs.View.{View}
use Rattle.view.specs.declared.Step.{Step}
use Rattle.view.specs.declared.Step.TheVariants.{Join, Separation}
use Rattle.board.specs.Answers.{step_checked}
use Rattle.board.specs.State.{standing, view_of}
use Rattle.board.specs.declared.playing.RefusedStep.{RefusedStep}
use Rattle.board.specs.declared.refusals.StepRefusal.{StepRefusal}
use Rattle.board.specs.declared.state.State.{State}

-- the first refusal of a step that applies
abbrev pub refusal_at : {A : Type 0} → View → List A → Step → Result (Unit {0}) StepRefusal
refusal_at v cells (Join a b) = step_checked v cells a b
refusal_at v cells (Separation a b) = step_checked v cells a b

-- a board with its cells and a booked total
abbrev pub position : {A : Type 0} → State → List A → A → Position A
position s cells booked = record { view = view_of s; cells = cells; booked = booked }

-- one step, kept or refused: what it leaves
abbrev pub Stepped : {A : Type 0} → Kind A → State → List A → Step → Result A StepRefusal → State → List A → Type 0
Stepped {A} k s cells step (Ok amount) t cells' = ((booked : A) → (is_free (position s cells booked) step ≡ true) × (position t cells' (k.sum booked amount) ≡ stepped k (position s cells booked) step)) × (standing t ≡ standing s + 1)
Stepped k s cells step (Err refusal) t cells' = (t ≡ s) × ((cells' ≡ cells) × (refusal_at (view_of s) cells step ≡ Err refusal))

-- the steps that stand: all of the list, or those before the one that was refused
abbrev pub stood : List Step → Option RefusedStep → List Step
stood steps None = steps
stood steps (Some refused) = take refused.place steps

-- a refused step is one of the list, and is refused on the board that those before it lead to
abbrev pub RightlyRefused : {A : Type 0} → List Step → View → List A → Option RefusedStep → Type 0
RightlyRefused steps v cells None = Unit {0}
RightlyRefused steps v cells (Some refused) = (refused.place < length steps) × ((d : Step) → refusal_at v cells (slice_index_or steps refused.place d) ≡ Err refused.refusal)

-- each step that stands was of a pair that was open when it was taken; the board, its cells and what was booked are where these steps lead
pub record Stands {A : Type 0} (k : Kind A) (from : Position A) (steps : List Step) (at : Position A) (refused : Option RefusedStep) : Type 0 where
  pub all_free : AllFree k from (stood steps refused)
  pub leads : at ≡ played k from (stood steps refused)
  pub rightly : RightlyRefused steps at.view at.cells refused

-- each grouping that respects the board costs what was booked plus what remains
abbrev pub Priced : {A : Type 0} → Kind A → Job A → View → List A → A → Type 0
Priced k job v cells booked = (labels : List ℕ) → Grouping job.parts labels → RespectsBoard v labels → cost k job labels ≡ k.sum booked (remaining k v cells labels)
