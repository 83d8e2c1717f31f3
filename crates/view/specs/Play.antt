-- Steps one after another, from a loaded board.
use Rattle.std.specs.Prelude.{◌≡◌, Bool, true, List, [], ◌∷◌}
use Rattle.amount.specs.Kind.{Kind}
use Rattle.job.specs.Job.{Job}
use Rattle.view.specs.View.{View, is_open}
use Rattle.view.specs.Steps.{start, loaded_cells, load_booked, joined, joined_cells, join_booked, separated, separation_booked}
use Rattle.view.specs.declared.Step.{Step}
use Rattle.view.specs.declared.Step.TheVariants.{Join, Separation}

-- a board with its cells and what was booked on the way
pub record Position (A : Type 0) : Type 0 where
  pub view : View
  pub cells : List A
  pub booked : A

abbrev pub loaded : {A : Type 0} → Kind A → Job A → List A → Position A
loaded k job cells = record { view = start job; cells = loaded_cells k job cells; booked = load_booked k job }

-- whether the step's pair is open
abbrev pub is_free : {A : Type 0} → Position A → Step → Bool
is_free at (Join a b) = is_open at.view a b
is_free at (Separation a b) = is_open at.view a b

abbrev pub stepped : {A : Type 0} → Kind A → Position A → Step → Position A
stepped k at (Join a b) = record {
  view = joined at.view a b;
  cells = joined_cells k at.view at.cells a b;
  booked = k.sum at.booked (join_booked k at.view at.cells a b);
}
stepped k at (Separation a b) = record {
  view = separated at.view a b;
  cells = at.cells;
  booked = k.sum at.booked (separation_booked k at.view at.cells a b);
}

abbrev pub played : {A : Type 0} → Kind A → Position A → List Step → Position A
played k at [] = at
played k at (step ∷ steps) = played k (stepped k at step) steps

-- each step is of a pair that is open when it is taken
abbrev pub AllFree : {A : Type 0} → Kind A → Position A → List Step → Type 0
AllFree k at [] = Unit {0}
AllFree k at (step ∷ steps) = (is_free at step ≡ true) × AllFree k (stepped k at step) steps
