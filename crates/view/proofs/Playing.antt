-- Steps of open pairs, one after another, lead to reached boards.
use Rattle.std.proofs.Common.{◌≡◌, true, List, [], ◌∷◌, arith}
use Rattle.amount.specs.Kind.{Kind, Laws}
use Rattle.job.specs.Job.{Job, Sound}
use Rattle.view.specs.View.{Roomy}
use Rattle.view.specs.Steps.{start}
use Rattle.view.specs.Play.{Position, loaded, is_free, stepped, played, AllFree}
use Rattle.view.specs.Reached.{Reached, by_load, by_join, by_separation}
use Rattle.view.specs.Law.{CostAfterSteps}
use Rattle.view.specs.declared.Step.{Step}
use Rattle.view.specs.declared.Step.TheVariants.{Join, Separation}
use Rattle.view.proofs.Cells.{length_joined, length_loaded}
use Rattle.view.proofs.Reaching.{booked_and_remaining}

module _ {A : Type 0} (k : Kind A) (job : Job A) where
  abbrev At : Position A → Type 0
  At at = Reached k job at.view at.cells at.booked × Roomy at.view at.cells

  one_step : (at : Position A) (step : Step) → is_free at step ≡ true → At at → At (stepped k at step)
  one_step at (Join a b) e h = (by_join at.view at.cells at.booked a b h.0 h.1 e, omega (arith, h.1, length_joined k at.view at.cells a b))
  one_step at (Separation a b) e h = (by_separation at.view at.cells at.booked a b h.0 e, h.1)

  all_steps : (at : Position A) (steps : List Step) → AllFree k at steps → At at → At (played k at steps)
  all_steps at [] f h = h
  all_steps at (step ∷ steps) f h = all_steps (stepped k at step) steps f.1 (one_step at step f.0 h)

  pub reached_by_steps : (cells : List A) → Sound k job → Roomy (start job) cells → (steps : List Step) → AllFree k (loaded k job cells) steps → At (played k (loaded k job cells) steps)
  reached_by_steps cells s room steps f = all_steps (loaded k job cells) steps f (by_load cells s room, omega (arith, room, length_loaded k job cells))

pub cost_after_steps : {A : Type 0} (k : Kind A) → Laws k → CostAfterSteps k
cost_after_steps k laws job cells s room steps f labels = booked_and_remaining k laws job _ _ _ (reached_by_steps k job cells s room steps f).0 labels
