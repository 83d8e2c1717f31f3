-- Lists of steps, one step more.
use Rattle.std.proofs.Common.{◌≡◌, ℕ, ◌+◌, ◌<◌, true, List, [], ◌∷◌, ◌++◌, length, get_or, take, Some, None, Ok, Err, Option, sym, refl, ap, ◌∙◌, subst, subst₂, arith}
use Rattle.std.proofs.lemmas.List.{take_more, take_all, length-take-le, get_or_default}
use Rattle.amount.specs.Kind.{Kind}
use Rattle.job.specs.Job.{Job, Sound}
use Rattle.view.specs.Reached.{Reached}
use Rattle.view.specs.Steps.{start}
use Rattle.view.specs.View.{Roomy}
use Rattle.view.proofs.Playing.{reached_by_steps}
use Rattle.view.specs.Play.{Position, loaded, is_free, stepped, played, AllFree}
use Rattle.view.specs.declared.Step.{Step}
use Rattle.board.specs.Played.{refusal_at, position, Stepped, stood, Stands}
use Rattle.board.specs.State.{standing, view_of}
use Rattle.board.specs.declared.playing.RefusedStep.{RefusedStep}
use Rattle.board.specs.declared.refusals.StepRefusal.{StepRefusal}
use Rattle.board.specs.declared.state.State.{State}

module _ {A : Type 0} (k : Kind A) where
  played_push : (at : Position A) (steps : List Step) (step : Step) → played k at (steps ++ step ∷ []) ≡ stepped k (played k at steps) step
  played_push at [] step = refl
  played_push at (first ∷ steps) step = played_push (stepped k at first) steps step

  free_push : (at : Position A) (steps : List Step) (step : Step) → AllFree k at steps → is_free (played k at steps) step ≡ true → AllFree k at (steps ++ step ∷ [])
  free_push at [] step f e = (e, tt)
  free_push at (first ∷ steps) step f e = (f.0, free_push (stepped k at first) steps step f.1 e)

  -- the first m steps were taken, and lead here
  pub record SoFar (from : Position A) (steps : List Step) (m : ℕ) (s : State) (cells : List A) (booked : A) : Type 0 where
    pub count : standing s ≡ m
    pub all_free : AllFree k from (take m steps)
    pub leads : position s cells booked ≡ played k from (take m steps)

  pub one_more : (from : Position A) (steps : List Step) (m : ℕ) (s t : State) (cells cells' : List A) (booked amount total : A) (d : Step) → m < length steps → SoFar from steps m s cells booked → Stepped k s cells (get_or steps m d) (Ok amount) t cells' → total ≡ k.sum booked amount → SoFar from steps (m + 1) t cells' total
  one_more from steps m s t cells cells' booked amount total d h so g f =
      let step = get_or steps m d in
      let more : take (m + 1) steps ≡ take m steps ++ step ∷ [] = take_more steps m d h in
      let now = g.0 booked in
      record {
        count = omega (arith, so.count, g.1);
        all_free = subst (AllFree k from) (sym more) (free_push from (take m steps) step so.all_free (subst (λ at. is_free at step ≡ true) so.leads now.0));
        leads = ap (position t cells') f ∙ now.1 ∙ ap (λ at. stepped k at step) so.leads ∙ sym (ap (played k from) more ∙ played_push from (take m steps) step);
      }

  -- what the loop leaves
  pub record Ended (from : Position A) (steps : List Step) (s : State) (cells : List A) (booked : A) (refused : Option RefusedStep) : Type 0 where
    pub stands : Stands k from steps (position s cells booked) refused
    pub count : standing s ≡ length (stood steps refused)

  -- the loop begins, and ends in one of two ways
  pub begins : (steps : List Step) (s : State) (cells : List A) (booked : A) → standing s ≡ 0 → SoFar (position s cells booked) steps 0 s cells booked
  begins steps s cells booked e = record { count = e; all_free = tt; leads = refl }

  pub ends_all : (from : Position A) (steps : List Step) (m : ℕ) (s : State) (cells : List A) (booked : A) → m ≡ length steps → SoFar from steps m s cells booked → Ended from steps s cells booked None
  ends_all from steps m s cells booked e so =
      let whole : take m steps ≡ steps = take_all m steps (omega arith) in
      record {
        stands = record { all_free = subst (AllFree k from) whole so.all_free; leads = so.leads ∙ ap (played k from) whole; rightly = tt };
        count = so.count ∙ e;
      }

  pub ends_at : (from : Position A) (steps : List Step) (m : ℕ) (s t : State) (cells cells' : List A) (booked : A) (refusal : StepRefusal) (d : Step) → m < length steps → SoFar from steps m s cells booked → Stepped k s cells (get_or steps m d) (Err refusal) t cells' → Ended from steps t cells' booked (Some (record { place = m; refusal = refusal }))
  ends_at from steps m s t cells cells' booked refusal d h so g =
      subst₂ (λ u c. Ended from steps u c booked (Some (record { place = m; refusal = refusal }))) (sym g.0) (sym g.1.0)
      record {
        stands = record { all_free = so.all_free; leads = so.leads; rightly = (h, λ e. ap (refusal_at (view_of s) cells) (get_or_default steps m e d h) ∙ g.1.1) };
        count = so.count ∙ sym (length-take-le m steps (omega arith));
      }

-- What stands on a loaded board is reached.
module _ {A : Type 0} (k : Kind A) (job : Job A) (cells : List A) (sound : Sound k job) (room : Roomy (start job) cells) where
  pub reached_by : (steps : List Step) (at : Position A) (refused : Option RefusedStep) → Stands k (loaded k job cells) steps at refused → Reached k job at.view at.cells at.booked
  reached_by steps at refused h =
      subst (λ to. Reached k job to.view to.cells to.booked) (sym h.leads) (reached_by_steps k job cells sound room (stood steps refused) h.all_free).0
