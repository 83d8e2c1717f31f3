-- What the tests of loading and of steps tell, and so what each answer tells.
use Rattle.std.specs.Result.{IfOk}
use Rattle.std.proofs.Common.{◌≡◌, ℕ, ◌*◌, Bool, true, false, not, ◌&&◌, eqb, List, length, None, Ok, Err, Decides, Result, sym, refl, ap, subst, subst₂, inl, inr, arith}
use mathlib.Core.Bool.{Bool-set}
use mathlib.Core.Logic.{∥∥₁_elim}
use mathlib.Core.HLevel.{⊥_prop, ×_prop, Π_prop}
use base.Stored.{Coded-set, coded_ℕ}
use Rattle.std.proofs.lemmas.Bool.{and_from, ne_eqb}
use Rattle.std.proofs.lemmas.Bool.Decides.{Decides-and, Decides-not, Decides-eqb, Decides-like, not_from_Decides}
use Rattle.amount.specs.Kind.{Kind, Laws}
use Rattle.job.specs.Answers.{refused_with, FirstBroken}
use Rattle.job.specs.Job.{Job, Sound}
use Rattle.job.specs.Tests.{refuse_unless, refuse_or}
use Rattle.job.proofs.Told.{leb_tells, not_tells, grouping_tells}
use Rattle.job.specs.Grouping.{Grouping, is_grouping}
use Rattle.view.specs.Remaining.{RespectsBoard, remaining, is_respected}
use Rattle.view.proofs.Respect.{respected_tells}
use Rattle.view.specs.Reached.{Reached, by_join, by_separation}
use Rattle.view.specs.Steps.{start, join_booked, joined, joined_cells, separated, separation_booked}
use Rattle.view.specs.View.{View, width, next, is_open, Roomy}
use Rattle.board.specs.Answers.{is_roomy, load_rules, are_two, step_checked, step_rules, join_answer, separation_answer, remaining_answer, remaining_rules, if_done, Leaves, Carries}
use Rattle.board.specs.Refusals.{step_number, remaining_number}
use Rattle.board.specs.State.{standing, view_of}
use Rattle.board.specs.Trail.{Past}
use Rattle.board.specs.declared.refusals.RemainingRefusal.{RemainingRefusal}
use Rattle.board.specs.declared.refusals.RemainingRefusal.TheVariants as remains
use Rattle.board.specs.declared.refusals.StepRefusal.{StepRefusal}
use Rattle.board.specs.declared.refusals.StepRefusal.TheVariants as stepping
use Rattle.board.specs.declared.state.State.{State}
use Rattle.board.proofs.Back.{past_tidy}

-- an answer is no refusal
not_refused : {T E : Type 0} (x : T) (refusal : E) → Ok x ≡ Err refusal → ⊥
not_refused x refusal h = let no : ◌≡◌ {A = ℕ} 0 1 = cc in omega arith

module _ {A : Type 0} (v : View) (cells : List A) where
  pub roomy_tells : Decides (is_roomy v cells) (Roomy v cells)
  roomy_tells = leb_tells (width v * width v) (length cells)

module _ {A : Type 0} (v : View) (cells : List A) (a b : ℕ) where
  abbrev Two : Type 0
  Two = (v.live a ≡ true) × ((v.live b ≡ true) × (a ≡ b → ⊥))

  two_tells : Decides (are_two v a b) Two
  two_tells = Decides-like (are_two v a b) (λ h. (h.0.0, (h.0.1, h.1))) (λ h. ((h.0, h.1.0), h.1.1)) (Decides-and (v.live a && v.live b) (not (eqb a b)) (Decides-and (v.live a) (v.live b) ((λ e. e), (λ e. e)) ((λ e. e), (λ e. e))) (Decides-not (eqb a b) (Decides-eqb a b)))

  module _ {T : Type 0} (answer : T) where
    step_tells : FirstBroken (step_rules v cells a b) (refused_with step_number (refuse_or (λ (refusal : StepRefusal). refusal) (step_checked v cells a b) (Ok answer)))
    step_tells = go (is_roomy v cells) (are_two v a b) (not (v.apart a b)) (roomy_tells v cells) two_tells (not_tells (v.apart a b))
      where
        go : (x y z : Bool) → Decides x (Roomy v cells) → Decides y Two → Decides z (v.apart a b ≡ false) → FirstBroken (step_rules v cells a b) (refused_with step_number (refuse_or (λ (refusal : StepRefusal). refusal) (refuse_unless {T = Unit {0}} x stepping.TooFewCells (refuse_unless y stepping.NotLive (refuse_unless z stepping.Apart (Ok tt)))) (Ok answer)))
        go false y z p q r = inl (not_from_Decides false p refl, refl)
        go true false z p q r = inr (p.0 refl, inl (not_from_Decides false q refl, refl))
        go true true false p q r = inr (p.0 refl, inr (q.0 refl, inl (not_from_Decides false r refl, refl)))
        go true true true p q r = (p.0 refl, (q.0 refl, (r.0 refl, tt)))

    pub step_told : (r : Result T StepRefusal) → r ≡ refuse_or (λ (refusal : StepRefusal). refusal) (step_checked v cells a b) (Ok answer) → FirstBroken (step_rules v cells a b) (refused_with step_number r)
    step_told r e = subst (λ x. FirstBroken (step_rules v cells a b) (refused_with step_number x)) (sym e) step_tells

    -- an answer that is no refusal: the rules were kept
    pub record Taken (x : T) : Type 0 where
      pub room : Roomy v cells
      pub free : is_open v a b ≡ true
      pub is : x ≡ answer

    pub taken : (x : T) → Ok x ≡ refuse_or (λ (refusal : StepRefusal). refusal) (step_checked v cells a b) (Ok answer) → Taken x
    taken x e =
        let kept = step_told (Ok x) e in
        let two = kept.1.0 in
        record {
          room = kept.0;
          free = and_from (v.live a && v.live b) (not (eqb a b) && not (v.apart a b)) (and_from (v.live a) (v.live b) two.0 two.1.0) (and_from (not (eqb a b)) (not (v.apart a b)) (ap not (ne_eqb a b two.1.1)) (ap not kept.1.1.0));
          is = same_answer (step_checked v cells a b) e;
        }
      where
        same_answer : (checked : Result (Unit {0}) StepRefusal) → Ok x ≡ refuse_or (λ (refusal : StepRefusal). refusal) checked (Ok answer) → x ≡ answer
        same_answer (Ok _) h = cc
        same_answer (Err refusal) h = absurd (not_refused x refusal h)

-- Steps lead from reached boards to reached boards.
module _ {A : Type 0} (k : Kind A) (v : View) (cells : List A) (a b : ℕ) where
  pub join_carries : (r : Result (ℕ × A) StepRefusal) (before after : State) (cells' : List A) → r ≡ join_answer k v cells a b → Leaves r before (joined v a b) after → cells' ≡ if_done r (joined_cells k v cells a b) cells → IfOk r (λ x. Carries k v cells (view_of after) cells' x.1)
  join_carries (Ok x) before after cells' e l f =
      let t = taken v cells a b (next v, join_booked k v cells a b) x e in
      λ job booked reached. subst₂ (λ u c. Reached k job u c (k.sum booked x.1)) (sym l.view) (sym f) (subst (λ m. Reached k job (joined v a b) (joined_cells k v cells a b) (k.sum booked m)) (sym (ap (λ y. y.1) t.is)) (by_join v cells booked a b reached t.room t.free))
  join_carries (Err refusal) before after cells' e l f = tt

  pub separation_carries : (r : Result A StepRefusal) (before after : State) → r ≡ separation_answer k v cells a b → Leaves r before (separated v a b) after → IfOk r (λ x. Carries k v cells (view_of after) cells x)
  separation_carries (Ok x) before after e l =
      let t = taken v cells a b (separation_booked k v cells a b) x e in
      λ job booked reached. subst (λ u. Reached k job u cells (k.sum booked x)) (sym l.view) (subst (λ m. Reached k job (separated v a b) cells (k.sum booked m)) (sym t.is) (by_separation v cells booked a b reached t.free))
  separation_carries (Err refusal) before after e l = tt

-- Loading.
module _ {A : Type 0} (k : Kind A) (laws : Laws k) (job : Job A) (cells : List A) where
  -- all rules kept: a sound job, and cells enough
  pub loads : FirstBroken (load_rules k job cells) None → Sound k job × Roomy (start job) cells
  loads h = (record { within = h.0; sized = h.1.0; mirrored = h.1.1.1.0; narrow = h.1.1.1.1.0 }, h.1.1.0)

-- What remains.
respects_prop : (v : View) (labels : List ℕ) → IsProp (RespectsBoard v labels)
respects_prop v labels x y = λ z. record {
  within_id = λ i p q f h. Coded-set coded_ℕ _ _ (x.within_id i p q f h) (y.within_id i p q f h) z;
  across_apart = λ i j p q e f h s. ⊥_prop (x.across_apart i j p q e f h s) (y.across_apart i j p q e f h s) z;
}

decides_prop : (b : Bool) (P : Type 0) → IsProp P → IsProp (Decides b P)
decides_prop b P prop = ×_prop (Π_prop (λ _. prop)) (Π_prop (λ _. Bool-set b true))

module _ (s : State) (past : ∥ Past (standing s) s ∥₁) (labels : List ℕ) where
  respected_told : Decides (is_respected (view_of s) labels) (RespectsBoard (view_of s) labels)
  respected_told = ∥∥₁_elim past (decides_prop _ _ (respects_prop (view_of s) labels)) (λ p. respected_tells (view_of s) labels (past_tidy (standing s) s p).well_formed)

  module _ {A : Type 0} (k : Kind A) (cells : List A) where
    remaining_tells : FirstBroken (remaining_rules (view_of s) labels) (refused_with remaining_number (remaining_answer k (view_of s) cells labels))
    remaining_tells = go (eqb (length labels) (view_of s).parts) (is_grouping (view_of s).parts labels) (is_respected (view_of s) labels) (Decides-eqb _ _) (grouping_tells (view_of s).parts labels) respected_told
      where
        go : (a b c : Bool) → Decides a (length labels ≡ (view_of s).parts) → (length labels ≡ (view_of s).parts → Decides b (Grouping (view_of s).parts labels)) → Decides c (RespectsBoard (view_of s) labels) → FirstBroken (remaining_rules (view_of s) labels) (refused_with remaining_number (refuse_unless a remains.LabelCount (refuse_unless b remains.NotGrouping (refuse_unless c remains.NotRespected (Ok (remaining k (view_of s) cells labels))))))
        go false b c p q r = inl (not_from_Decides false p refl, refl)
        go true false c p q r = inr (p.0 refl, inl (not_from_Decides false (q (p.0 refl)) refl, refl))
        go true true false p q r = inr (p.0 refl, inr ((q (p.0 refl)).0 refl, inl (not_from_Decides false r refl, refl)))
        go true true true p q r = (p.0 refl, ((q (p.0 refl)).0 refl, (r.0 refl, tt)))

    pub remaining_told : (r : Result A RemainingRefusal) → r ≡ remaining_answer k (view_of s) cells labels → FirstBroken (remaining_rules (view_of s) labels) (refused_with remaining_number r)
    remaining_told r e = subst (λ x. FirstBroken (remaining_rules (view_of s) labels) (refused_with remaining_number x)) (sym e) remaining_tells
