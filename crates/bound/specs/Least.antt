-- What remains is at least zero on every reached board.
use Rattle.std.specs.Prelude.{◌≡◌, ℕ, ◌+◌, ◌*◌, ◌≤◌, Bool, true, false, ◌&&◌, ◌⊎◌, List, [], ◌∷◌, map, fold, refl}
use Rattle.std.proofs.Common.{sym, ap, subst, subst₂, ◌∙◌, inl, inr, arith}
use Rattle.std.specs.List.{AllByRecursion}
use Rattle.std.proofs.ByRecursion.{All-weaker}
use Rattle.std.proofs.lemmas.Bool.{cases_Bool, cond-true, cond-false, and_parts}
use Rattle.amount.specs.Kind.{Kind, Laws, AtMost, span_limit}
use Rattle.amount.specs.Signs.{positive_part, negative_part}
use Rattle.amount.specs.Totals.{total, spans}
use Rattle.amount.proofs.Order.{irreflexive, not_both, at_most_itself}
use Rattle.amount.proofs.Signs.{opposite_negative}
use Rattle.amount.proofs.Totals.{total_map_at_most}
use Rattle.job.specs.Tests.{pairs}
use Rattle.job.specs.Job.{Job}
use Rattle.view.specs.Law.{Kept, pair_count}
use Rattle.view.specs.Reached.{Reached}
use Rattle.view.specs.Remaining.{share, remaining}
use Rattle.view.specs.View.{View, width, is_open, amount_in, live_amount}
use Rattle.view.proofs.Count.{few_pairs}
use Rattle.view.proofs.Due.{due, open_due, due_under, spans_map_under, remaining_due}
use Rattle.view.proofs.Reaching.{reached_keeps}

module _ {A : Type 0} (k : Kind A) (laws : Laws k) where
  positive_at_least : (x : A) → AtMost k k.zero (positive_part k x)
  positive_at_least x = go (cases_Bool (k.below k.zero x))
    where
      go : (k.below k.zero x ≡ true) ⊎ (k.below k.zero x ≡ false) → k.below (positive_part k x) k.zero ≡ false
      go (inl e) = ap (λ y. k.below y k.zero) (cond-true (k.below k.zero x) x k.zero e) ∙ not_both k laws k.zero x e
      go (inr e) = ap (λ y. k.below y k.zero) (cond-false (k.below k.zero x) x k.zero e) ∙ irreflexive k laws k.zero

  negative_at_least : (x : A) → 2 * k.span x ≤ span_limit → AtMost k k.zero (negative_part k x)
  negative_at_least x h = go (cases_Bool (k.below x k.zero))
    where
      go : (k.below x k.zero ≡ true) ⊎ (k.below x k.zero ≡ false) → k.below (negative_part k x) k.zero ≡ false
      go (inl e) = ap (λ y. k.below y k.zero) (cond-true (k.below x k.zero) (k.opposite x) k.zero e) ∙ opposite_negative k laws x h ∙ not_both k laws x k.zero e
      go (inr e) = ap (λ y. k.below y k.zero) (cond-false (k.below x k.zero) (k.opposite x) k.zero e) ∙ irreflexive k laws k.zero

  due_at_least : (s : Bool) (x : A) → 2 * k.span x ≤ span_limit → AtMost k k.zero (due k s x)
  due_at_least true x h = negative_at_least x h
  due_at_least false x h = positive_at_least x

  -- no item spans more than all
  each_under : {I : Type 0} (f : I → A) (is : List I) → AllByRecursion (λ i. k.span (f i) ≤ spans k (map f is)) is
  each_under f [] = tt
  each_under f (i ∷ is) = (omega arith, All-weaker (λ j. k.span (f j) ≤ spans k (map f is)) (λ j. k.span (f j) ≤ k.span (f i) + spans k (map f is)) (λ j h. omega arith) is (each_under f is))

  zeros : {I : Type 0} (is : List I) → total k (map (λ _. k.zero) is) ≡ k.zero
  zeros [] = sym (laws.neutral k.zero) ∙ laws.neutral k.zero
  zeros (i ∷ is) = ap (λ x. fold k.sum x (map (λ _. k.zero) is)) (laws.neutral k.zero) ∙ zeros is

  module _ (job : Job A) (v : View) (cells : List A) (booked : A) (reached : Reached k job v cells booked) where
    kept : Kept k job v cells booked
    kept = reached_keeps k laws job v cells booked reached

    abbrev live_at : ℕ × ℕ → A
    live_at p = live_amount k v cells p.0 p.1

    -- the amounts of live pairs leave room for every sum
    roomy : 4 * spans k (map live_at (pairs (width v))) ≤ span_limit
    roomy =
        let few : pair_count job.parts ≤ 496 = few_pairs job.parts (omega (arith, kept.well_formed.few, kept.same_parts)) in
        omega (arith, kept.live_spans)

    pub remaining_at_least : (labels : List ℕ) → AtMost k k.zero (remaining k v cells labels)
    remaining_at_least labels =
        let due_at : ℕ × ℕ → A = λ p. open_due k v cells labels p.0 p.1 in
        let room = roomy in
        let under : spans k (map due_at (pairs (width v))) ≤ spans k (map live_at (pairs (width v))) = spans_map_under k laws due_at live_at (pairs (width v)) (λ p. due_under k laws v cells labels p.0 p.1) in
        let none : spans k (map (λ (_ : ℕ × ℕ). k.zero) (pairs (width v))) ≡ 0 = no_spans (pairs (width v)) in
        let items : AllByRecursion (λ p. AtMost k k.zero (due_at p)) (pairs (width v)) = All-weaker (λ p. k.span (live_at p) ≤ spans k (map live_at (pairs (width v)))) (λ p. AtMost k k.zero (due_at p)) (λ p h. one p.0 p.1 (omega arith) (cases_Bool (is_open v p.0 p.1))) (pairs (width v)) (each_under live_at (pairs (width v))) in
        let totals = total_map_at_most k laws (λ (_ : ℕ × ℕ). k.zero) due_at (pairs (width v)) (omega arith) items in
        subst₂ (AtMost k) (zeros (pairs (width v))) (sym (remaining_due k laws v cells labels (omega arith))) totals
      where
        no_spans : (ps : List (ℕ × ℕ)) → spans k (map (λ _. k.zero) ps) ≡ 0
        no_spans [] = refl
        no_spans (p ∷ ps) = omega (arith, laws.span_zero, no_spans ps)

        one : (i j : ℕ) → 4 * k.span (live_amount k v cells i j) ≤ span_limit → (is_open v i j ≡ true) ⊎ (is_open v i j ≡ false) → AtMost k k.zero (open_due k v cells labels i j)
        one i j h (inl e) =
            let l = and_parts (v.live i && v.live j) _ e in
            let is : live_amount k v cells i j ≡ amount_in k v cells i j = cond-true (v.live i && v.live j) (amount_in k v cells i j) k.zero l.0 in
            subst (AtMost k k.zero) (sym (cond-true (is_open v i j) (due k (share v labels i j) (amount_in k v cells i j)) k.zero e)) (due_at_least (share v labels i j) (amount_in k v cells i j) (omega (arith, ap k.span is)))
        one i j h (inr e) = subst (AtMost k k.zero) (sym (cond-false (is_open v i j) (due k (share v labels i j) (amount_in k v cells i j)) k.zero e)) (at_most_itself k laws k.zero)
