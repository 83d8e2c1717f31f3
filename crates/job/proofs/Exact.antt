-- The charges of a sound job span at most the limit together, so that the cost is an exact sum.
use Rattle.std.proofs.Common.{◌≡◌, ℕ, zero, suc, ◌+◌, ◌*◌, ◌<◌, ◌≤◌, ◌⊎◌, List, map, length, sym, ap, ◌∙◌, inl, inr, add-one, arith}
use Rattle.std.proofs.lemmas.List.{length-append, get_or_past}
use Rattle.std.proofs.lemmas.List.FromFn.{length-map-range_with_len}
use Rattle.std.proofs.lemmas.Bool.{cond_both, cases_lt}
use Rattle.amount.specs.Kind.{Kind, Laws}
use Rattle.amount.specs.Totals.{spans}
use Rattle.amount.specs.Signs.{positive_part, negative_part}
use Rattle.amount.proofs.Totals.{spans_map_le}
use Rattle.amount.proofs.Signs.{span_positive_part, span_negative_part}
use Rattle.job.specs.Job.{Job, amount_at, marked, max_parts, max_span, Narrow}
use Rattle.job.specs.Grouping.{together}
use Rattle.job.specs.Tests.{row, pairs}
use Rattle.job.specs.Cost.{separating_term, joining_term, separating_charge, joining_charge, ExactCost}
use Rattle.job.proofs.Rows.{pairs_more}

-- at most m pairs for each of n rows
length_pairs : (n m : ℕ) → n ≤ m → length (pairs n) ≤ n * m
length_pairs zero m h = omega arith
length_pairs (suc n) m h =
    let more : length (pairs (suc n)) ≡ length (pairs n) + length (row n) = ap (λ v. length (pairs v)) (sym (add-one n)) ∙ ap length (pairs_more n) ∙ length-append (pairs n) (row n) in
    omega (arith, length-map-range_with_len {X = ℕ × ℕ} (λ i. (i, n)) 0 n, length_pairs n m (omega arith))

module _ {A : Type 0} (k : Kind A) (laws : Laws k) (job : Job A) where
  -- past the square an amount reads as zero
  pub narrow_at : Narrow k job.square → (i j : ℕ) → k.span (amount_at k job i j) ≤ max_span
  narrow_at h i j = go (cases_lt (i * job.parts + j) (length job.square))
    where
      go : (i * job.parts + j < length job.square) ⊎ (length job.square ≤ i * job.parts + j) → k.span (amount_at k job i j) ≤ max_span
      go (inl l) = h (i * job.parts + j) l
      go (inr l) = omega (arith, laws.span_zero, ap k.span (get_or_past job.square (i * job.parts + j) k.zero l))

  module _ (labels : List ℕ) where
    separating_span : Narrow k job.square → (p : ℕ × ℕ) → k.span (separating_charge k job labels p) ≤ max_span
    separating_span h p = cond_both (marked job p.0 p.1) k.zero (separating_term k (together labels p.0 p.1) (amount_at k job p.0 p.1)) (λ x. k.span x ≤ max_span) (λ _. omega (arith, laws.span_zero))
        (λ _. cond_both (together labels p.0 p.1) k.zero (positive_part k (amount_at k job p.0 p.1)) (λ x. k.span x ≤ max_span) (λ _. omega (arith, laws.span_zero)) (λ _. omega (arith, span_positive_part k laws (amount_at k job p.0 p.1), narrow_at h p.0 p.1)))

    joining_span : Narrow k job.square → (p : ℕ × ℕ) → k.span (joining_charge k job labels p) ≤ max_span
    joining_span h p = cond_both (marked job p.0 p.1) k.zero (joining_term k (together labels p.0 p.1) (amount_at k job p.0 p.1)) (λ x. k.span x ≤ max_span) (λ _. omega (arith, laws.span_zero))
        (λ _. cond_both (together labels p.0 p.1) (negative_part k (amount_at k job p.0 p.1)) k.zero (λ x. k.span x ≤ max_span) (λ _. omega (arith, span_negative_part k laws (amount_at k job p.0 p.1), narrow_at h p.0 p.1)) (λ _. omega (arith, laws.span_zero)))

    pub exact_cost : job.parts ≤ max_parts → Narrow k job.square → ExactCost k job labels
    exact_cost few narrow =
        let long : length (pairs job.parts) ≤ job.parts * max_parts = length_pairs job.parts max_parts few in
        let s : spans k (map (separating_charge k job labels) (pairs job.parts)) ≤ length (pairs job.parts) * max_span = spans_map_le k laws (separating_charge k job labels) max_span (pairs job.parts) (separating_span narrow) in
        let t : spans k (map (joining_charge k job labels) (pairs job.parts)) ≤ length (pairs job.parts) * max_span = spans_map_le k laws (joining_charge k job labels) max_span (pairs job.parts) (joining_span narrow) in
        omega arith
