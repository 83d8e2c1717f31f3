-- A loaded board: its view is good, and its amounts are those of the job.
use Rattle.std.proofs.Common.{◌≡◌, ℕ, zero, suc, ◌+◌, ◌-◌, ◌<◌, ◌≤◌, true, false, cond, ◌&&◌, eqb, ltb, ◌⊎◌, List, length, Some, None, filter, unwrap_or, sym, refl, ap, ◌∙◌, subst, inl, inr, add-one, arith}
use Rattle.std.specs.List.{range_with_len, AllByRecursion}
use Rattle.std.proofs.ByRecursion.{All-append, All-map, All-weaker}
use Rattle.std.proofs.lemmas.Bool.Decides.{nat_tests}
use Rattle.std.proofs.lemmas.Bool.{cases_Bool, eq-eqb, eqb-true, and_parts, and_from, ltb-true, lt-ltb, cond-true}
use Rattle.amount.specs.Kind.{Kind}
use Rattle.job.specs.Job.{Job, amount_at, marked, Sound}
use Rattle.job.specs.Tests.{row, pairs}
use Rattle.job.proofs.Rows.{pairs_more}
use Rattle.view.specs.View.{width, Roomy, amount_in}
use Rattle.view.specs.Steps.{start, loaded_cells}
use Rattle.view.proofs.Cells.{amount_rewritten}
use Rattle.view.proofs.Choose.{kept_yes, kept_no, counted}
use Rattle.view.specs.Good.{Good}

few_below : (n s m : ℕ) → length (filter (λ i. ltb i n) (range_with_len s m)) ≤ n - s
few_below n s zero = omega arith
few_below n s (suc m) = go (few_below n (s + 1) m) (cases_Bool (ltb s n))
  where
    go : length (filter (λ i. ltb i n) (range_with_len (s + 1) m)) ≤ n - (s + 1) → (ltb s n ≡ true) ⊎ (ltb s n ≡ false) → length (filter (λ i. ltb i n) (range_with_len s (suc m))) ≤ n - s
    go h (inl y) = omega (arith, ltb-true s n y, ap length (kept_yes (λ i. ltb i n) s (range_with_len (s + 1) m) y))
    go h (inr x) = omega (arith, ap length (kept_no (λ i. ltb i n) s (range_with_len (s + 1) m) x))

module _ {A : Type 0} (k : Kind A) (job : Job A) (sound : Sound k job) where
  both_marked : (i j : ℕ) → ((ltb i job.parts && ltb j job.parts) && marked job i j) ≡ ((ltb j job.parts && ltb i job.parts) && marked job j i)
  both_marked i j = grind (arith, nat_tests, sound.mirrored.marks_symmetric i j)

  unmarked : (i : ℕ) → ((ltb i job.parts && ltb i job.parts) && marked job i i) ≡ false
  unmarked i = grind (arith, nat_tests, sound.mirrored.marks_diagonal i)

  pub good_start : Good (start job)
  good_start = record {
    some = sound.within.0;
    few = sound.within.1;
    live_in = λ i l. omega (arith, ltb-true i job.parts l);
    live_below = λ i l. omega (arith, ltb-true i job.parts l, few_below job.parts 0 (width (start job)));
    apart_symmetric = both_marked;
    apart_live = λ i j e. (and_parts (ltb i job.parts) (ltb j job.parts) (and_parts (ltb i job.parts && ltb j job.parts) (marked job i j) e).0).0;
    apart_other = unmarked;
    holds_live = λ i p e. (and_parts (ltb i job.parts) (eqb i p) e).0;
    holds_part = λ i p e. let h = and_parts (ltb i job.parts) (eqb i p) e in omega (arith, ltb-true i job.parts h.0, eqb-true i p h.1);
    some_part = λ i l. (i, and_from (ltb i job.parts) (eqb i i) l (eq-eqb i i refl));
    held = λ p h. (p, and_from (ltb p job.parts) (eqb p p) (lt-ltb p job.parts h) (eq-eqb p p refl));
    held_once = λ p i j x y. eqb-true i p (and_parts (ltb i job.parts) (eqb i p) x).1 ∙ sym (eqb-true j p (and_parts (ltb j job.parts) (eqb j p) y).1);
  }

  pub amount_loaded : (cells : List A) → Roomy (start job) cells → (i j : ℕ) → i < job.parts → j < job.parts → amount_in k (start job) (loaded_cells k job cells) i j ≡ amount_at k job i j
  amount_loaded cells room i j hi hj =
      amount_rewritten k (start job) cells (λ x y. cond (ltb x job.parts && ltb y job.parts) (Some (amount_at k job x y)) None) room i j (omega arith) (omega arith)
      ∙ ap (λ t. unwrap_or t (amount_in k (start job) cells i j)) (cond-true (ltb i job.parts && ltb j job.parts) (Some (amount_at k job i j)) None (and_from (ltb i job.parts) (ltb j job.parts) (lt-ltb i job.parts hi) (lt-ltb j job.parts hj)))

-- the pairs of n parts have the smaller part first
pub pairs_rise : (n : ℕ) → AllByRecursion (λ p. (p.0 < p.1) × (p.1 < n)) (pairs n)
pairs_rise zero = tt
pairs_rise (suc n) =
    subst (AllByRecursion (λ p. (p.0 < p.1) × (p.1 < suc n))) (sym (pairs_more n) ∙ ap pairs (add-one n))
    (All-append (λ p. (p.0 < p.1) × (p.1 < suc n)) (pairs n) (row n)
    (All-weaker (λ p. (p.0 < p.1) × (p.1 < n)) (λ p. (p.0 < p.1) × (p.1 < suc n)) (λ p h. (h.0, omega arith)) (pairs n) (pairs_rise n))
    (All-map (λ p. (p.0 < p.1) × (p.1 < suc n)) (λ i. (i, n)) (range_with_len 0 n) (All-weaker (λ i. (0 ≤ i) × (i < 0 + n)) (λ i. (i < n) × (n < suc n)) (λ i h. (omega arith, omega arith)) (range_with_len 0 n) (counted 0 n))))
