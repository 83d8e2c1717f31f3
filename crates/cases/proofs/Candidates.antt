-- The least cost of a small job by trying all labels that could be a grouping: each part's at most its number.
use Rattle.std.proofs.Common.{◌≡◌, ℕ, zero, suc, ◌+◌, ◌<◌, ◌≤◌, Bool, true, not, ◌&&◌, ◌||◌, ◌⊎◌, List, [], ◌∷◌, ◌++◌, map, length, get_or, refl, subst, inl, inr, arith}
use Rattle.std.specs.List.{range_with_len, flat_map, list_all, AllByRecursion}
use Rattle.std.proofs.lemmas.Bool.{cases_eq}
use Rattle.std.proofs.lemmas.List.Elements.{recursion_from_All}
use Rattle.std.proofs.lemmas.List.Sums.{AllPass-from_list_all}
use Rattle.amount.specs.Kind.{Kind}
use Rattle.job.specs.Job.{Job, Mirrored}
use Rattle.job.specs.Grouping.{is_grouping, is_respectful}
use Rattle.job.specs.Cost.{cost, Least}
use Rattle.job.proofs.Told.{grouping_tells, respect_tells}

-- labels for m parts from p on, each at most its part
abbrev pub candidates : ℕ → ℕ → List (List ℕ)
candidates p zero = [] ∷ []
candidates p (suc m) = flat_map (λ l. map (λ rest. l ∷ rest) (candidates (suc p) m)) (range_with_len 0 (suc p))

module _ {X : Type 0} (P : X → Type 0) where
  all_front : (xs ys : List X) → AllByRecursion P (xs ++ ys) → AllByRecursion P xs
  all_front [] ys h = tt
  all_front (x ∷ xs) ys h = (h.0, all_front xs ys h.1)

  all_back : (xs ys : List X) → AllByRecursion P (xs ++ ys) → AllByRecursion P ys
  all_back [] ys h = h
  all_back (x ∷ xs) ys h = all_back xs ys h.1

  -- of each block that is counted
  all_block : (f : ℕ → List X) (a n l : ℕ) → a ≤ l → l < a + n → AllByRecursion P (flat_map f (range_with_len a n)) → AllByRecursion P (f l)
  all_block f a zero l p q h = let no : ⊥ = omega arith in absurd no
  all_block f a (suc n) l p q h = go (λ m. all_block f (a + 1) n l m (omega arith) (all_back (f a) (flat_map f (range_with_len (a + 1) n)) h)) (all_front (f a) (flat_map f (range_with_len (a + 1) n)) h) (cases_eq a l)
    where
      go : (a + 1 ≤ l → AllByRecursion P (f l)) → AllByRecursion P (f a) → (a ≡ l) ⊎ (a ≡ l → ⊥) → AllByRecursion P (f l)
      go later here (inl e) = subst (λ m. AllByRecursion P (f m)) e here
      go later here (inr d) = later (omega arith)

  all_mapped : {Y : Type 0} (g : Y → X) (ys : List Y) → AllByRecursion P (map g ys) → AllByRecursion (λ y. P (g y)) ys
  all_mapped g [] h = tt
  all_mapped g (y ∷ ys) h = (h.0, all_mapped g ys h.1)

-- what holds of all candidates holds of all such labels
pub of_candidates : (P : List ℕ → Type 0) (p m : ℕ) → AllByRecursion P (candidates p m) → (labels : List ℕ) → length labels ≡ m → ((i : ℕ) → i < m → get_or labels i 0 ≤ p + i) → P labels
of_candidates P p zero h [] e l = h.0
of_candidates P p zero h (x ∷ xs) e l = let no : ⊥ = omega arith in absurd no
of_candidates P p (suc m) h [] e l = let no : ⊥ = omega arith in absurd no
of_candidates P p (suc m) h (x ∷ xs) e l =
    let first : x ≤ p + 0 = l 0 (omega arith) in
    let block : AllByRecursion P (map (λ rest. x ∷ rest) (candidates (suc p) m)) = all_block P (λ c. map (λ rest. c ∷ rest) (candidates (suc p) m)) 0 (suc p) x (omega arith) (omega arith) h in
    of_candidates (λ rest. P (x ∷ rest)) (suc p) m (all_mapped P (λ rest. x ∷ rest) (candidates (suc p) m) block) xs (omega arith) (λ i q. omega (arith, l (suc i) (omega arith)))

-- the test of one candidate: no respectful grouping, or not below
abbrev pub is_no_less : {A : Type 0} → Kind A → Job A → A → List ℕ → Bool
is_no_less k job x labels = not (is_grouping job.parts labels && is_respectful job labels) || not (k.below (cost k job labels) x)

-- what all pass, each passes
all_told : {X : Type 0} (p : X → Bool) (xs : List X) → list_all p xs ≡ true → AllByRecursion (λ x. p x ≡ true) xs
all_told p xs e = recursion_from_All _ xs (AllPass-from_list_all p xs e)

pub least_by_trying : {A : Type 0} (k : Kind A) (job : Job A) (x : A) (labels : List ℕ) → Mirrored k job → length labels ≡ job.parts → is_grouping job.parts labels ≡ true → is_respectful job labels ≡ true → cost k job labels ≡ x → list_all (is_no_less k job x) (candidates 0 job.parts) ≡ true → Least k job x
least_by_trying {A} k job x labels even n g r c t = record {
  labels = labels;
  grouping = (grouping_tells job.parts labels n).0 g;
  respects = (respect_tells k job labels even).0 r;
  attained = c;
  none_less = λ others grouping respects.
      let told = of_candidates (λ ls. is_no_less k job x ls ≡ true) 0 job.parts (all_told (is_no_less k job x) (candidates 0 job.parts) t) others grouping.counted (λ i l. omega (arith, grouping.smallest i i l l refl)) in
      let is_one : is_grouping job.parts others ≡ true = (grouping_tells job.parts others grouping.counted).1 grouping in
      let keeps : is_respectful job others ≡ true = (respect_tells k job others even).1 respects in
      grind arith;
}
