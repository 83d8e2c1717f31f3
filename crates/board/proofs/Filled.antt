-- An array that a loop fills from the front, and that is blank behind: for loops by hand.
use Rattle.std.proofs.Common.{◌≡◌, ℕ, ◌+◌, ◌<◌, cond, ltb, ◌≢◌, ◌⊎◌, List, length, get_or, set, map, replicate, sym, ap, ◌∙◌, inl, inr, arith}
use Rattle.std.specs.List.{range_with_len}
use Rattle.std.proofs.lemmas.List.FromFn.{fill_by_all}
use Rattle.std.proofs.lemmas.List.{get_or-set_same, get_or-set_other, length-set, get_or-replicate, length-replicate}
use Rattle.std.proofs.lemmas.Bool.{cases_order, cond-true, cond-false, lt-ltb, le-ltb}

module _ {X : Type 0} (d blank : X) (given : ℕ → X) where
  pub record Filled (size i : ℕ) (xs : List X) : Type 0 where
    pub long : length xs ≡ size
    pub at : (k : ℕ) → k < size → get_or xs k d ≡ cond (ltb k i) (given k) blank

  pub filled_none : (size : ℕ) → Filled size 0 (replicate size blank)
  filled_none size = record {
    long = length-replicate size blank;
    at = λ k h. get_or-replicate size k blank d h ∙ sym (cond-false (ltb k 0) _ _ (le-ltb k 0 (omega arith)));
  }

  pub filled_more : (size i : ℕ) (xs : List X) (x : X) → i < size → x ≡ given i → Filled size i xs → Filled size (i + 1) (set xs i x)
  filled_more size i xs x h e f = record { long = length-set xs i x ∙ f.long; at = λ k l. go k l (cases_order k i) }
    where
      go : (k : ℕ) → k < size → (k ≡ i) ⊎ ((k < i) ⊎ (i < k)) → get_or (set xs i x) k d ≡ cond (ltb k (i + 1)) (given k) blank
      go k l (inl s) =
          ap (λ j. get_or (set xs i x) j d) s ∙ get_or-set_same xs i x d (omega (arith, f.long)) ∙ e ∙ ap given (sym s)
          ∙ sym (cond-true (ltb k (i + 1)) _ _ (lt-ltb k (i + 1) (omega arith)))
      go k l (inr (inl b)) =
          let ne : k ≢ i = omega arith in
          get_or-set_other xs i k x d ne ∙ f.at k l ∙ cond-true (ltb k i) _ _ (lt-ltb k i b)
          ∙ sym (cond-true (ltb k (i + 1)) _ _ (lt-ltb k (i + 1) (omega arith)))
      go k l (inr (inr b)) =
          let ne : k ≢ i = omega arith in
          get_or-set_other xs i k x d ne ∙ f.at k l ∙ cond-false (ltb k i) _ _ (le-ltb k i (omega arith))
          ∙ sym (cond-false (ltb k (i + 1)) _ _ (le-ltb k (i + 1) (omega arith)))

  -- filled to n, it is the list of what is given up to n, and blank from there on
  pub filled_all : (size n i : ℕ) (xs : List X) → i ≡ n → Filled size i xs → xs ≡ map (λ k. cond (ltb k n) (given k) blank) (range_with_len 0 size)
  filled_all size n i xs e f = fill_by_all (λ k. cond (ltb k n) (given k) blank) xs size d f.long (λ k h. f.at k h ∙ ap (λ m. cond (ltb k m) (given k) blank) e)
