-- Tests over all numbers below a limit, and over all pairs of them: what they tell.
use Rattle.std.proofs.Common.{◌≡◌, ℕ, zero, suc, ◌+◌, ◌<◌, Bool, true, false, ◌&&◌, ◌⊎◌, List, [], ◌∷◌, Decides, sym, refl, ap, ◌∙◌, inl, inr, add-one, arith}
use Rattle.std.proofs.Math.Bool.{and_comm}
use Rattle.std.specs.List.{range_with_len, flat_map, list_all}
use Rattle.std.proofs.lemmas.Bool.{cases_eq, and_left, and_right, and_from}
use Rattle.std.proofs.lemmas.Bool.Decides.{Decides-below_and, Decides-at}
use Rattle.std.proofs.lemmas.List.Folds.{list_all-append, list_all-map}
use Rattle.job.specs.Tests.{every, every_pair, row}
use Rattle.job.proofs.Rows.{counting_more}

and_true : (b : Bool) → (b && true) ≡ b
and_true b = and_comm b true

every_next : (p : ℕ → Bool) (n : ℕ) → every (suc n) p ≡ (p n && every n p)
every_next p n =
    ap (λ m. every m p) (sym (add-one n)) ∙ ap (list_all p) (counting_more n) ∙ list_all-append p (range_with_len 0 n) (n ∷ [])
    ∙ ap (λ b. every n p && b) (and_true (p n)) ∙ and_comm (every n p) (p n)

-- for a loop by hand: a turn more, and the early exit
pub every_more : (p : ℕ → Bool) (i : ℕ) → true ≡ every i p → p i ≡ true → true ≡ every (i + 1) p
every_more p i h e = sym (ap (λ m. every m p) (add-one i) ∙ every_next p i ∙ and_from (p i) (every i p) e (sym h))

pub every_fails : (p : ℕ → Bool) (n i : ℕ) → i < n → p i ≡ false → false ≡ every n p
every_fails p zero i l e = let no : ⊥ = omega arith in absurd no
every_fails p (suc n) i l e = go (λ m. every_fails p n i m e) (cases_eq i n)
  where
    go : (i < n → false ≡ every n p) → (i ≡ n) ⊎ (i ≡ n → ⊥) → false ≡ every (suc n) p
    go below (inl s) = sym (every_next p n ∙ and_left (p n) (every n p) (ap p (sym s) ∙ e))
    go below (inr d) = sym (every_next p n ∙ and_right (p n) (every n p) (sym (below (omega arith))))

pub every_tells : (p : ℕ → Bool) (P : ℕ → Type 0) → ((i : ℕ) → Decides (p i) (P i)) → (n : ℕ) → Decides (every n p) ((i : ℕ) → i < n → P i)
every_tells p P each = Decides-below_and p P (λ n. every n p) each refl (every_next p)

list_all-flat_map : {X Y : Type 0} (p : Y → Bool) (f : X → List Y) (xs : List X) → list_all p (flat_map f xs) ≡ list_all (λ x. list_all p (f x)) xs
list_all-flat_map p f [] = refl
list_all-flat_map p f (x ∷ xs) = list_all-append p (f x) (flat_map f xs) ∙ ap (λ b. list_all p (f x) && b) (list_all-flat_map p f xs)

-- row by row
pub every_pair_is : (n : ℕ) (p : ℕ → ℕ → Bool) → every_pair n p ≡ every n (λ j. every j (λ i. p i j))
every_pair_is n p = list_all-flat_map (λ (q : ℕ × ℕ). p q.0 q.1) row (range_with_len 0 n) ∙ ap (λ f. list_all f (range_with_len 0 n)) (λ z j. list_all-map (λ (q : ℕ × ℕ). p q.0 q.1) (λ i. (i, j)) (range_with_len 0 j) z)

pub every_pair_tells : (p : ℕ → ℕ → Bool) (P : ℕ → ℕ → Type 0) → ((i j : ℕ) → Decides (p i j) (P i j)) → (n : ℕ) → Decides (every_pair n p) ((j : ℕ) → j < n → (i : ℕ) → i < j → P i j)
every_pair_tells p P each n = Decides-at (every_pair n p) (every n (λ j. every j (λ i. p i j))) (every_pair_is n p) (every_tells _ _ (λ j. every_tells _ _ (λ i. each i j) j) n)
