-- Live ids picked out of all ids, and the values of their pairs.
use Rattle.std.proofs.Common.{◌≡◌, ℕ, zero, suc, ◌+◌, ◌<◌, ◌≤◌, Bool, true, false, not, ◌&&◌, eqb, ◌⊎◌, List, [], ◌∷◌, ◌++◌, map, filter, sym, refl, ap, ◌∙◌, subst, inl, inr, append-nil, add-one, arith}
use mathlib.Core.List.Permᴰ
use mathlib.Core.List.{Permᴰ, map-map}
use Rattle.std.proofs.Math.Bool.{and-true}
use Rattle.std.specs.List.{range_with_len, AllByRecursion}
use Rattle.std.proofs.lemmas.List.{map-append}
use Rattle.std.proofs.lemmas.List.Elements.{filter-append}
use Rattle.std.proofs.ByRecursion.{All-weaker}
use Rattle.std.proofs.lemmas.Bool.{cond-true, cond-false, cases_eq, cases_Bool, eq-eqb, ne_eqb, and_left, and_right, and_from, not_from_true, not_from_false}
use Rattle.job.specs.Tests.{row, pairs}
use Rattle.job.proofs.Rows.{counting_more, pairs_more}
use Rattle.view.proofs.Like.{Like, like_nil, like_cons, like_trans, like_blank, like_same, like_append, all_blank, vals, vals_push}

pub kept_yes : (p : ℕ → Bool) (x : ℕ) (xs : List ℕ) → p x ≡ true → filter p (x ∷ xs) ≡ x ∷ filter p xs
kept_yes p x xs e = cond-true (p x) (x ∷ filter p xs) (filter p xs) e

pub kept_no : (p : ℕ → Bool) (x : ℕ) (xs : List ℕ) → p x ≡ false → filter p (x ∷ xs) ≡ filter p xs
kept_no p x xs e = cond-false (p x) (x ∷ filter p xs) (filter p xs) e

pub kept_same : (p q : ℕ → Bool) (xs : List ℕ) → AllByRecursion (λ x. p x ≡ q x) xs → filter p xs ≡ filter q xs
kept_same p q [] h = refl
kept_same p q (x ∷ xs) h = grind (arith, h.0, kept_same p q xs h.1)

pub kept_alike : (p q : ℕ → Bool) → ((x : ℕ) → p x ≡ q x) → (xs : List ℕ) → filter p xs ≡ filter q xs
kept_alike p q h [] = refl
kept_alike p q h (x ∷ xs) = grind (arith, h x, kept_alike p q h xs)

pub counted : (s m : ℕ) → AllByRecursion (λ x. (s ≤ x) × (x < s + m)) (range_with_len s m)
counted s zero = tt
counted s (suc m) = ((omega arith, omega arith), All-weaker (λ x. (s + 1 ≤ x) × (x < s + 1 + m)) (λ x. (s ≤ x) × (x < s + suc m)) (λ x h. (omega arith, omega arith)) (range_with_len (s + 1) m) (counted (s + 1) m))

perm_from : {xs us ys vs : List ℕ} → xs ≡ us → ys ≡ vs → Permᴰ us vs → Permᴰ xs ys
perm_from {xs} {us} {ys} {vs} e f p = subst (λ l. Permᴰ l ys) (sym e) (subst (λ l. Permᴰ us l) (sym f) p)

-- whatever passes the test but x
abbrev pub but : (ℕ → Bool) → ℕ → ℕ → Bool
but p x i = p i && not (eqb i x)

-- one that passes moves to the front
pub front : (p : ℕ → Bool) (x s m : ℕ) → s ≤ x → x < s + m → p x ≡ true → Permᴰ (filter p (range_with_len s m)) (x ∷ filter (but p x) (range_with_len s m))
front p x s zero l h e = let no : ⊥ = omega arith in absurd no
front p x s (suc m) l h e = go (λ d. front p x (s + 1) m (omega arith) (omega arith) e) (cases_eq s x) (cases_Bool (p s))
  where
    rest : List ℕ
    rest = range_with_len (s + 1) m

    go : ((s ≡ x → ⊥) → Permᴰ (filter p (range_with_len (s + 1) m)) (x ∷ filter (but p x) (range_with_len (s + 1) m))) → (s ≡ x) ⊎ (s ≡ x → ⊥) → (p s ≡ true) ⊎ (p s ≡ false) → Permᴰ (filter p (range_with_len s (suc m))) (x ∷ filter (but p x) (range_with_len s (suc m)))
    go ih (inl c) b =
        let past : filter p (range_with_len (s + 1) m) ≡ filter (but p x) (range_with_len (s + 1) m) = kept_same p (but p x) (range_with_len (s + 1) m) (All-weaker (λ i. (s + 1 ≤ i) × (i < s + 1 + m)) (λ i. p i ≡ but p x i) (λ i q. later i (omega arith)) (range_with_len (s + 1) m) (counted (s + 1) m)) in
        perm_from (kept_yes p s (range_with_len (s + 1) m) (ap p c ∙ e)) (ap (λ l. x ∷ l) (kept_no (but p x) s (range_with_len (s + 1) m) (and_right (p s) (not (eqb s x)) (not_from_true (eqb s x) (eq-eqb s x c))) ∙ sym past)) (Permᴰ.cons c (Permᴰ.refl (filter p (range_with_len (s + 1) m))))
      where
        later : (i : ℕ) → (i ≡ x → ⊥) → p i ≡ but p x i
        later i d = sym (ap (λ t. p i && not t) (ne_eqb i x d) ∙ and-true (p i))
    go ih (inr d) (inl y) = perm_from (kept_yes p s (range_with_len (s + 1) m) y) (ap (λ l. x ∷ l) (kept_yes (but p x) s (range_with_len (s + 1) m) (and_from (p s) (not (eqb s x)) y (not_from_false (eqb s x) (ne_eqb s x d))))) (Permᴰ.trans (Permᴰ.cons refl (ih d)) (Permᴰ.swap refl refl))
    go ih (inr d) (inr n) = perm_from (kept_no p s (range_with_len (s + 1) m) n) (ap (λ l. x ∷ l) (kept_no (but p x) s (range_with_len (s + 1) m) (and_left (p s) (not (eqb s x)) n))) (ih d)

-- values that are z where the test fails
pub like_kept : {X : Type 0} {z : X} (p : ℕ → Bool) (g : ℕ → X) → ((x : ℕ) → p x ≡ false → g x ≡ z) → (xs : List ℕ) → Like z (map g xs) (map g (filter p xs))
like_kept p g h [] = like_nil
like_kept {X} {z} p g h (x ∷ xs) = go (like_kept p g h xs) (cases_Bool (p x))
  where
    go : Like z (map g xs) (map g (filter p xs)) → (p x ≡ true) ⊎ (p x ≡ false) → Like z (map g (x ∷ xs)) (map g (filter p (x ∷ xs)))
    go rest (inl y) = like_trans (like_cons refl rest) (like_same (ap (map g) (sym (kept_yes p x xs y))))
    go rest (inr n) = like_trans (like_blank (h x n) rest) (like_same (ap (map g) (sym (kept_no p x xs n))))

all_blank_row : {X : Type 0} {z : X} (g : ℕ → X) → ((x : ℕ) → g x ≡ z) → (xs : List ℕ) → AllByRecursion (λ x. x ≡ z) (map g xs)
all_blank_row g h [] = tt
all_blank_row g h (x ∷ xs) = (h x, all_blank_row g h xs)

-- values that are z unless both are live: those of all pairs are those of the live ones
module _ {X : Type 0} {z : X} (live : ℕ → Bool) (f : ℕ → ℕ → X) (blank : (i j : ℕ) → (live i && live j) ≡ false → f i j ≡ z) where
  abbrev F : ℕ × ℕ → X
  F p = f p.0 p.1

  row_is : (m : ℕ) → map F (row m) ≡ map (λ i. f i m) (range_with_len 0 m)
  row_is m = map-map F (λ i. (i, m)) (range_with_len 0 m)

  kept_push : (m : ℕ) → filter live (range_with_len 0 (m + 1)) ≡ filter live (range_with_len 0 m) ++ filter live (m ∷ [])
  kept_push m = ap (filter live) (counting_more m) ∙ filter-append live (range_with_len 0 m) (m ∷ [])

  pub pairs_vals : (m : ℕ) → Like z (map F (pairs m)) (vals f (filter live (range_with_len 0 m)))
  pairs_vals zero = like_nil
  pairs_vals (suc m) = go (pairs_vals m) (cases_Bool (live m))
    where
      left : map F (pairs (suc m)) ≡ map F (pairs m) ++ map (λ i. f i m) (range_with_len 0 m)
      left = ap (λ n. map F (pairs n)) (sym (add-one m)) ∙ ap (map F) (pairs_more m) ∙ map-append F (pairs m) (row m) ∙ ap (λ l. map F (pairs m) ++ l) (row_is m)

      right : filter live (range_with_len 0 (suc m)) ≡ filter live (range_with_len 0 m) ++ filter live (m ∷ [])
      right = ap (λ n. filter live (range_with_len 0 n)) (sym (add-one m)) ∙ kept_push m

      go : Like z (map F (pairs m)) (vals f (filter live (range_with_len 0 m))) → (live m ≡ true) ⊎ (live m ≡ false) → Like z (map F (pairs (suc m))) (vals f (filter live (range_with_len 0 (suc m))))
      go before (inl y) =
          like_trans (like_same left)
          (like_trans (like_append before (like_kept live (λ i. f i m) (λ i n. blank i m (and_left (live i) (live m) n)) (range_with_len 0 m)))
          (like_trans (vals_push f (filter live (range_with_len 0 m)) m)
          (like_same (ap (vals f) (ap (λ l. filter live (range_with_len 0 m) ++ l) (sym (kept_yes live m [] y)) ∙ sym right)))))
      go before (inr n) =
          like_trans (like_same left)
          (like_trans (like_append before (all_blank (map (λ i. f i m) (range_with_len 0 m)) (all_blank_row (λ i. f i m) (λ i. blank i m (and_right (live i) (live m) n)) (range_with_len 0 m))))
          (like_same (append-nil (vals f (filter live (range_with_len 0 m))) ∙ ap (vals f) (sym (right ∙ ap (λ l. filter live (range_with_len 0 m) ++ l) (kept_no live m [] n) ∙ append-nil (filter live (range_with_len 0 m)))))))
