-- The values of all pairs of live ids, split at a join: before it, at the two that are joined; after it, at the new one.
use Rattle.std.proofs.Common.{◌≡◌, ℕ, ◌<◌, true, false, not, ◌&&◌, eqb, List, ◌∷◌, map, length, filter, sym, refl, ◌∙◌, subst, arith}
use mathlib.Core.List.{Permᴰ}
use Rattle.std.proofs.Math.Bool.{and_assoc}
use Rattle.std.specs.List.{range_with_len, AllByRecursion}
use Rattle.std.proofs.ByRecursion.{kept_by_passes}
use Rattle.std.proofs.lemmas.Bool.Decides.{nat_tests}
use Rattle.std.proofs.lemmas.Bool.{eq-eqb, ne_eqb, and_from, not_from_false, or_right}
use Rattle.job.specs.Tests.{pairs}
use Rattle.view.specs.View.{View, width, ids, next}
use Rattle.view.specs.Steps.{is_other, others, joined}
use Rattle.view.proofs.Like.{Like, like_trans, vals, vals_perm}
use Rattle.view.proofs.Choose.{but, front, kept_alike, pairs_vals}

pub length_perm : {xs ys : List ℕ} → Permᴰ xs ys → length xs ≡ length ys
length_perm mathlib.Core.List.Permᴰ.nil = refl
length_perm (mathlib.Core.List.Permᴰ.cons e p) = omega (arith, length_perm p)
length_perm (mathlib.Core.List.Permᴰ.swap e f) = refl
length_perm (mathlib.Core.List.Permᴰ.trans p q) = length_perm p ∙ length_perm q

module _ (v : View) (a b : ℕ) where
  but_but : (i : ℕ) → but (but v.live a) b i ≡ is_other v a b i
  but_but i = and_assoc (v.live i) (not (eqb i a)) (not (eqb i b))

  -- the live ids are the two and the others
  pub before : v.live a ≡ true → v.live b ≡ true → (a ≡ b → ⊥) → a < width v → b < width v → Permᴰ (ids v) (a ∷ b ∷ others v a b)
  before la lb d ha hb =
      let one : Permᴰ (ids v) (a ∷ filter (but v.live a) (range_with_len 0 (width v))) = front v.live a 0 (width v) (omega arith) (omega arith) la in
      let two : Permᴰ (filter (but v.live a) (range_with_len 0 (width v))) (b ∷ filter (but (but v.live a) b) (range_with_len 0 (width v))) =
      front (but v.live a) b 0 (width v) (omega arith) (omega arith) (and_from (v.live b) (not (eqb b a)) lb (not_from_false (eqb b a) (ne_eqb b a (λ e. d (sym e))))) in
      let three : Permᴰ (filter (but v.live a) (range_with_len 0 (width v))) (b ∷ others v a b) = subst (λ l. Permᴰ (filter (but v.live a) (range_with_len 0 (width v))) (b ∷ l)) (kept_alike (but (but v.live a) b) (is_other v a b) but_but (range_with_len 0 (width v))) two in
      mathlib.Core.List.Permᴰ.trans one (mathlib.Core.List.Permᴰ.cons refl three)

  but_new : is_other v a b (next v) ≡ false → (i : ℕ) → but (joined v a b).live (next v) i ≡ is_other v a b i
  but_new n i = grind (arith, nat_tests)

  -- after the join they are the new one and the others
  pub after : is_other v a b (next v) ≡ false → next v < width v → Permᴰ (ids (joined v a b)) (next v ∷ others v a b)
  after n h =
      let new : (joined v a b).live (next v) ≡ true = or_right (is_other v a b (next v)) (eqb (next v) (next v)) (eq-eqb (next v) (next v) refl) in
      let one = front (joined v a b).live (next v) 0 (width v) (omega arith) (omega arith) new in
      subst (λ l. Permᴰ (ids (joined v a b)) (next v ∷ l)) (kept_alike (but (joined v a b).live (next v)) (is_other v a b) (but_new n) (range_with_len 0 (width v))) one

  pub others_pass : AllByRecursion (λ i. is_other v a b i ≡ true) (others v a b)
  others_pass = kept_by_passes (is_other v a b) (range_with_len 0 (width v))

  module _ {X : Type 0} {z : X} (f : ℕ → ℕ → X) (symmetric : (i j : ℕ) → f i j ≡ f j i) where
    pub split_before : ((i j : ℕ) → (v.live i && v.live j) ≡ false → f i j ≡ z) → v.live a ≡ true → v.live b ≡ true → (a ≡ b → ⊥) → a < width v → b < width v → Like z (map (λ p. f p.0 p.1) (pairs (width v))) (vals f (a ∷ b ∷ others v a b))
    split_before blank la lb d ha hb = like_trans (pairs_vals v.live f blank (width v)) (vals_perm f symmetric (before la lb d ha hb))

    pub split_after : ((i j : ℕ) → ((joined v a b).live i && (joined v a b).live j) ≡ false → f i j ≡ z) → is_other v a b (next v) ≡ false → next v < width v → Like z (map (λ p. f p.0 p.1) (pairs (width v))) (vals f (next v ∷ others v a b))
    split_after blank n h = like_trans (pairs_vals (joined v a b).live f blank (width v)) (vals_perm f symmetric (after n h))
