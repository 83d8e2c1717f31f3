-- How many pairs there are, and how many of them are open.
use Rattle.std.proofs.Common.{◌≡◌, ℕ, zero, suc, ◌+◌, ◌-◌, ◌*◌, ◌<◌, ◌≤◌, Bool, true, false, cond, not, ◌&&◌, ◌||◌, List, [], ◌∷◌, ◌++◌, map, length, filter, sym, refl, ap, ◌∙◌, suc-mul, mul-le-mul, mul-suc, add-one, arith}
use Rattle.std.specs.List.{AllByRecursion}
use Rattle.std.proofs.lemmas.Nat.{le-div, div_below}
use Rattle.std.proofs.lemmas.List.{length-append}
use Rattle.std.proofs.lemmas.List.FromFn.{length-map-range_with_len}
use Rattle.std.proofs.ByRecursion.{All-weaker}
use Rattle.amount.specs.Kind.{Kind, Laws}
use Rattle.job.specs.Job.{Job, Sound}
use Rattle.job.specs.Tests.{row, pairs}
use Rattle.job.proofs.Rows.{pairs_more}
use Rattle.view.specs.View.{View, width, next, is_open}
use Rattle.view.specs.Steps.{start, is_other, others, joined, separated}
use Rattle.view.specs.Law.{pair_count, open_count}
use Rattle.view.proofs.Like.{vals, vals_same, summed, summed_like}
use Rattle.view.proofs.Split.{split_before, split_after, others_pass}
use Rattle.view.specs.Good.{Good}
use Rattle.view.proofs.Good.{Open, New, good_joined, good_separated, other_facts}
use Rattle.view.proofs.Due.{open_swap, open_none, map_same}
use Rattle.view.proofs.Joining.{open_at, open_same, open_new}
use Rattle.view.proofs.SeparationLaw as apart
use Rattle.view.proofs.LoadLaw.{wide, near}

twice_pairs : (n : ℕ) → length (pairs n) * 2 + n ≡ n * n
twice_pairs zero = refl
twice_pairs (suc n) =
    let more : length (pairs (suc n)) ≡ length (pairs n) + length (row n) = ap (λ v. length (pairs v)) (sym (add-one n)) ∙ ap length (pairs_more n) ∙ length-append (pairs n) (row n) in
    omega (arith, length-map-range_with_len {X = ℕ × ℕ} (λ i. (i, n)) 0 n, twice_pairs n, mul-suc (suc n) n, suc-mul n n)

square_less : (n : ℕ) → n * (n - 1) + n ≡ n * n
square_less zero = refl
square_less (suc n) =
    let e : suc n - 1 ≡ n = omega arith in
    ap (λ m. suc n * m + suc n) e ∙ sym (mul-suc (suc n) n)

-- as many pairs as are counted
pub length_pairs : (n : ℕ) → length (pairs n) ≤ pair_count n
length_pairs n = le-div (length (pairs n)) (n * (n - 1)) 2 (omega arith) (omega (arith, twice_pairs n, square_less n))

pub few_pairs : (n : ℕ) → n ≤ 32 → pair_count n ≤ 496
few_pairs n h =
    let b : n - 1 ≤ 31 = omega arith in
    let a : n * (n - 1) ≤ 32 * 31 = mul-le-mul h b in
    omega (arith, div_below (n * (n - 1)) 2 497 (omega arith) (omega arith))

abbrev one : Bool → ℕ
one t = cond t 1 0

abbrev pub open_one : View → ℕ → ℕ → ℕ
open_one v i j = one (is_open v i j)

-- how many pairs are open
abbrev pub opens : View → ℕ
opens v = summed (map (λ p. open_one v p.0 p.1) (pairs (width v)))

count_summed : (f : ℕ × ℕ → Bool) (ps : List (ℕ × ℕ)) → length (filter f ps) ≡ summed (map (λ p. one (f p)) ps)
count_summed f [] = refl
count_summed f (p ∷ ps) = grind (arith, count_summed f ps)

pub opens_is : (v : View) → open_count v ≡ opens v
opens_is v = count_summed (λ p. is_open v p.0 p.1) (pairs (width v))

summed_append : (xs ys : List ℕ) → summed (xs ++ ys) ≡ summed xs + summed ys
summed_append [] ys = omega arith
summed_append (x ∷ xs) ys = omega (arith, summed_append xs ys)

summed_under : (f g : ℕ → ℕ) (xs : List ℕ) → AllByRecursion (λ x. f x ≤ g x) xs → summed (map f xs) ≤ summed (map g xs)
summed_under f g [] h = omega arith
summed_under f g (x ∷ xs) h = omega (arith, h.0, summed_under f g xs h.1)

ones : (f : ℕ × ℕ → Bool) (ps : List (ℕ × ℕ)) → summed (map (λ p. cond (f p) 1 0) ps) ≤ length ps
ones f [] = omega arith
ones f (p ∷ ps) = grind (arith, ones f ps)

one_swap : (v : View) → Good v → (i j : ℕ) → open_one v i j ≡ open_one v j i
one_swap v g i j = ap one (open_swap v g i j)

one_none : (v : View) (i j : ℕ) → (v.live i && v.live j) ≡ false → open_one v i j ≡ 0
one_none v i j e = ap one (open_none v i j e)

less_open : (x y : Bool) → cond (not (x || y)) 1 0 ≤ cond (not x) 1 0
less_open x y = grind arith

pub opens_start : {A : Type 0} (k : Kind A) (laws : Laws k) (job : Job A) → Sound k job → opens (start job) ≤ pair_count job.parts
opens_start k laws job sound =
    omega (arith, summed_like (wide k laws job sound (open_one (start job)) (one_none (start job))), summed_like (near k laws job sound (open_one (start job)) (one_none (start job))), ones (λ p. is_open (start job) p.0 p.1) (pairs job.parts), length_pairs job.parts)

module _ (v : View) (a b : ℕ) (g : Good v) (o : Open v a b) where
  split : (u : View) → Good u → u.live a ≡ true → u.live b ≡ true → a < width u → b < width u → opens u ≡ open_one u a b + (summed (map (open_one u a) (others u a b)) + (summed (map (open_one u b) (others u a b)) + summed (vals (open_one u) (others u a b))))
  split u h la lb wa wb =
      summed_like (split_before u a b (open_one u) (one_swap u h) (one_none u) la lb o.distinct wa wb)
      ∙ ap (λ m. open_one u a b + m) (summed_append (map (open_one u a) (others u a b)) (map (open_one u b) (others u a b) ++ vals (open_one u) (others u a b)) ∙ ap (λ m. summed (map (open_one u a) (others u a b)) + m) (summed_append (map (open_one u b) (others u a b)) (vals (open_one u) (others u a b))))

  here : open_one v a b ≡ 1
  here = ap one (open_at v a b o.live_a o.live_b o.distinct ∙ ap not o.not_apart)

  pub fewer_joined : (n : New v a b) → opens (joined v a b) + 1 ≤ opens v
  fewer_joined n =
      let now = split v g o.live_a o.live_b (g.live_in a o.live_a) (g.live_in b o.live_b) in
      let then : opens (joined v a b) ≡ summed (map (open_one (joined v a b) (next v)) (others v a b) ++ vals (open_one (joined v a b)) (others v a b)) = summed_like (split_after v a b (open_one (joined v a b)) (one_swap (joined v a b) (good_joined v a b g o n)) (one_none (joined v a b)) n.no_other n.fits) in
      let row = summed_under (open_one (joined v a b) (next v)) (open_one v a) (others v a b) (All-weaker (λ i. is_other v a b i ≡ true) (λ w. open_one (joined v a b) (next v) w ≤ open_one v a w)
      (λ w q. let f = other_facts v a b w q in omega (arith, ap one (open_new v a b g o n w q), ap one (open_at v a w o.live_a f.0 (λ e. f.1 (sym e))), less_open (v.apart a w) (v.apart b w))) (others v a b) (others_pass v a b)) in
      let inner = ap summed (vals_same (open_one (joined v a b)) (open_one v) (λ i. is_other v a b i ≡ true) (λ x y p q. ap one (open_same v a b g o n x y p q)) (others v a b) (others_pass v a b)) in
      omega (arith, here, summed_append (map (open_one (joined v a b) (next v)) (others v a b)) (vals (open_one (joined v a b)) (others v a b)))

  pub fewer_separated : opens (separated v a b) + 1 ≤ opens v
  fewer_separated =
      let now = split v g o.live_a o.live_b (g.live_in a o.live_a) (g.live_in b o.live_b) in
      let then = split (separated v a b) (good_separated v a b g o) o.live_a o.live_b (g.live_in a o.live_a) (g.live_in b o.live_b) in
      let none : open_one (separated v a b) a b ≡ 0 = ap one (open_at (separated v a b) a b o.live_a o.live_b o.distinct ∙ ap not (apart.apart_pair v a b g o)) in
      let ra = ap summed (map_same (open_one (separated v a b) a) (open_one v a) (others v a b) (All-weaker (λ i. is_other v a b i ≡ true) (λ w. open_one (separated v a b) a w ≡ open_one v a w) (λ w q. ap one (apart.open_same v a b g o a w (λ _ e. (other_facts v a b w q).2 e) (λ e _. o.distinct e))) (others v a b) (others_pass v a b))) in
      let rb = ap summed (map_same (open_one (separated v a b) b) (open_one v b) (others v a b) (All-weaker (λ i. is_other v a b i ≡ true) (λ w. open_one (separated v a b) b w ≡ open_one v b w) (λ w q. ap one (apart.open_same v a b g o b w (λ e _. o.distinct (sym e)) (λ _ e. (other_facts v a b w q).1 e))) (others v a b) (others_pass v a b))) in
      let inner = ap summed (vals_same (open_one (separated v a b)) (open_one v) (λ i. is_other v a b i ≡ true) (λ x y p q. ap one (apart.open_same v a b g o x y (λ e _. (other_facts v a b x p).1 e) (λ e _. (other_facts v a b x p).2 e))) (others v a b) (others_pass v a b)) in
      omega (arith, here)
