-- What one pair of ids still costs, as one sum: the remaining cost is the total of these.
use Rattle.std.proofs.Common.{◌≡◌, ℕ, ◌*◌, ◌≤◌, Bool, true, false, cond, not, ◌&&◌, eqb, ◌⊎◌, List, [], ◌∷◌, map, sym, refl, ap, ◌∙◌, ap₂, inl, inr, arith}
use Rattle.std.specs.List.{AllByRecursion}
use Rattle.std.proofs.lemmas.Bool.Decides.{nat_tests}
use Rattle.std.proofs.lemmas.Bool.{cond-true, cond-false, cases_Bool, and_left, and_parts}
use Rattle.amount.specs.Kind.{Kind, Laws, span_limit}
use Rattle.amount.specs.Signs.{positive_part, negative_part}
use Rattle.amount.specs.Totals.{total, spans}
use Rattle.amount.proofs.Totals.{neutral_right, total_map_sum}
use Rattle.amount.proofs.Signs.{span_positive_part, span_negative_part}
use Rattle.job.specs.Grouping.{label}
use Rattle.job.specs.Cost.{separating_term, joining_term}
use Rattle.job.specs.Tests.{pairs}
use Rattle.view.specs.View.{live_amount, View, width, is_open, amount_in}
use Rattle.view.specs.Remaining.{share, remaining, first_part}
use Rattle.view.specs.Good.{Good}
use Rattle.view.proofs.Good.{open_is}
use Rattle.std.proofs.Math.Bool.{and_comm}

-- a pair's term: its negative part inside a group, its positive part between groups
abbrev pub due : {A : Type 0} → Kind A → Bool → A → A
due k shared x = cond shared (negative_part k x) (positive_part k x)

abbrev pub open_due : {A : Type 0} → Kind A → View → List A → List ℕ → ℕ → ℕ → A
open_due k v cells labels i j = cond (is_open v i j) (due k (share v labels i j) (amount_in k v cells i j)) k.zero

pub eqb_swap : (i j : ℕ) → eqb i j ≡ eqb j i
eqb_swap i j = grind (arith, nat_tests)

pub map_same : {I X : Type 0} (f g : I → X) (is : List I) → AllByRecursion (λ i. f i ≡ g i) is → map f is ≡ map g is
map_same f g [] h = refl
map_same f g (i ∷ is) h = ap₂ (λ x l. x ∷ l) h.0 (map_same f g is h.1)

pub map_alike : {I X : Type 0} (f g : I → X) (is : List I) → ((i : I) → f i ≡ g i) → map f is ≡ map g is
map_alike f g [] h = refl
map_alike f g (i ∷ is) h = ap₂ (λ x l. x ∷ l) (h i) (map_alike f g is h)

pub open_swap : (v : View) → Good v → (i j : ℕ) → is_open v i j ≡ is_open v j i
open_swap v g i j = grind (arith, nat_tests, g.apart_symmetric i j)

pub open_none : (v : View) (i j : ℕ) → (v.live i && v.live j) ≡ false → is_open v i j ≡ false
open_none v i j e = and_left (v.live i && v.live j) (not (eqb i j) && not (v.apart i j)) e

module _ {A : Type 0} (k : Kind A) (laws : Laws k) where
  pub spans_map_under : {I : Type 0} (f g : I → A) (is : List I) → ((i : I) → k.span (f i) ≤ k.span (g i)) → spans k (map f is) ≤ spans k (map g is)
  spans_map_under f g [] h = omega arith
  spans_map_under f g (i ∷ is) h = omega (arith, h i, spans_map_under f g is h)

  term_sum : (s : Bool) (x : A) → k.sum (separating_term k s x) (joining_term k s x) ≡ due k s x
  term_sum s x = grind (arith, laws.neutral (negative_part k x), neutral_right k laws (positive_part k x))

  pub span_due : (s : Bool) (x : A) → k.span (due k s x) ≤ k.span x
  span_due true x = span_negative_part k laws x
  span_due false x = span_positive_part k laws x

  span_separating : (s : Bool) (x : A) → k.span (separating_term k s x) ≤ k.span x
  span_separating true x = omega (arith, laws.span_zero)
  span_separating false x = span_positive_part k laws x

  span_joining : (s : Bool) (x : A) → k.span (joining_term k s x) ≤ k.span x
  span_joining true x = span_negative_part k laws x
  span_joining false x = omega (arith, laws.span_zero)

  module _ (v : View) (cells : List A) where
    -- a value of open pairs that spans no more than the amount
    under_live : (i j : ℕ) (x : A) → k.span x ≤ k.span (amount_in k v cells i j) → k.span (cond (is_open v i j) x k.zero) ≤ k.span (live_amount k v cells i j)
    under_live i j x h = go (cases_Bool (is_open v i j))
      where
        go : (is_open v i j ≡ true) ⊎ (is_open v i j ≡ false) → k.span (cond (is_open v i j) x k.zero) ≤ k.span (live_amount k v cells i j)
        go (inl e) =
            let both : (v.live i && v.live j) ≡ true = (and_parts (v.live i && v.live j) (not (eqb i j) && not (v.apart i j)) e).0 in
            omega (arith, ap k.span (cond-true (is_open v i j) x k.zero e), ap k.span (cond-true (v.live i && v.live j) (amount_in k v cells i j) k.zero both))
        go (inr e) = omega (arith, ap k.span (cond-false (is_open v i j) x k.zero e), laws.span_zero)

    pub live_none : (i j : ℕ) → (v.live i && v.live j) ≡ false → live_amount k v cells i j ≡ k.zero
    live_none i j e = cond-false (v.live i && v.live j) (amount_in k v cells i j) k.zero e

    module _ (labels : List ℕ) where
      pub due_under : (i j : ℕ) → k.span (open_due k v cells labels i j) ≤ k.span (live_amount k v cells i j)
      due_under i j = under_live i j (due k (share v labels i j) (amount_in k v cells i j)) (span_due (share v labels i j) (amount_in k v cells i j))

      pub due_none : (i j : ℕ) → (v.live i && v.live j) ≡ false → open_due k v cells labels i j ≡ k.zero
      due_none i j e = cond-false (is_open v i j) (due k (share v labels i j) (amount_in k v cells i j)) k.zero (open_none v i j e)

      due_sum : (i j : ℕ) → k.sum (cond (is_open v i j) (separating_term k (share v labels i j) (amount_in k v cells i j)) k.zero) (cond (is_open v i j) (joining_term k (share v labels i j) (amount_in k v cells i j)) k.zero) ≡ open_due k v cells labels i j
      due_sum i j = go (is_open v i j)
        where
          go : (t : Bool) → k.sum (cond t (separating_term k (share v labels i j) (amount_in k v cells i j)) k.zero) (cond t (joining_term k (share v labels i j) (amount_in k v cells i j)) k.zero) ≡ cond t (due k (share v labels i j) (amount_in k v cells i j)) k.zero
          go true = term_sum (share v labels i j) (amount_in k v cells i j)
          go false = laws.neutral k.zero

      pub remaining_due : 2 * spans k (map (λ p. live_amount k v cells p.0 p.1) (pairs (width v))) ≤ span_limit → remaining k v cells labels ≡ total k (map (λ p. open_due k v cells labels p.0 p.1) (pairs (width v)))
      remaining_due h =
          let f : ℕ × ℕ → A = λ p. cond (is_open v p.0 p.1) (separating_term k (share v labels p.0 p.1) (amount_in k v cells p.0 p.1)) k.zero in
          let g : ℕ × ℕ → A = λ p. cond (is_open v p.0 p.1) (joining_term k (share v labels p.0 p.1) (amount_in k v cells p.0 p.1)) k.zero in
          let sf = spans_map_under f (λ p. live_amount k v cells p.0 p.1) (pairs (width v)) (λ p. under_live p.0 p.1 _ (span_separating (share v labels p.0 p.1) (amount_in k v cells p.0 p.1))) in
          let sg = spans_map_under g (λ p. live_amount k v cells p.0 p.1) (pairs (width v)) (λ p. under_live p.0 p.1 _ (span_joining (share v labels p.0 p.1) (amount_in k v cells p.0 p.1))) in
          sym (total_map_sum k laws f g (pairs (width v)) (omega arith)) ∙ ap (total k) (map_alike (λ p. k.sum (f p) (g p)) (λ p. open_due k v cells labels p.0 p.1) (pairs (width v)) (λ p. due_sum p.0 p.1))

      pub due_swap : Good v → ((i j : ℕ) → v.live i ≡ true → v.live j ≡ true → amount_in k v cells i j ≡ amount_in k v cells j i) → (i j : ℕ) → open_due k v cells labels i j ≡ open_due k v cells labels j i
      due_swap g symmetric i j = go (cases_Bool (is_open v i j))
        where
          go : (is_open v i j ≡ true) ⊎ (is_open v i j ≡ false) → open_due k v cells labels i j ≡ open_due k v cells labels j i
          go (inl e) =
              let o = open_is v i j e in
              ap (λ t. cond t (due k (share v labels i j) (amount_in k v cells i j)) k.zero) (open_swap v g i j)
              ∙ ap₂ (λ s x. cond (is_open v j i) (due k s x) k.zero) (eqb_swap (first_label i) (first_label j)) (symmetric i j o.live_a o.live_b)
            where
              first_label : ℕ → ℕ
              first_label m = label labels (first_part v m)
          go (inr e) = cond-false (is_open v i j) _ k.zero e ∙ sym (cond-false (is_open v j i) _ k.zero (sym (open_swap v g i j) ∙ e))

    pub live_swap : ((i j : ℕ) → v.live i ≡ true → v.live j ≡ true → amount_in k v cells i j ≡ amount_in k v cells j i) → (i j : ℕ) → live_amount k v cells i j ≡ live_amount k v cells j i
    live_swap symmetric i j = go (cases_Bool (v.live i && v.live j))
      where
        go : ((v.live i && v.live j) ≡ true) ⊎ ((v.live i && v.live j) ≡ false) → live_amount k v cells i j ≡ live_amount k v cells j i
        go (inl e) = let h = and_parts (v.live i) (v.live j) e in ap (λ x. cond (v.live i && v.live j) x k.zero) (symmetric i j h.0 h.1) ∙ ap (λ t. cond t (amount_in k v cells j i) k.zero) (and_comm (v.live i) (v.live j))
        go (inr e) = cond-false (v.live i && v.live j) _ k.zero e ∙ sym (cond-false (v.live j && v.live i) _ k.zero (and_comm (v.live j) (v.live i) ∙ e))
