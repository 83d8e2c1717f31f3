-- What the laws give of signs: the parts of a sum, and their spans.
use Rattle.std.proofs.Common.{◌≡◌, ℕ, ◌+◌, ◌*◌, ◌≤◌, true, sym, ap, ◌∙◌, arith}
use Rattle.amount.specs.Kind.{Kind, Laws, span_limit}
use Rattle.amount.specs.Signs.{absolute, lesser, positive_part, negative_part, overlap, Merges, Mergeable}
use Rattle.amount.proofs.Order.{not_both, shifted}
use Rattle.amount.proofs.Totals.{neutral_right, exchange}

module _ {A : Type 0} (k : Kind A) (laws : Laws k) where
  pub cancels_left : (x : A) → 2 * k.span x ≤ span_limit → k.sum (k.opposite x) x ≡ k.zero
  cancels_left x h = laws.commutes (k.opposite x) x (omega (arith, laws.span_opposite x)) ∙ laws.cancels x h

  pub sum_less : (x y : A) → k.span x + 2 * k.span y ≤ span_limit → k.sum (k.sum x y) (k.opposite y) ≡ x
  sum_less x y h = laws.associates x y (k.opposite y) (omega (arith, laws.span_opposite y)) ∙ ap (k.sum x) (laws.cancels y (omega arith)) ∙ neutral_right k laws x

  pub cancel_right : (x y z : A) → k.span x + 2 * k.span z ≤ span_limit → k.span y + 2 * k.span z ≤ span_limit → k.sum x z ≡ k.sum y z → x ≡ y
  cancel_right x y z f g e = sym (sum_less x z f) ∙ ap (λ v. k.sum v (k.opposite z)) e ∙ sum_less y z g

  -- x + y against zero is x against the opposite of y
  sum_over : (x y : A) → k.span x + 2 * k.span y ≤ span_limit → k.below k.zero (k.sum x y) ≡ k.below (k.opposite y) x
  sum_over x y h = cc (shifted k laws (k.opposite y) x y (omega (arith, laws.span_opposite y)), cancels_left y (omega arith))

  pub opposite_positive : (x : A) → 2 * k.span x ≤ span_limit → k.below k.zero (k.opposite x) ≡ k.below x k.zero
  opposite_positive x h = cc (shifted k laws x k.zero (k.opposite x) (omega (arith, laws.span_opposite x, laws.span_zero)), laws.cancels x h, laws.neutral (k.opposite x))

  pub opposite_negative : (x : A) → 2 * k.span x ≤ span_limit → k.below (k.opposite x) k.zero ≡ k.below k.zero x
  opposite_negative x h = cc (shifted k laws k.zero x (k.opposite x) (omega (arith, laws.span_opposite x, laws.span_zero)), laws.cancels x h, laws.neutral (k.opposite x))

  pub both_positive : (x y : A) → k.span x + k.span y ≤ span_limit → k.below k.zero x ≡ true → k.below k.zero y ≡ true → k.below k.zero (k.sum x y) ≡ true
  both_positive x y h p q =
      let more : k.below x (k.sum y x) ≡ true = cc (shifted k laws k.zero y x (omega (arith, laws.span_zero)), laws.neutral x) in
      let sum : k.below k.zero (k.sum y x) ≡ true = laws.transitive k.zero x (k.sum y x) p more in
      cc (laws.commutes x y h)

  pub both_negative : (x y : A) → k.span x + k.span y ≤ span_limit → k.below x k.zero ≡ true → k.below y k.zero ≡ true → k.below (k.sum x y) k.zero ≡ true
  both_negative x y h p q =
      let more : k.below (k.sum y x) x ≡ true = cc (shifted k laws y k.zero x (omega (arith, laws.span_zero)), laws.neutral x) in
      let sum : k.below (k.sum y x) k.zero ≡ true = laws.transitive (k.sum y x) x k.zero more p in
      cc (laws.commutes x y h)

  pub span_positive_part : (x : A) → k.span (positive_part k x) ≤ k.span x
  span_positive_part x = grind (arith, laws.span_zero)

  pub span_negative_part : (x : A) → k.span (negative_part k x) ≤ k.span x
  span_negative_part x = grind (arith, laws.span_opposite x, laws.span_zero)

  pub span_absolute : (x : A) → k.span (absolute k x) ≡ k.span x
  span_absolute x = grind (arith, laws.span_opposite x)

  pub span_lesser : (x y : A) (n : ℕ) → k.span x ≤ n → k.span y ≤ n → k.span (lesser k x y) ≤ n
  span_lesser x y n p q = grind arith

  pub span_overlap : (x y : A) → k.span (overlap k x y) ≤ k.span x + k.span y
  span_overlap x y = grind (arith, laws.span_zero, laws.span_opposite x, laws.span_opposite y)

  -- the absolute amount is both parts together
  pub absolute_parts : (x : A) → absolute k x ≡ k.sum (positive_part k x) (negative_part k x)
  absolute_parts x = let one = laws.ordered k.zero x in grind (arith, neutral_right k laws x, laws.neutral x, laws.neutral (k.opposite x))

  -- an amount and its negative part make its positive part
  pub negative_positive : (x : A) → 2 * k.span x ≤ span_limit → k.sum (negative_part k x) x ≡ positive_part k x
  negative_positive x h = let one = laws.ordered k.zero x in let none = cancels_left x h in grind (arith, laws.neutral x)

  -- by the signs of both, and with opposite signs by how each stands to the other's opposite
  pub positives_merge : (x y : A) → Mergeable k x y → k.sum (positive_part k x) (positive_part k y) ≡ k.sum (positive_part k (k.sum x y)) (overlap k x y)
  positives_merge x y h =
      let sign_x = laws.ordered k.zero x in
      let sign_y = laws.ordered k.zero y in
      let over_y = laws.ordered x (k.opposite y) in
      let over_x = laws.ordered y (k.opposite x) in
      let more = both_positive x y (omega arith) in
      let less = both_negative x y (omega arith) in
      let one_way = not_both k laws (k.sum x y) k.zero in
      let turned = laws.commutes x y (omega arith) in
      let sign_over_y = sum_over x y (omega arith) in
      let sign_over_x = sum_over y x (omega arith) in
      let less_y = sum_less x y (omega arith) in
      let less_x = sum_less y x (omega arith) in
      grind (arith, laws.neutral x, laws.neutral y, laws.neutral k.zero, neutral_right k laws x, neutral_right k laws y, neutral_right k laws (k.sum x y))

  -- from the positive parts, by adding x + y to both sides
  pub negatives_merge : (x y : A) → Mergeable k x y → k.sum (negative_part k x) (negative_part k y) ≡ k.sum (negative_part k (k.sum x y)) (overlap k x y)
  negatives_merge x y h =
      let w : A = k.sum x y in
      let o : A = overlap k x y in
      let nx : A = negative_part k x in
      let ny : A = negative_part k y in
      let nw : A = negative_part k w in
      let sw : k.span w ≤ k.span x + k.span y = laws.span_sum x y (omega arith) in
      let so : k.span o ≤ k.span x + k.span y = span_overlap x y in
      let sx : k.span nx ≤ k.span x = span_negative_part x in
      let sy : k.span ny ≤ k.span y = span_negative_part y in
      let sn : k.span nw ≤ k.span w = span_negative_part w in
      let l : k.span (k.sum nx ny) ≤ k.span nx + k.span ny = laws.span_sum nx ny (omega arith) in
      let r : k.span (k.sum nw o) ≤ k.span nw + k.span o = laws.span_sum nw o (omega arith) in
      let left : k.sum (k.sum nx ny) w ≡ k.sum (positive_part k x) (positive_part k y) = cc (exchange k laws nx ny x y (omega arith), negative_positive x (omega arith), negative_positive y (omega arith)) in
      let right : k.sum (k.sum nw o) w ≡ k.sum (positive_part k w) o = cc (laws.associates nw o w (omega arith), laws.commutes o w (omega arith), laws.associates nw w o (omega arith), negative_positive w (omega arith)) in
      cancel_right (k.sum nx ny) (k.sum nw o) w (omega arith) (omega arith) (left ∙ positives_merge x y h ∙ sym right)

  pub merges : (x y : A) → Mergeable k x y → Merges k x y
  merges x y h = record { positives = positives_merge x y h; negatives = negatives_merge x y h }
