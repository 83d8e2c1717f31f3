-- What the laws give of the order.
use Rattle.std.proofs.Common.{◌≡◌, ◌+◌, ◌≤◌, true, false, Decides, ◌∙◌, arith}
use Rattle.amount.specs.Kind.{Kind, Laws, span_limit, AtMost}
use Rattle.amount.specs.Signs.{same, lesser}

module _ {A : Type 0} (k : Kind A) (laws : Laws k) where
  pub not_both : (x y : A) → k.below x y ≡ true → k.below y x ≡ false
  not_both x y p = let one = laws.ordered x y in grind arith

  pub irreflexive : (x : A) → k.below x x ≡ false
  irreflexive x = let one = laws.ordered x x in grind arith

  pub connected : (x y : A) → k.below x y ≡ false → k.below y x ≡ false → x ≡ y
  connected x y p q = let one = laws.ordered x y in grind arith

  pub same_is : (x y : A) → Decides (same k x y) (x ≡ y)
  same_is x y = let one = laws.ordered x y in let itself = irreflexive x in (λ e. grind arith, λ e. grind arith)

  pub at_most_itself : (x : A) → AtMost k x x
  at_most_itself x = irreflexive x

  pub at_most_trans : (x y z : A) → AtMost k x y → AtMost k y z → AtMost k x z
  at_most_trans x y z p q = let one = laws.ordered x y in let on = laws.transitive z x y in grind arith

  pub below_at_most : (x y z : A) → k.below x y ≡ true → AtMost k y z → k.below x z ≡ true
  below_at_most x y z p q = let one = laws.ordered y z in let on = laws.transitive x y z in grind arith

  pub at_most_below : (x y z : A) → AtMost k x y → k.below y z ≡ true → k.below x z ≡ true
  at_most_below x y z p q = let one = laws.ordered x y in let on = laws.transitive x y z in grind arith

  -- adding the same to both sides changes nothing of how they stand
  pub shifted : (x y z : A) → k.span x + k.span y + k.span z ≤ span_limit → k.below (k.sum x z) (k.sum y z) ≡ k.below x y
  shifted x y z h =
      let one = laws.ordered x y in
      let up = laws.shifts x y z h in
      let down = laws.shifts y x z (omega arith) in
      let back = not_both (k.sum y z) (k.sum x z) in
      let itself = irreflexive (k.sum y z) in
      grind arith

  pub sum_at_most : (x y u v : A) → k.span x + k.span y + k.span u + k.span v ≤ span_limit → AtMost k x y → AtMost k u v → AtMost k (k.sum x u) (k.sum y v)
  sum_at_most x y u v h p q =
      let one : AtMost k (k.sum x u) (k.sum y u) = shifted y x u (omega arith) ∙ p in
      let two : k.below (k.sum v y) (k.sum u y) ≡ false = shifted v u y (omega arith) ∙ q in
      let three : AtMost k (k.sum y u) (k.sum y v) = cc (laws.commutes y v (omega arith), laws.commutes y u (omega arith)) in
      at_most_trans (k.sum x u) (k.sum y u) (k.sum y v) one three

  pub lesser_left : (x y : A) → AtMost k (lesser k x y) x
  lesser_left x y = let i = irreflexive x in let n = not_both y x in grind arith

  pub lesser_right : (x y : A) → AtMost k (lesser k x y) y
  lesser_right x y = let i = irreflexive y in grind arith
