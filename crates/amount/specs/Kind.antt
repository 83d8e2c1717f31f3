-- A kind of amount: what costs are counted in. In the literature an edge weight; here any ordered group, within limits.
use Rattle.std.specs.Prelude.{◌≡◌, ℕ, ◌+◌, ◌*◌, ◌^◌, ◌≤◌, Bool, true, false, ◌⊎◌}

-- the operations of a kind; the span of an amount is how far it reaches from zero, as a whole number
pub record Kind (A : Type 0) : Type 0 where
  pub zero : A
  pub sum : A → A → A
  pub opposite : A → A
  pub below : A → A → Bool
  pub span : A → ℕ

-- no amount has a span above this
abbrev pub span_limit : ℕ
span_limit = 2 ^ 50

-- exactly one of the three holds
abbrev pub ExactlyOne : Type 0 → Type 0 → Type 0 → Type 0
ExactlyOne P Q R = (P × (Q → ⊥) × (R → ⊥)) ⊎ (((P → ⊥) × Q × (R → ⊥)) ⊎ ((P → ⊥) × (Q → ⊥) × R))

-- the laws of an ordered group, as far as numbers of limited width can keep them
pub record Laws {A : Type 0} (k : Kind A) : Type 0 where
  -- whatever the spans
  pub span_most : (x : A) → k.span x ≤ span_limit
  pub span_zero : k.span k.zero ≡ 0
  pub span_opposite : (x : A) → k.span (k.opposite x) ≡ k.span x
  pub neutral : (x : A) → k.sum k.zero x ≡ x
  pub ordered : (x y : A) → ExactlyOne (k.below x y ≡ true) (x ≡ y) (k.below y x ≡ true)
  pub transitive : (x y z : A) → k.below x y ≡ true → k.below y z ≡ true → k.below x z ≡ true
  -- where the spans of what is summed total at most the limit
  pub span_sum : (x y : A) → k.span x + k.span y ≤ span_limit → k.span (k.sum x y) ≤ k.span x + k.span y
  pub commutes : (x y : A) → k.span x + k.span y ≤ span_limit → k.sum x y ≡ k.sum y x
  pub associates : (x y z : A) → k.span x + k.span y + k.span z ≤ span_limit → k.sum (k.sum x y) z ≡ k.sum x (k.sum y z)
  pub cancels : (x : A) → 2 * k.span x ≤ span_limit → k.sum x (k.opposite x) ≡ k.zero
  -- adding the same to both sides keeps the order
  pub shifts : (x y z : A) → k.span x + k.span y + k.span z ≤ span_limit → k.below x y ≡ true → k.below (k.sum x z) (k.sum y z) ≡ true

-- x is at most y
abbrev pub AtMost : {A : Type 0} → Kind A → A → A → Type 0
AtMost k x y = k.below y x ≡ false
