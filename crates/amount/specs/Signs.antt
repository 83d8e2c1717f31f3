-- Signs of amounts, by the kind's own order.
use Rattle.std.specs.Prelude.{◌≡◌, ◌+◌, ◌*◌, ◌≤◌, Bool, if◌then◌else◌, not, ◌&&◌, ◌||◌}
use Rattle.amount.specs.Kind.{Kind, span_limit}

abbrev pub positive : {A : Type 0} → Kind A → A → Bool
positive k x = k.below k.zero x

abbrev pub negative : {A : Type 0} → Kind A → A → Bool
negative k x = k.below x k.zero

-- neither is below the other; by the laws, that they are one amount
abbrev pub same : {A : Type 0} → Kind A → A → A → Bool
same k x y = not (k.below x y) && not (k.below y x)

-- the absolute amount: of a negative one its opposite, any other itself
abbrev pub absolute : {A : Type 0} → Kind A → A → A
absolute k x = if negative k x then k.opposite x else x

abbrev pub lesser : {A : Type 0} → Kind A → A → A → A
lesser k x y = if k.below y x then y else x

-- the positive part: a positive amount itself, for any other zero
abbrev pub positive_part : {A : Type 0} → Kind A → A → A
positive_part k x = if positive k x then x else k.zero

-- the negative part: the absolute amount of a negative one, for any other zero
abbrev pub negative_part : {A : Type 0} → Kind A → A → A
negative_part k x = if negative k x then k.opposite x else k.zero

abbrev pub opposite_signs : {A : Type 0} → Kind A → A → A → Bool
opposite_signs k x y = (positive k x && negative k y) || (negative k x && positive k y)

-- what of x and y is lost in x + y: with opposite signs the lesser absolute amount, else zero
abbrev pub overlap : {A : Type 0} → Kind A → A → A → A
overlap k x y = if opposite_signs k x y then lesser k (absolute k x) (absolute k y) else k.zero

-- what a merge of two amounts keeps: the parts of both are the parts of the sum plus the overlap
pub record Merges {A : Type 0} (k : Kind A) (x y : A) : Type 0 where
  pub positives : k.sum (positive_part k x) (positive_part k y) ≡ k.sum (positive_part k (k.sum x y)) (overlap k x y)
  pub negatives : k.sum (negative_part k x) (negative_part k y) ≡ k.sum (negative_part k (k.sum x y)) (overlap k x y)

-- narrow enough for that: the overlap is counted besides
abbrev pub Mergeable : {A : Type 0} → Kind A → A → A → Type 0
Mergeable k x y = 4 * (k.span x + k.span y) ≤ span_limit
