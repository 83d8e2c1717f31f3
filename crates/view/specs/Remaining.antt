-- Groupings that respect a board, and what they cost from there on.
use Rattle.std.specs.Prelude.{◌≡◌, ℕ, if◌then◌else◌, Bool, true, not, ◌&&◌, ◌||◌, List, map, find, unwrap_or, ◌≢◌}
use Rattle.std.specs.List.{range_with_len}
use Rattle.amount.specs.Kind.{Kind}
use Rattle.amount.specs.Totals.{total}
use Rattle.job.specs.Grouping.{label, together as in_one_group}
use Rattle.job.specs.Tests.{every, every_pair, pairs}
use Rattle.job.specs.Cost.{separating_term, joining_term}
use Rattle.view.specs.View.{View, width, is_open, amount_in}

-- the parts of each id share a group, and the parts of ids that are apart do not
pub record RespectsBoard (v : View) (labels : List ℕ) : Type 0 where
  pub within_id : (i p q : ℕ) → v.holds i p ≡ true → v.holds i q ≡ true → label labels p ≡ label labels q
  pub across_apart : (i j p q : ℕ) → v.apart i j ≡ true → v.holds i p ≡ true → v.holds j q ≡ true → label labels p ≢ label labels q

-- the smallest part of an id, and 0 if it holds none
abbrev pub first_part : View → ℕ → ℕ
first_part v i = unwrap_or (find (v.holds i) (range_with_len 0 v.parts)) 0

-- two ids share a group: their smallest parts do
abbrev pub share : View → List ℕ → ℕ → ℕ → Bool
share v labels i j = in_one_group labels (first_part v i) (first_part v j)

-- the same pair terms as in the cost, with ids for parts; a pair that is not open costs nothing more
abbrev pub open_separating_charge : {A : Type 0} → Kind A → View → List A → List ℕ → ℕ × ℕ → A
open_separating_charge k v cells labels p = if is_open v p.0 p.1 then separating_term k (share v labels p.0 p.1) (amount_in k v cells p.0 p.1) else k.zero

abbrev pub open_joining_charge : {A : Type 0} → Kind A → View → List A → List ℕ → ℕ × ℕ → A
open_joining_charge k v cells labels p = if is_open v p.0 p.1 then joining_term k (share v labels p.0 p.1) (amount_in k v cells p.0 p.1) else k.zero

abbrev pub remaining_separating : {A : Type 0} → Kind A → View → List A → List ℕ → A
remaining_separating k v cells labels = total k (map (open_separating_charge k v cells labels) (pairs (width v)))

abbrev pub remaining_joining : {A : Type 0} → Kind A → View → List A → List ℕ → A
remaining_joining k v cells labels = total k (map (open_joining_charge k v cells labels) (pairs (width v)))

-- the remaining cost is their sum
abbrev pub remaining : {A : Type 0} → Kind A → View → List A → List ℕ → A
remaining k v cells labels = k.sum (remaining_separating k v cells labels) (remaining_joining k v cells labels)

-- Whether a grouping respects the board, as tests.

-- the parts of an id have the label of its smallest part
abbrev pub is_whole : View → List ℕ → ℕ → Bool
is_whole v labels i = every v.parts (λ p. not (v.holds i p) || in_one_group labels p (first_part v i))

-- the pair is apart and shares a group
abbrev pub is_clash : View → List ℕ → ℕ → ℕ → Bool
is_clash v labels i j = v.apart i j && share v labels i j

abbrev pub is_respected : View → List ℕ → Bool
is_respected v labels = every (width v) (is_whole v labels) && every_pair (width v) (λ i j. not (is_clash v labels i j))
