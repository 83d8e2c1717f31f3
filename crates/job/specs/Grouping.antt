-- A grouping of the parts: a label for each part, the smallest part of its group. In the literature a clustering.
use Rattle.std.specs.Prelude.{◌≡◌, ℕ, ◌<◌, ◌≤◌, Bool, true, not, ◌&&◌, List, length, ◌==◌, ◌≢◌, nat_le, slice_index}
use Rattle.job.specs.Tests.{every, every_pair}
use Rattle.job.specs.Job.{Job, marked}

abbrev pub label : List ℕ → ℕ → ℕ
label labels p = slice_index labels p

-- n labels, and the label of each part p is a part of its group and the smallest one there (so it is at most p)
pub record Grouping (n : ℕ) (labels : List ℕ) : Type 0 where
  pub counted : length labels ≡ n
  pub inside : (p : ℕ) → p < n → label labels (label labels p) ≡ label labels p
  pub smallest : (p q : ℕ) → p < n → q < n → label labels q ≡ label labels p → label labels p ≤ q

-- no marked pair shares a group
abbrev pub Respects : {A : Type 0} → Job A → List ℕ → Type 0
Respects job labels = (i j : ℕ) → i < job.parts → j < job.parts → marked job i j ≡ true → label labels i ≢ label labels j

-- The same as tests.

abbrev pub together : List ℕ → ℕ → ℕ → Bool
together labels i j = label labels i == label labels j

-- the label of p is no part above p, and is its own label
abbrev pub is_label : List ℕ → ℕ → Bool
is_label labels p = nat_le (label labels p) p && label labels (label labels p) == label labels p

abbrev pub is_grouping : ℕ → List ℕ → Bool
is_grouping n labels = every n (is_label labels)

-- the pair i, j is marked and shares a group
abbrev pub is_clash : {A : Type 0} → Job A → List ℕ → ℕ → ℕ → Bool
is_clash job labels i j = marked job i j && together labels i j

abbrev pub is_respectful : {A : Type 0} → Job A → List ℕ → Bool
is_respectful job labels = every_pair job.parts (λ i j. not (is_clash job labels i j))
