-- A job: parts numbered from 0, an amount for each pair, and marks on the pairs that must be apart.
-- In the literature an edge-weighted graph with forbidden edges.
use Rattle.std.specs.Prelude.{◌≡◌, ℕ, ◌+◌, ◌*◌, ◌<◌, ◌≤◌, Bool, false, not, ◌&&◌, ◌||◌, List, length, ◌==◌, nat_le, slice_index_or}
use Rattle.amount.specs.Kind.{Kind}
use Rattle.amount.specs.Signs.{same}
use Rattle.std.specs.List.{list_all}
use Rattle.job.specs.Tests.{every, alike}

-- the square and the marks are written row by row
pub record Job (A : Type 0) : Type 0 where
  pub parts : ℕ
  pub square : List A
  pub marks : List Bool

-- the most parts of a job
abbrev pub max_parts : ℕ
max_parts = 32

-- the widest span of an amount of a job
abbrev pub max_span : ℕ
max_span = 1000000

-- the amount of the pair i, j: positive is what it costs to have the two in different groups, negative in the same one
abbrev pub amount_at : {A : Type 0} → Kind A → Job A → ℕ → ℕ → A
amount_at k job i j = slice_index_or job.square (i * job.parts + j) k.zero

-- whether the pair i, j is marked: the two must be apart
abbrev pub mark_at : ℕ → List Bool → ℕ → ℕ → Bool
mark_at n marks i j = slice_index_or marks (i * n + j) false

abbrev pub marked : {A : Type 0} → Job A → ℕ → ℕ → Bool
marked job = mark_at job.parts job.marks

-- What makes a job, in the order in which it is checked.

abbrev pub Within : {A : Type 0} → Job A → Type 0
Within job = (1 ≤ job.parts) × (job.parts ≤ max_parts)

abbrev pub Sized : {A : Type 0} → Job A → Type 0
Sized job = (length job.square ≡ job.parts * job.parts) × (length job.marks ≡ job.parts * job.parts)

-- symmetric, with nothing on the diagonal
pub record Mirrored {A : Type 0} (k : Kind A) (job : Job A) : Type 0 where
  pub square_symmetric : (i j : ℕ) → i < job.parts → j < job.parts → amount_at k job i j ≡ amount_at k job j i
  pub square_diagonal : (i : ℕ) → i < job.parts → amount_at k job i i ≡ k.zero
  pub marks_symmetric : (i j : ℕ) → i < job.parts → j < job.parts → marked job i j ≡ marked job j i
  pub marks_diagonal : (i : ℕ) → i < job.parts → marked job i i ≡ false

-- no amount of the square is too wide
abbrev pub Narrow : {A : Type 0} → Kind A → List A → Type 0
Narrow k square = (c : ℕ) → c < length square → k.span (slice_index_or square c k.zero) ≤ max_span

-- all four
pub record Sound {A : Type 0} (k : Kind A) (job : Job A) : Type 0 where
  pub within : Within job
  pub sized : Sized job
  pub mirrored : Mirrored k job
  pub narrow : Narrow k job.square

-- The same as tests.

abbrev pub is_within : {A : Type 0} → Job A → Bool
is_within job = nat_le 1 job.parts && nat_le job.parts max_parts

abbrev pub is_sized : {A : Type 0} → Job A → Bool
is_sized job = length job.square == job.parts * job.parts && length job.marks == job.parts * job.parts

-- the cells i, j hold what the cells j, i hold
abbrev pub is_twin : {A : Type 0} → Kind A → Job A → ℕ → ℕ → Bool
is_twin k job i j = same k (amount_at k job i j) (amount_at k job j i) && alike (marked job i j) (marked job j i)

-- the cells i, i hold nothing
abbrev pub is_blank : {A : Type 0} → Kind A → Job A → ℕ → Bool
is_blank k job i = same k (amount_at k job i i) k.zero && not (marked job i i)

-- the cells i, j hold what the cells j, i hold, and nothing where they are on the diagonal
abbrev pub is_mirrored_at : {A : Type 0} → Kind A → Job A → ℕ → ℕ → Bool
is_mirrored_at k job i j = is_twin k job i j && (not (i == j) || is_blank k job i)

abbrev pub is_mirrored : {A : Type 0} → Kind A → Job A → Bool
is_mirrored k job = every job.parts (λ i. every job.parts (is_mirrored_at k job i))

abbrev pub is_narrow : {A : Type 0} → Kind A → List A → Bool
is_narrow k square = list_all (λ x. nat_le (k.span x) max_span) square
