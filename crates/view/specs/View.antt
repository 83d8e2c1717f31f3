-- A board's view: all of a board that definitions and laws may speak of.
-- A board stands between a job and a grouping of its parts: some parts are joined already, some pairs are settled to be apart.
use Rattle.std.specs.Prelude.{ℕ, ◌+◌, ◌-◌, ◌*◌, ◌≤◌, if◌then◌else◌, Bool, not, ◌&&◌, List, length, filter, ◌==◌, slice_index_or}
use Rattle.std.specs.List.{range_with_len}
use Rattle.amount.specs.Kind.{Kind}

-- an id stands for one part or for several that were joined; on reached boards what is not live holds nothing and is apart from nothing
pub record View : Type 0 where
  pub parts : ℕ
  pub live : ℕ → Bool
  pub holds : ℕ → ℕ → Bool
  pub apart : ℕ → ℕ → Bool

-- ids are below this
abbrev pub width : View → ℕ
width v = 2 * v.parts - 1

-- the live ids, rising
abbrev pub ids : View → List ℕ
ids v = filter v.live (range_with_len 0 (width v))

-- the next unused id, as long as two are live
abbrev pub next : View → ℕ
next v = 2 * v.parts - length (ids v)

-- two live ids that are not apart: nothing is settled of them yet
abbrev pub is_open : View → ℕ → ℕ → Bool
is_open v i j = (v.live i && v.live j) && (not (i == j) && not (v.apart i j))

-- the amount of two ids, read in the row of the first; a missing cell reads as zero. On reached boards both cells of a pair hold the same
abbrev pub amount_in : {A : Type 0} → Kind A → View → List A → ℕ → ℕ → A
amount_in k v cells i j = slice_index_or cells (i * width v + j) k.zero

-- the amount of a pair of live ids, and zero for any other pair
abbrev pub live_amount : {A : Type 0} → Kind A → View → List A → ℕ → ℕ → A
live_amount k v cells i j = if v.live i && v.live j then amount_in k v cells i j else k.zero

-- cells enough for every pair of ids
abbrev pub Roomy : {A : Type 0} → View → List A → Type 0
Roomy v cells = width v * width v ≤ length cells
