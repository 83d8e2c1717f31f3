-- The boards that a job leads to, with their cells and what was booked on the way.
use Rattle.std.specs.Prelude.{◌≡◌, ℕ, true, List, ◌≢◌}
use Rattle.amount.specs.Kind.{Kind}
use Rattle.job.specs.Job.{Job, Sound}
use Rattle.view.specs.View.{View, Roomy, is_open, amount_in}
use Rattle.view.specs.Steps.{start, loaded_cells, load_booked, joined, joined_cells, join_booked, separated, separation_booked}

-- two cell lists, of any lengths, in which every pair of live ids reads the same
abbrev pub Agree : {A : Type 0} → Kind A → View → List A → List A → Type 0
Agree k v cells again = (i j : ℕ) → v.live i ≡ true → v.live j ≡ true → (i ≢ j) → amount_in k v cells i j ≡ amount_in k v again i j

-- by loading, by a join or a separation of an open pair, and with any cells that agree
pub data Reached {A : Type 0} (k : Kind A) (job : Job A) : View → List A → A → Type 0 where
  by_load : (cells : List A) → Sound k job → Roomy (start job) cells → Reached k job (start job) (loaded_cells k job cells) (load_booked k job)
  by_join : (v : View) (cells : List A) (booked : A) (a b : ℕ) → Reached k job v cells booked → Roomy v cells → is_open v a b ≡ true → Reached k job (joined v a b) (joined_cells k v cells a b) (k.sum booked (join_booked k v cells a b))
  by_separation : (v : View) (cells : List A) (booked : A) (a b : ℕ) → Reached k job v cells booked → is_open v a b ≡ true → Reached k job (separated v a b) cells (k.sum booked (separation_booked k v cells a b))
  by_agreement : (v : View) (cells again : List A) (booked : A) → Reached k job v cells booked → Agree k v cells again → Reached k job v again booked
