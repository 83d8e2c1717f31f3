-- What a lower bound means, and the law that every bound owes.
use Rattle.std.specs.Prelude.{◌≡◌, ℕ, ◌^◌, ◌≤◌, List}
use Rattle.amount.specs.Kind.{Kind, AtMost}
use Rattle.job.specs.Grouping.{Grouping}
use Rattle.job.specs.Job.{Job}
use Rattle.view.specs.Reached.{Agree, Reached}
use Rattle.view.specs.Remaining.{RespectsBoard, remaining}
use Rattle.view.specs.View.{View}

-- a bound's meaning: an amount for each board's view and its amounts
abbrev pub Meaning : Type 0 → Type 0
Meaning A = View → List A → A

-- the widest span of a bound
abbrev pub max_bound_span : ℕ
max_bound_span = 2 ^ 42

-- on every reached board a bound is at least zero, at most the remaining cost of every grouping that respects the board, and narrow; and no cell but those of pairs of live ids sways it
pub record Lawful {A : Type 0} (k : Kind A) (meaning : Meaning A) : Type 0 where
  pub at_least_zero : (job : Job A) (v : View) (cells : List A) (booked : A) → Reached k job v cells booked → AtMost k k.zero (meaning v cells)
  pub at_most_remaining : (job : Job A) (v : View) (cells : List A) (booked : A) → Reached k job v cells booked → (labels : List ℕ) → Grouping job.parts labels → RespectsBoard v labels → AtMost k (meaning v cells) (remaining k v cells labels)
  pub narrow : (job : Job A) (v : View) (cells : List A) (booked : A) → Reached k job v cells booked → k.span (meaning v cells) ≤ max_bound_span
  pub unswayed : (job : Job A) (v : View) (cells again : List A) (booked : A) → Reached k job v cells booked → Agree k v cells again → meaning v cells ≡ meaning v again
