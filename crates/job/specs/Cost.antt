-- The cost of a grouping: that of weighted cluster editing, over the pairs that are not marked.
use Rattle.std.specs.Prelude.{if◌then◌else◌, ◌≡◌, ℕ, ◌+◌, ◌≤◌, Bool, List, map}
use Rattle.amount.specs.Kind.{Kind, span_limit, AtMost}
use Rattle.amount.specs.Signs.{positive_part, negative_part}
use Rattle.amount.specs.Totals.{total, spans}
use Rattle.job.specs.Job.{Job, amount_at, marked}
use Rattle.job.specs.Grouping.{Grouping, Respects, together}
use Rattle.job.specs.Tests.{pairs}

-- what a pair costs for being in different groups: its amount if positive
abbrev pub separating_term : {A : Type 0} → Kind A → Bool → A → A
separating_term k shared x = if shared then k.zero else positive_part k x

-- what a pair costs for sharing a group: its absolute amount if negative
abbrev pub joining_term : {A : Type 0} → Kind A → Bool → A → A
joining_term k shared x = if shared then negative_part k x else k.zero

-- the same of a pair of parts; a marked pair costs nothing
abbrev pub separating_charge : {A : Type 0} → Kind A → Job A → List ℕ → ℕ × ℕ → A
separating_charge k job labels p = if marked job p.0 p.1 then k.zero else separating_term k (together labels p.0 p.1) (amount_at k job p.0 p.1)

abbrev pub joining_charge : {A : Type 0} → Kind A → Job A → List ℕ → ℕ × ℕ → A
joining_charge k job labels p = if marked job p.0 p.1 then k.zero else joining_term k (together labels p.0 p.1) (amount_at k job p.0 p.1)

-- the positive amounts between groups
abbrev pub separating : {A : Type 0} → Kind A → Job A → List ℕ → A
separating k job labels = total k (map (separating_charge k job labels) (pairs job.parts))

-- the absolute negative amounts inside groups
abbrev pub joining : {A : Type 0} → Kind A → Job A → List ℕ → A
joining k job labels = total k (map (joining_charge k job labels) (pairs job.parts))

-- the cost is their sum
abbrev pub cost : {A : Type 0} → Kind A → Job A → List ℕ → A
cost k job labels = k.sum (separating k job labels) (joining k job labels)

-- the sums are exact: all that is charged spans at most the limit together
abbrev pub ExactCost : {A : Type 0} → Kind A → Job A → List ℕ → Type 0
ExactCost k job labels = spans k (map (separating_charge k job labels) (pairs job.parts)) + spans k (map (joining_charge k job labels) (pairs job.parts)) ≤ span_limit

-- the least cost: some grouping that respects the marks has it, and none has less
pub record Least {A : Type 0} (k : Kind A) (job : Job A) (least : A) : Type 0 where
  pub labels : List ℕ
  pub grouping : Grouping job.parts labels
  pub respects : Respects job labels
  pub attained : cost k job labels ≡ least
  pub none_less : (others : List ℕ) → Grouping job.parts others → Respects job others → AtMost k least (cost k job others)
