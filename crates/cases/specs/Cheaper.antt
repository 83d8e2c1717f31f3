-- The cheaper of two groupings, each by its place and its cost.
use Rattle.std.specs.Prelude.{ℕ, if◌then◌else◌, Some, None, Option}
use Rattle.amount.specs.Kind.{Kind}

-- of two at one cost the first
abbrev pub cheaper_of : {A : Type 0} → Kind A → Option (ℕ × A) → ℕ × A → Option (ℕ × A)
cheaper_of k None new = Some new
cheaper_of k (Some held) new = if k.below new.1 held.1 then Some new else Some held
