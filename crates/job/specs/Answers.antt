-- What the check of a job and the pricing of a grouping answer, and what each answer tells.
use Rattle.std.specs.Prelude.{◌≡◌, ℕ, ◌⊎◌, List, [], ◌∷◌, ◌++◌, length, Some, None, Ok, Err, Option, Result, ◌==◌}
use Rattle.amount.specs.Kind.{Kind}
use Rattle.job.specs.Tests.{refuse_unless, refuse_or}
use Rattle.job.specs.Job.{Job, Within, Sized, Mirrored, Narrow, is_within, is_sized, is_mirrored, is_narrow}
use Rattle.job.specs.Grouping.{Grouping, Respects, is_grouping, is_respectful}
use Rattle.job.specs.Cost.{cost}
use Rattle.job.specs.declared.JobRefusal.{JobRefusal}
use Rattle.job.specs.declared.JobRefusal.TheVariants.{PartCount, WrongSize, Lopsided, TooWide}
use Rattle.job.specs.declared.CostRefusal.{CostRefusal}
use Rattle.job.specs.declared.CostRefusal.TheVariants as pricing

-- the first refusal of the sizes of a job that applies
abbrev pub sizes_checked : {A : Type 0} → Job A → Result (Unit {0}) JobRefusal
sizes_checked job =
    refuse_unless (is_within job) PartCount
    (refuse_unless (is_sized job) WrongSize
    (Ok tt))

-- the first refusal of a job that applies
abbrev pub checked : {A : Type 0} → Kind A → Job A → Result (Unit {0}) JobRefusal
checked k job =
    refuse_unless (is_within job) PartCount
    (refuse_unless (is_sized job) WrongSize
    (refuse_unless (is_mirrored k job) Lopsided
    (refuse_unless (is_narrow k job.square) TooWide
    (Ok tt))))

-- the cost of a grouping, or the first refusal that applies
abbrev pub priced : {A : Type 0} → Kind A → Job A → List ℕ → Result A CostRefusal
priced k job labels =
    refuse_or pricing.Job (checked k job)
    (refuse_unless (length labels == job.parts) pricing.LabelCount
    (refuse_unless (is_grouping job.parts labels) pricing.NotGrouping
    (refuse_unless (is_respectful job labels) pricing.Marked
    (Ok (cost k job labels)))))

-- the number that an answer refuses with, if it refuses
abbrev pub refused_with : {T E : Type 0} → (E → ℕ) → Result T E → Option ℕ
refused_with number (Ok _) = None
refused_with number (Err refusal) = Some (number refusal)

-- a rule, with the number that tells that it is broken
abbrev pub Rule : Type 1
Rule = ℕ × Type 0

-- the number is that of the first rule that is broken; none is given exactly if all are kept
abbrev pub FirstBroken : List Rule → Option ℕ → Type 0
FirstBroken [] None = Unit {0}
FirstBroken [] (Some n) = ⊥
FirstBroken (rule ∷ rules) None = rule.1 × FirstBroken rules None
FirstBroken (rule ∷ rules) (Some n) = ((rule.1 → ⊥) × (n ≡ rule.0)) ⊎ (rule.1 × FirstBroken rules (Some n))

abbrev pub size_rules : {A : Type 0} → Job A → List Rule
size_rules job = (1, Within job) ∷ (2, Sized job) ∷ []

abbrev pub job_rules : {A : Type 0} → Kind A → Job A → List Rule
job_rules k job = (1, Within job) ∷ (2, Sized job) ∷ (3, Mirrored k job) ∷ (4, Narrow k job.square) ∷ []

abbrev pub cost_rules : {A : Type 0} → Kind A → Job A → List ℕ → List Rule
cost_rules k job labels = job_rules k job ++ ((2, length labels ≡ job.parts) ∷ (7, Grouping job.parts labels) ∷ (6, Respects job labels) ∷ [])

-- only whether a call refused, and how
abbrev pub refusal_of : {T E : Type 0} → Result T E → Result (Unit {0}) E
refusal_of (Ok _) = Ok tt
refusal_of (Err refusal) = Err refusal
