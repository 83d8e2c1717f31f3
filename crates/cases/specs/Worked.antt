-- The worked cases, as one table over the definitions that the contracts cite.
use Rattle.std.specs.Prelude.{◌≡◌, ℕ, Bool, true, false, if◌then◌else◌, ◌&&◌, ◌||◌, List, [], ◌∷◌, map, ℤ, pos, neg_ℤ, Some, Ok, ◌==◌}
use Rattle.std.specs.List.{range_with_len, flat_map}
use Rattle.amount.specs.Kind.{Kind}
use Rattle.amount.specs.Single.{single, single_kind}
use Rattle.amount.specs.Ranked.{ranked, ranked_kind}
use Rattle.amount.specs.declared.singles.Single.{Single}
use Rattle.amount.specs.declared.ranks.Ranked.{Ranked}
use Rattle.job.specs.Job.{Job}
use Rattle.job.specs.Cost.{Least}
use Rattle.job.specs.Answers.{priced, refused_with}
use Rattle.job.specs.Refusals.{cost_number}

-- a value for a pair of parts
pub record Entry (X : Type 0) : Type 0 where
  pub one : ℕ
  pub other : ℕ
  pub value : X

-- the value at i, j, in either order; that of an unlisted pair is given
abbrev pub listed : {X : Type 0} → X → List (Entry X) → ℕ → ℕ → X
listed none [] i j = none
listed none (e ∷ es) i j = if (e.one == i && e.other == j) || (e.one == j && e.other == i) then e.value else listed none es i j

-- the square of n parts with these entries, row by row
abbrev pub square_of : {X : Type 0} → X → ℕ → List (Entry X) → List X
square_of none n es = flat_map (λ i. map (listed none es i) (range_with_len 0 n)) (range_with_len 0 n)

abbrev pub job_with : {A : Type 0} → Kind A → ℕ → List (Entry A) → List (Entry Bool) → Job A
job_with k n amounts marks = record { parts = n; square = square_of k.zero n amounts; marks = square_of false n marks }

abbrev pub at : {X : Type 0} → ℕ → ℕ → X → Entry X
at i j x = record { one = i; other = j; value = x }

-- three parts: 0-1 at 5, 0-2 at -4, 1-2 at 3
abbrev pub plain : List (Entry Bool) → Job Single
plain marks = job_with single_kind 3 (at 0 1 (single (pos 5)) ∷ at 0 2 (single (neg_ℤ (pos 4))) ∷ at 1 2 (single (pos 3)) ∷ []) marks

-- three parts: 0-1 at 1/0, 0-2 at 0/-1000, 1-2 at 0/900
abbrev pub in_ranks : Job Ranked
in_ranks = job_with ranked_kind 3 (at 0 1 (ranked (pos 1) (pos 0)) ∷ at 0 2 (ranked (pos 0) (neg_ℤ (pos 1000))) ∷ at 1 2 (ranked (pos 0) (pos 900)) ∷ []) []

-- the mark on the pair 0-1
abbrev pub mark_01 : List (Entry Bool)
mark_01 = at 0 1 true ∷ []

-- a worked case: a grouping with its cost, or with the number that it is refused with, or the least cost of a job
pub data Case : Type 0 where
  costs : Job Single → List ℕ → ℤ → Case
  costs_ranked : Job Ranked → List ℕ → ℤ → ℤ → Case
  refused : Job Single → List ℕ → ℕ → Case
  least : Job Single → ℤ → Case
  least_ranked : Job Ranked → ℤ → ℤ → Case

abbrev pub Holds : Case → Type 0
Holds (costs job labels z) = priced single_kind job labels ≡ Ok (single z)
Holds (costs_ranked job labels a b) = priced ranked_kind job labels ≡ Ok (ranked a b)
Holds (refused job labels number) = refused_with cost_number (priced single_kind job labels) ≡ Some number
Holds (least job z) = Least single_kind job (single z)
Holds (least_ranked job a b) = Least ranked_kind job (ranked a b)

abbrev pub worked_cases : List Case
worked_cases =
    costs (plain []) (0 ∷ 1 ∷ 2 ∷ []) (pos 8)
    ∷ costs (plain []) (0 ∷ 0 ∷ 2 ∷ []) (pos 3)
    ∷ costs (plain []) (0 ∷ 1 ∷ 1 ∷ []) (pos 5)
    ∷ costs (plain []) (0 ∷ 1 ∷ 0 ∷ []) (pos 12)
    ∷ costs (plain []) (0 ∷ 0 ∷ 0 ∷ []) (pos 4)
    ∷ least (plain []) (pos 3)
    ∷ costs (plain mark_01) (0 ∷ 1 ∷ 1 ∷ []) (pos 0)
    ∷ refused (plain mark_01) (0 ∷ 0 ∷ 2 ∷ []) 6
    ∷ least (plain mark_01) (pos 0)
    ∷ costs_ranked in_ranks (0 ∷ 0 ∷ 2 ∷ []) (pos 0) (pos 900)
    ∷ least_ranked in_ranks (pos 0) (pos 900)
    ∷ []
