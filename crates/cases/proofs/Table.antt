-- The table holds, by computation.
use Rattle.std.proofs.Common.{[], ◌∷◌, pos, refl}
use Rattle.std.specs.List.{AllByRecursion}
use Rattle.amount.specs.Single.{single, single_kind}
use Rattle.amount.specs.Ranked.{ranked, ranked_kind}
use Rattle.amount.specs.SingleLaws.{single_laws}
use Rattle.amount.specs.RankedLaws.{ranked_laws}
use Rattle.job.specs.Cost.{Least}
use Rattle.job.proofs.Told.{mirrored_told}
use Rattle.cases.specs.Worked.{worked_cases, Holds, plain, in_ranks, mark_01}
use Rattle.cases.proofs.Candidates.{least_by_trying}

least_plain : Least single_kind (plain []) (single (pos 3))
least_plain = least_by_trying single_kind (plain []) (single (pos 3)) (0 ∷ 0 ∷ 2 ∷ []) (mirrored_told single_kind single_laws (plain []) refl) refl refl refl refl refl

least_marked : Least single_kind (plain mark_01) (single (pos 0))
least_marked = least_by_trying single_kind (plain mark_01) (single (pos 0)) (0 ∷ 1 ∷ 1 ∷ []) (mirrored_told single_kind single_laws (plain mark_01) refl) refl refl refl refl refl

least_in_ranks : Least ranked_kind in_ranks (ranked (pos 0) (pos 900))
least_in_ranks = least_by_trying ranked_kind in_ranks (ranked (pos 0) (pos 900)) (0 ∷ 0 ∷ 2 ∷ []) (mirrored_told ranked_kind ranked_laws in_ranks refl) refl refl refl refl refl

pub all_hold : AllByRecursion Holds worked_cases
all_hold = (refl, (refl, (refl, (refl, (refl, (least_plain, (refl, (refl, (least_marked, (refl, (least_in_ranks, tt)))))))))))
