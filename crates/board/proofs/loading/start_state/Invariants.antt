use Rattle.std.proofs.Common.{◌≡◌, map}
use Rattle.std.specs.List.{range_with_len}
use Rattle.job.specs.Lent.{job_of}
use Rattle.job.specs.Lent.{job_of}
use Rattle.board.specs.Trail.{part_id}
use Rattle.board.proofs.loading.start_state.Given as goal

abbrev pub invariant-loop-part : goal.invariant-loop-part
invariant-loop-part g l = l.ids.items ≡ map (part_id (job_of l.sized.job)) (range_with_len 0 l.part)
