use Rattle.std.proofs.Common.{◌≡◌}
use Rattle.job.specs.Lent.{job_of}
use Rattle.view.specs.Steps.{rewritten, start}
use Rattle.board.proofs.Written.{loaded_so_far}
use Rattle.board.proofs.loading.write_square.Given as goal

abbrev pub invariant-loop-place : goal.invariant-loop-place
invariant-loop-place g l =
    let job = job_of l.sized.job in
    l.cells ≡ rewritten g.A.Amount.kind (start job) l.initial.cells (loaded_so_far g.A.Amount.kind job l.initial.cells l.place)
