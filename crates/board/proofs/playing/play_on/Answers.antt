use Rattle.board.specs.Played.{position}
use Rattle.board.proofs.Runs.{one_more}
use Rattle.board.proofs.playing.play_on.Goals as goal

pub loop-place-preserved : goal.loop-place-preserved
loop-place-preserved g c = one_more g.A.Amount.kind (position c.args.board.now.state c.args.cells.now c.args.before) c.args.steps.now c.loop-place.place c.loop-place.board.state c.keep_step.new.board.state c.loop-place.cells c.keep_step.new.cells c.loop-place.booked c.in-Ok.amount c.sum-booked.result _ c.loop-place-test.true c.loop-place.invariant c.in-Ok.ensures c.sum-booked.ensures
