use Rattle.board.specs.Played.{position}
use Rattle.board.proofs.Runs.{SoFar}
use Rattle.board.proofs.playing.play_on.Given as goal

abbrev pub invariant-loop-place : goal.invariant-loop-place
invariant-loop-place g l = SoFar g.A.Amount.kind (position l.initial.board.state l.initial.cells l.initial.booked) l.steps l.place l.board.state l.cells l.booked
