use Rattle.std.proofs.Common.{◌≡◌}
use Rattle.board.specs.State.{standing}
use Rattle.board.specs.Trail.{taken_back}
use Rattle.board.proofs.board.Board.take_back_to.Given as goal

abbrev pub invariant-loop-self : goal.invariant-loop-self
invariant-loop-self l = taken_back l.mark l.self.state ≡ taken_back l.mark l.initial.self.state

abbrev pub decreases-loop-self : goal.decreases-loop-self
decreases-loop-self l = standing l.self.state
