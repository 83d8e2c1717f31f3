use Rattle.board.specs.State.{view_of}
use Rattle.board.proofs.Told.{separation_carries}
use Rattle.board.proofs.board.Board.separate.Goals as goal

pub returns-clause-reached : goal.returns-clause-reached
returns-clause-reached g c =
    let k = g.A.Amount.kind in
    let s = c.args.self.now.state in
    let step = c.try_separation-answer.ensures in
    separation_carries k (view_of s) c.args.cells.now c.args.a c.args.b c.try_separation-answer.result s c.try_separation-answer.new.self.state step.answer step.board
