use Rattle.board.specs.State.{view_of}
use Rattle.board.proofs.Told.{join_carries}
use Rattle.board.proofs.board.Board.join.Goals as goal

pub returns-clause-reached : goal.returns-clause-reached
returns-clause-reached g c =
    let k = g.A.Amount.kind in
    let s = c.args.self.now.state in
    let step = c.try_join-answer.ensures in
    join_carries k (view_of s) c.args.cells.now c.args.a c.args.b c.try_join-answer.result s c.try_join-answer.new.self.state c.try_join-answer.new.cells step.answer step.board step.cells
