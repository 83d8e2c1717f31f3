use Rattle.std.proofs.Common.{◌∙◌, ap₂}
use Rattle.board.proofs.Back.{made_is}
use Rattle.board.proofs.board.Board.take_join.Goals as goal

pub returns-clause-answer : goal.returns-clause-answer
returns-clause-answer g c = ap₂ (λ x y. (x, y)) (c.len-id.ensures.value ∙ made_is _ c.args.self.now.past) c.join_booked-booked.ensures
