use Rattle.std.proofs.Common.{arith}
use Rattle.board.proofs.Back.{live_counted}
use Rattle.board.proofs.board.Board.live_count.Goals as goal

pub overflow_sub-result : goal.overflow_sub-result
overflow_sub-result c = let n = live_counted c.args.self.now.state c.args.self.now.past in omega arith

pub returns : goal.returns
returns c = let n = live_counted c.args.self.now.state c.args.self.now.past in omega arith
