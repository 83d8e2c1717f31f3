use Rattle.std.proofs.Common.{sym, ◌∙◌, arith}
use Rattle.board.proofs.Back.{back_one}
use Rattle.board.proofs.board.Board.take_back_to.Goals as goal

pub loop-self-preserved : goal.loop-self-preserved
loop-self-preserved c =
    sym (back_one c.args.mark c.undo.new.self.state c.loop-self.self.state (sym c.undo.ensures.state) (sym c.undo.ensures.fewer) (omega arith))
    ∙ c.loop-self.invariant
