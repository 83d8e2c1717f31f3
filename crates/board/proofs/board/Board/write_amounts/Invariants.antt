use Rattle.std.proofs.Common.{◌≡◌}
use Rattle.view.specs.Steps.{rewritten}
use Rattle.board.specs.State.{view_of}
use Rattle.board.proofs.Written.{so_far}
use Rattle.board.proofs.board.Board.write_amounts.Given as goal

abbrev pub invariant-loop-w : goal.invariant-loop-w
invariant-loop-w g l =
    let v = view_of l.self.state in
    l.cells ≡ rewritten g.A.Amount.kind v l.initial.cells (so_far g.A.Amount.kind v l.initial.cells l.a l.b l.w l.w)
