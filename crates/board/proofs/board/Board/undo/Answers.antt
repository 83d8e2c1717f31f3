use Rattle.board.proofs.Back.{undo_able, undo_past, some_by_past, few_by_past}
use Rattle.board.proofs.board.Board.undo.Goals as goal

pub take_back-requires : goal.take_back-requires
take_back-requires c = undo_able _ c.args.self.now.past c.requires

pub invariant_of-self : goal.invariant_of-self
invariant_of-self c =
    let p = undo_past _ c.args.self.now.past c.requires _ c.take_back.ensures in
    record { some = some_by_past _ p; few = few_by_past _ p; past = p }
