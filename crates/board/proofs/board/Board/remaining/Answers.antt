use Rattle.std.proofs.Common.{Ok, Err, rules}
use Rattle.board.specs.declared.refusals.RemainingRefusal.TheVariants.{NotRespected}
use Rattle.board.proofs.Told.{remaining_told}
use Rattle.board.proofs.board.Board.remaining.Goals as goal

pub returns-then-not-is_respected : goal.returns-then-not-is_respected
returns-then-not-is_respected g c = record {
  value = search rules;
  tells = remaining_told c.args.self.now.state c.args.self.now.past c.args.labels.now g.A.Amount.kind c.args.cells.now (Err NotRespected) (search rules);
}

pub returns : goal.returns
returns g c = record {
  value = search rules;
  tells = remaining_told c.args.self.now.state c.args.self.now.past c.args.labels.now g.A.Amount.kind c.args.cells.now (Ok c.cost.result) (search rules);
}
