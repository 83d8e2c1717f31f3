use Rattle.std.proofs.Common.{not, rules, tests}
use Rattle.job.proofs.Walks.{every_pair_from_all}
use Rattle.view.specs.Remaining.{is_clash}
use Rattle.board.specs.State.{view_of}
use Rattle.board.proofs.board.Board.are_kept_apart.Goals as goal

pub returns : goal.returns
returns c = every_pair_from_all (λ i j. not (is_clash (view_of c.args.self.now.state) c.args.labels.now i j)) _ c.all.new.self _ _ c.all.ensures.ran (search rules) (λ x b q k. search (rules, tests))
