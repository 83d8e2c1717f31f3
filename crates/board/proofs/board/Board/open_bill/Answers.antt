use Rattle.std.proofs.Common.{ap, ◌∙◌, rules, tests}
use Rattle.job.specs.Tests.{pairs}
use Rattle.job.proofs.Walks.{totals_from_fold}
use Rattle.view.specs.Remaining.{open_separating_charge, open_joining_charge}
use Rattle.view.specs.View.{width}
use Rattle.board.specs.State.{view_of}
use Rattle.board.proofs.board.Board.open_bill.Goals as goal

pub returns : goal.returns
returns g c =
    let k = g.A.Amount.kind in
    let v = view_of c.args.self.now.state in
    let cells = c.args.cells.now in
    let labels = c.args.labels.now in
    let totals = totals_from_fold k (open_separating_charge k v cells labels) (open_joining_charge k v cells labels) _ (width v) c.default.result c.fold.result c.fold.ensures.ran (c.below.ensures ∙ ap pairs c.width.ensures) (λ a x b q h. search (rules, tests)) in
    record { separating = search rules; joining = search rules }
