use Rattle.std.proofs.Common.{Some, ap, ◌∙◌}
use Rattle.board.specs.State.{standing, view_of}
use Rattle.board.proofs.Back.{step_able, step_view, step_past, step_fewer, step_stays, standing_redone, some_by_past, few_by_past}
use Rattle.board.proofs.board.Board.put.Goals as goal

pub put-requires : goal.put-requires
put-requires c = step_able _ c.args.self.now.past c.args.step c.requires

pub invariant_of-self : goal.invariant_of-self
invariant_of-self c =
    let p = step_past _ c.args.self.now.past (Some c.args.step) c.requires _ c.put.ensures in
    record { some = some_by_past _ p; few = few_by_past _ p; past = p }

pub returns : goal.returns
returns c =
    let s = c.args.self.now.state in
    let past = c.args.self.now.past in
    let step = Some c.args.step in
    record {
      taken = record {
        view = ap view_of c.put.ensures ∙ step_view s past c.args.step c.requires;
        more = ap standing c.put.ensures ∙ standing_redone s step c.requires;
        fewer = step_fewer s past step c.requires _ c.put.ensures;
      };
      stays = step_stays s past step c.requires _ c.put.ensures;
    }
