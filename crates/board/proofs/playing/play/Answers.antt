use Rattle.std.proofs.Common.{◌≡◌, subst}
use Rattle.job.specs.Lent.{job_of}
use Rattle.view.specs.Play.{Position, loaded}
use Rattle.view.specs.Reached.{Reached}
use Rattle.view.proofs.Reaching.{booked_and_remaining, reached_keeps}
use Rattle.board.specs.Played.{position, Stands}
use Rattle.board.proofs.Runs.{reached_by}
use Rattle.board.proofs.Told.{loads}
use Rattle.board.proofs.playing.play.Goals as goal

pub returns : goal.returns
returns g c =
    let k = g.A.Amount.kind in
    let laws = g.met.A.Amount.laws in
    let job = job_of c.args.job.now in
    let cells = c.args.cells.now in
    let load = c.in_ok-board.ensures in
    let end = c.play_on-booked in
    let s = loads k laws job cells load.tells in
    let from : position c.in_ok-board.board.state c.load.new.cells c.zero.result ≡ loaded k job cells = λ z. record { view = load.board.0 z; cells = load.cells z; booked = c.zero.ensures z } in
    let at : Position g.row.A.Denot = position end.new.board.state end.new.cells end.result.0 in
    let stands : Stands k (loaded k job cells) c.args.steps.now at end.result.1 = subst (λ (start : Position g.row.A.Denot). Stands k start c.args.steps.now at end.result.1) from end.ensures.stands in
    let reached : Reached k job at.view at.cells at.booked = reached_by k job cells s.0 s.1 c.args.steps.now at end.result.1 stands in
    record {
      answer = load.answer;
      tells = load.tells;
      cells = tt;
      stands = stands;
      count = end.ensures.count;
      reached = reached;
      law = booked_and_remaining k laws job at.view at.cells at.booked reached;
      keeps = reached_keeps k laws job at.view at.cells at.booked reached;
    }
