use Rattle.view.proofs.Reaching.{booked_and_remaining, reached_keeps}
use Rattle.view.proofs.Playing.{cost_after_steps}
use Rattle.view.proofs.law_of_boards.Goals as goal

pub returns : goal.returns
returns g c = record {
  law = booked_and_remaining g.A.Amount.kind g.met.A.Amount.laws;
  steps = cost_after_steps g.A.Amount.kind g.met.A.Amount.laws;
  keeps = reached_keeps g.A.Amount.kind g.met.A.Amount.laws;
}
