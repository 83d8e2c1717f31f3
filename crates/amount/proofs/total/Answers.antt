use Rattle.amount.proofs.Totals.{exact_totals}
use Rattle.amount.proofs.total.Goals as goal

pub returns-clause-exact : goal.returns-clause-exact
returns-clause-exact g c = exact_totals g.A.Amount.kind g.met.A.Amount.laws
