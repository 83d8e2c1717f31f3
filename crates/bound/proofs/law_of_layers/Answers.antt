use Rattle.bound.proofs.Stacks.{stacks_lawful}
use Rattle.bound.proofs.law_of_layers.Goals as goal

pub returns : goal.returns
returns g c = stacks_lawful g.A.Amount.kind g.met.A.Amount.laws
