use Rattle.amount.proofs.Signs.{merges}
use Rattle.amount.proofs.overlap.Goals as goal

pub returns-then-has_opposite_signs-clause-merges : goal.returns-then-has_opposite_signs-clause-merges
returns-then-has_opposite_signs-clause-merges g c = merges g.A.Amount.kind g.met.A.Amount.laws c.args.x c.args.y

pub returns-else-has_opposite_signs-clause-merges : goal.returns-else-has_opposite_signs-clause-merges
returns-else-has_opposite_signs-clause-merges g c = merges g.A.Amount.kind g.met.A.Amount.laws c.args.x c.args.y
