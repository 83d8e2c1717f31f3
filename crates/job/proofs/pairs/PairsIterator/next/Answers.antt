use Rattle.std.proofs.Common.{◌≡◌, ◌+◌, ◌∷◌, drop, length, ap, ◌∙◌, arith}
use Rattle.job.specs.Rest.{rows_from}
use Rattle.job.proofs.Rows.{rows_step, rows_turn}
use Rattle.job.proofs.pairs.PairsIterator.next.Goals as goal

pub returns-then-self-2-clause-steps : goal.returns-then-self-2-clause-steps
returns-then-self-2-clause-steps c = let p = c.args.self.now in rows_step p.smaller p.larger p.limit p.rising c.if-self.false

pub returns-then-self-2-clause-goes : goal.returns-then-self-2-clause-goes
returns-then-self-2-clause-goes c = record { on = λ _. (tt, tt, omega (arith, ap length (returns-then-self-2-clause-steps c))); keeps = tt; rests = λ _. tt }

-- the last of its row
pub returns-else-self-2-clause-steps : goal.returns-else-self-2-clause-steps
returns-else-self-2-clause-steps c =
    let p = c.args.self.now in
    let last : p.smaller + 1 ≡ p.larger = omega (arith, p.rising) in
    rows_step p.smaller p.larger p.limit p.rising c.if-self.false
    ∙ ap (λ xs. (p.smaller, p.larger) ∷ xs) (ap (λ i. drop i (rows_from p.larger p.limit)) last ∙ rows_turn p.larger p.limit c.if-self.false)

pub returns-else-self-2-clause-goes : goal.returns-else-self-2-clause-goes
returns-else-self-2-clause-goes c = record { on = λ _. (tt, tt, omega (arith, ap length (returns-else-self-2-clause-steps c))); keeps = tt; rests = λ _. tt }
