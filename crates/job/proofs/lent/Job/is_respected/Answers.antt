use Rattle.std.proofs.Common.{◌≡◌, ℕ, Bool, not, sym, ◌∙◌, rules, tests, arith}
use Rattle.std.proofs.lemmas.Iterator.{YieldsList-from_range}
use Rattle.std.proofs.lemmas.Iterator.Search.{all_from_yields_List}
use Rattle.job.specs.Grouping.{is_clash}
use Rattle.job.specs.Lent.{job_of}
use Rattle.job.specs.Tests.{every}
use Rattle.job.proofs.Every.{every_pair_is}
use Rattle.job.proofs.lent.Job.is_respected.Goals as goal

pub returns : goal.returns
returns g c =
    let job = job_of c.args.self.now in
    let apart : ℕ → ℕ → Bool = λ i j. not (is_clash job c.args.labels.now i j) in
    let rows : c.all.result ≡ every job.parts (λ j. every j (λ i. apart i j)) = all_from_yields_List (λ j. every j (λ i. apart i j)) _ _ c.all.result c.all.ensures.ran (YieldsList-from_range 0 job.parts job.parts (search rules) (omega arith)) (λ x b q k. search (rules, tests)) in
    rows ∙ sym (every_pair_is job.parts apart)
