use Rattle.std.proofs.Common.{◌≡◌, ◌+◌, map, length, ap, ◌∙◌, arith, rules}
use Rattle.std.specs.List.{range_with_len}
use Rattle.std.proofs.lemmas.List.FromFn.{length-map-range_with_len, map-range_with_len_more}
use Rattle.job.specs.Lent.{job_of}
use Rattle.board.specs.Trail.{part_id, started}
use Rattle.board.proofs.loading.start_state.Goals as goal

pub push-requires : goal.push-requires
push-requires g c = (search rules, omega (arith, ap length c.loop-part.invariant, length-map-range_with_len (part_id (job_of c.args.sized.now.job)) 0 c.loop-part.part))

pub loop-part-preserved : goal.loop-part-preserved
loop-part-preserved g c =
    let i = c.loop-part.part in
    let at : 0 + i ≡ i = omega arith in
    let more = map-range_with_len_more (part_id (job_of c.args.sized.now.job)) 0 i i at in
    cc

pub returns : goal.returns
unfolding started
returns g c =
    let end : c.loop-part.part ≡ c.args.sized.now.job.parts = omega arith in
    let ids = c.loop-part.invariant ∙ ap (λ m. map (part_id (job_of c.args.sized.now.job)) (range_with_len 0 m)) end in
    λ z. record { parts = c.args.sized.now.job.parts; ids = record { items = ids z }; trail = record { items = c.new.ensures z } }
