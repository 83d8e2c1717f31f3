-- How much a board has room for.
use Rattle.std.specs.Prelude.{ℕ, ◌-◌, ◌*◌}
use Rattle.job.specs.Job.{max_parts}
use Rattle.view.specs.Law.{pair_count}

-- ids are below this
abbrev pub max_ids : ℕ
max_ids = 2 * max_parts - 1

-- no more steps stand: each settled at least one pair of parts
abbrev pub max_steps : ℕ
max_steps = pair_count max_parts
