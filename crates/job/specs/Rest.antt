-- What an iterator over pairs has still to give.
use Rattle.std.specs.Prelude.{ℕ, ◌-◌, List, drop}
use Rattle.std.specs.List.{range_with_len, flat_map}
use Rattle.job.specs.Tests.{row}
use Rattle.job.specs.declared.pairs.Pairs.{Pairs}

-- the rows j, j + 1 and so on, below n
abbrev pub rows_from : ℕ → ℕ → List (ℕ × ℕ)
rows_from j n = flat_map row (range_with_len j (n - j))

-- these rows, less what was given of the first
abbrev pub rest : Pairs → List (ℕ × ℕ)
rest p = drop p.smaller (rows_from p.larger p.limit)
