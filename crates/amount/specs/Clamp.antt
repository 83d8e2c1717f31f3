-- Whole numbers held between -2^50 and 2^50.
use Rattle.std.specs.Prelude.{◌≤◌, ℤ, pos, neg_ℤ, unsigned_abs}
use Rattle.std.proofs.Common.{arith}
use Rattle.std.specs.Int.{int_max, int_min}
use Rattle.std.proofs.lemmas.Int.{ints, clamps}
use Rattle.amount.specs.Kind.{span_limit}

-- the nearest whole number whose absolute value is at most the limit
abbrev pub clamp : ℤ → ℤ
clamp z = int_max (neg_ℤ (pos span_limit)) (int_min z (pos span_limit))

pub clamp_fits : (z : ℤ) → unsigned_abs (clamp z) ≤ span_limit
clamp_fits z = omega (arith, ints, clamps)
