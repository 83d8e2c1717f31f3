-- The kind of amounts of one number.
use Rattle.std.specs.Prelude.{ℤ, pos, ◌+ℤ◌, neg_ℤ, int_lt, unsigned_abs}
use Rattle.amount.specs.Kind.{Kind}
use Rattle.amount.specs.Clamp.{clamp, clamp_fits}
use Rattle.amount.specs.declared.singles.Single.{Single}

-- the amount nearest to a whole number
abbrev pub single : ℤ → Single
single z = record { value = clamp z; narrow = clamp_fits z }

abbrev pub single_kind : Kind Single
single_kind = record {
  zero = single (pos 0);
  sum = λ x y. single (x.value +ℤ y.value);
  opposite = λ x. single (neg_ℤ x.value);
  below = λ x y. int_lt x.value y.value;
  span = λ x. unsigned_abs x.value;
}
