-- The kind of amounts of two numbers, the first before the second: rank by rank the kind of one number.
use Rattle.std.specs.Prelude.{max, Bool, not, ◌&&◌, ◌||◌, ℤ, int_lt}
use Rattle.amount.specs.Kind.{Kind}
use Rattle.amount.specs.Single.{single, single_kind}
use Rattle.amount.specs.declared.ranks.Ranked.{Ranked}

-- the amount whose ranks are nearest to two whole numbers
abbrev pub ranked : ℤ → ℤ → Ranked
ranked a b = record { first = single a; second = single b }

-- a/b is below c/d: by the first rank, and where that is the same by the second
abbrev pub ranked_below : ℤ → ℤ → ℤ → ℤ → Bool
ranked_below a b c d = int_lt a c || (not (int_lt c a) && int_lt b d)

abbrev pub ranked_kind : Kind Ranked
ranked_kind = record {
  zero = record { first = single_kind.zero; second = single_kind.zero };
  sum = λ x y. record { first = single_kind.sum x.first y.first; second = single_kind.sum x.second y.second };
  opposite = λ x. record { first = single_kind.opposite x.first; second = single_kind.opposite x.second };
  below = λ x y. ranked_below x.first.value x.second.value y.first.value y.second.value;
  span = λ x. max (single_kind.span x.first) (single_kind.span x.second);
}
