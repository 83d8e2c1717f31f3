-- Ranked amounts keep the laws: each is that of single amounts in both ranks, and the order goes by the first rank where it can.
use Rattle.std.specs.Prelude.{◌≡◌, ◌+◌, ◌≤◌, max, true, false, ℤ, ◌+ℤ◌, unsigned_abs, refl}
use Rattle.std.proofs.Common.{◌∙◌, arith}
use Rattle.std.proofs.lemmas.Int.{ints}
use Rattle.amount.specs.Kind.{Laws, span_limit}
use Rattle.amount.specs.Clamp.{clamp}
use Rattle.amount.specs.Clamped as whole
use Rattle.amount.specs.SingleLaws.{same_single, single_laws}
use Rattle.amount.specs.Ranked.{ranked_below, ranked_kind}
use Rattle.amount.specs.declared.ranks.Ranked.{Ranked}
use Rattle.amount.specs.Trichotomy.{exactly_one}

same_ranks : (x y : Ranked) → x.first ≡ y.first → x.second ≡ y.second → x ≡ y
same_ranks x y p q = λ i. record { first = p i; second = q i }

-- two ranked amounts are one where both numbers are
pub same_ranked : (x y : Ranked) → x.first.value ≡ y.first.value → x.second.value ≡ y.second.value → x ≡ y
same_ranked x y p q = same_ranks x y (same_single x.first y.first p) (same_single x.second y.second q)

irreflexive : (a b : ℤ) → ranked_below a b a b ≡ false
irreflexive a b = grind (arith, ints)

transitive : (a b c d e f : ℤ) → ranked_below a b c d ≡ true → ranked_below c d e f ≡ true → ranked_below a b e f ≡ true
transitive a b c d e f p q = grind (arith, ints)

connected : (a b c d : ℤ) → ranked_below a b c d ≡ false → ranked_below c d a b ≡ false → (a ≡ c) × (b ≡ d)
connected a b c d p q = grind (arith, ints)

shifts : (a b c d e f : ℤ) → max (unsigned_abs a) (unsigned_abs b) + max (unsigned_abs c) (unsigned_abs d) + max (unsigned_abs e) (unsigned_abs f) ≤ span_limit → ranked_below (clamp (a +ℤ e)) (clamp (b +ℤ f)) (clamp (c +ℤ e)) (clamp (d +ℤ f)) ≡ ranked_below a b c d
shifts a b c d e f h = cc (whole.shifts a c e (omega arith), whole.shifts c a e (omega arith), whole.shifts b d f (omega arith))

pub ranked_laws : Laws ranked_kind
ranked_laws = record {
  span_most = λ x. omega arith;
  span_zero = refl;
  span_opposite = λ x. omega (arith, single_laws.span_opposite);
  span_sum = λ x y h. omega (arith, single_laws.span_sum);
  commutes = λ x y h. same_ranks _ _ (single_laws.commutes x.first y.first (omega arith)) (single_laws.commutes x.second y.second (omega arith));
  associates = λ x y z h. same_ranks _ _ (single_laws.associates x.first y.first z.first (omega arith)) (single_laws.associates x.second y.second z.second (omega arith));
  neutral = λ x. same_ranks _ _ (single_laws.neutral x.first) (single_laws.neutral x.second);
  cancels = λ x h. same_ranks _ _ (single_laws.cancels x.first (omega arith)) (single_laws.cancels x.second (omega arith));
  ordered = exactly_one ranked_kind.below
      (λ x. irreflexive x.first.value x.second.value)
      (λ x y z. transitive x.first.value x.second.value y.first.value y.second.value z.first.value z.second.value)
      (λ x y p q. let e = connected x.first.value x.second.value y.first.value y.second.value p q in same_ranked x y e.0 e.1);
  transitive = λ x y z. transitive x.first.value x.second.value y.first.value y.second.value z.first.value z.second.value;
  shifts = λ x y z h p. shifts x.first.value x.second.value y.first.value y.second.value z.first.value z.second.value h ∙ p;
}
