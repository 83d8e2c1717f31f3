-- Single amounts keep the laws.
use Rattle.std.specs.Prelude.{◌≡◌, ◌≤◌, unsigned_abs, refl}
use Rattle.std.proofs.Common.{◌∙◌}
use mathlib.Core.HLevel.{is_prop→PathP}
use Rattle.std.proofs.Math.Bridge.{le_prop}
use Rattle.amount.specs.Kind.{Laws, span_limit}
use Rattle.amount.specs.Single.{single_kind}
use Rattle.amount.specs.declared.singles.Single.{Single}
use Rattle.amount.specs.Trichotomy.{exactly_one}
use Rattle.amount.specs.Clamped as whole

-- two single amounts are one where their numbers are
pub same_single : (x y : Single) → x.value ≡ y.value → x ≡ y
same_single x y p = λ i. record { value = p i; narrow = is_prop→PathP (λ j. unsigned_abs (p j) ≤ span_limit) (λ j. le_prop) x.narrow y.narrow i }

pub single_laws : Laws single_kind
single_laws = record {
  span_most = λ x. x.narrow;
  span_zero = refl;
  span_opposite = λ x. whole.span_opposite x.value x.narrow;
  span_sum = λ x y h. whole.span_sum x.value y.value;
  commutes = λ x y h. same_single _ _ (whole.commutes x.value y.value);
  associates = λ x y z h. same_single _ _ (whole.associates x.value y.value z.value h);
  neutral = λ x. same_single _ _ (whole.neutral x.value x.narrow);
  cancels = λ x h. same_single _ _ (whole.cancels x.value x.narrow);
  ordered = exactly_one single_kind.below (λ x. whole.irreflexive x.value) (λ x y z. whole.transitive x.value y.value z.value) (λ x y p q. same_single x y (whole.connected x.value y.value p q));
  transitive = λ x y z. whole.transitive x.value y.value z.value;
  shifts = λ x y z h p. whole.shifts x.value y.value z.value h ∙ p;
}
