-- Clamped sums of whole numbers: what each rank of an amount keeps.
use Rattle.std.specs.Prelude.{◌≡◌, ◌+◌, ◌≤◌, true, false, ℤ, pos, ◌+ℤ◌, neg_ℤ, int_lt, unsigned_abs}
use Rattle.std.proofs.Common.{sym, ap, ◌∙◌, arith}
use Rattle.std.proofs.Math.IntN.{+ℤ_assoc}
use Rattle.std.proofs.lemmas.Int.{ints, clamps}
use Rattle.amount.specs.Kind.{span_limit}
use Rattle.amount.specs.Clamp.{clamp}

pub clamp_same : (z : ℤ) → unsigned_abs z ≤ span_limit → clamp z ≡ z
clamp_same z h = omega (arith, ints, clamps)

pub associates : (a b c : ℤ) → unsigned_abs a + unsigned_abs b + unsigned_abs c ≤ span_limit → clamp (clamp (a +ℤ b) +ℤ c) ≡ clamp (a +ℤ clamp (b +ℤ c))
associates a b c h =
    let ab : unsigned_abs (a +ℤ b) ≤ span_limit = omega (arith, ints) in
    let bc : unsigned_abs (b +ℤ c) ≤ span_limit = omega (arith, ints) in
    ap (λ v. clamp (v +ℤ c)) (clamp_same (a +ℤ b) ab) ∙ ap clamp (+ℤ_assoc a b c) ∙ sym (ap (λ v. clamp (a +ℤ v)) (clamp_same (b +ℤ c) bc))

pub commutes : (a b : ℤ) → clamp (a +ℤ b) ≡ clamp (b +ℤ a)
commutes a b = omega (arith, ints, clamps)

pub neutral : (a : ℤ) → unsigned_abs a ≤ span_limit → clamp (clamp (pos 0) +ℤ a) ≡ a
neutral a h = omega (arith, ints, clamps)

pub cancels : (a : ℤ) → unsigned_abs a ≤ span_limit → clamp (a +ℤ clamp (neg_ℤ a)) ≡ clamp (pos 0)
cancels a h = omega (arith, ints, clamps)

pub span_sum : (a b : ℤ) → unsigned_abs (clamp (a +ℤ b)) ≤ unsigned_abs a + unsigned_abs b
span_sum a b = omega (arith, ints, clamps)

pub span_opposite : (a : ℤ) → unsigned_abs a ≤ span_limit → unsigned_abs (clamp (neg_ℤ a)) ≡ unsigned_abs a
span_opposite a h = omega (arith, ints, clamps)

pub irreflexive : (a : ℤ) → int_lt a a ≡ false
irreflexive a = grind (arith, ints)

pub transitive : (a b c : ℤ) → int_lt a b ≡ true → int_lt b c ≡ true → int_lt a c ≡ true
transitive a b c p q = grind (arith, ints)

pub connected : (a b : ℤ) → int_lt a b ≡ false → int_lt b a ≡ false → a ≡ b
connected a b p q = omega (arith, ints)

pub shifts : (a b c : ℤ) → unsigned_abs a + unsigned_abs b + unsigned_abs c ≤ span_limit → int_lt (clamp (a +ℤ c)) (clamp (b +ℤ c)) ≡ int_lt a b
shifts a b c h = grind (arith, ints, clamps)
