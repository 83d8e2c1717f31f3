-- Exactly one of below, the same and above, from three laws that are easier to show of a kind.
use Rattle.std.specs.Prelude.{◌≡◌, Bool, true, false, ◌≢◌, refl}
use Rattle.std.proofs.Common.{sym, inl, inr}
use Rattle.std.proofs.lemmas.Bool.{both_ways}
use Rattle.amount.specs.Kind.{ExactlyOne}

module _ {A : Type 0} (below : A → A → Bool) (irreflexive : (x : A) → below x x ≡ false) (transitive : (x y z : A) → below x y ≡ true → below y z ≡ true → below x z ≡ true) (connected : (x y : A) → below x y ≡ false → below y x ≡ false → x ≡ y) where
  unlike : (x y : A) → below x y ≡ true → x ≢ y
  unlike x y p e = both_ways (below x x) (irreflexive x) (cc)

  pub exactly_one : (x y : A) → ExactlyOne (below x y ≡ true) (x ≡ y) (below y x ≡ true)
  exactly_one x y = go (below x y) (below y x) refl refl
    where
      go : (a b : Bool) → below x y ≡ a → below y x ≡ b → ExactlyOne (below x y ≡ true) (x ≡ y) (below y x ≡ true)
      go true b p q = inl (p, unlike x y p, λ r. both_ways (below x x) (irreflexive x) (transitive x y x p r))
      go false true p q = inr (inr (both_ways (below x y) p, λ e. unlike y x q (sym e), q))
      go false false p q = inr (inl (both_ways (below x y) p, connected x y p q, both_ways (below y x) q))
