-- Totals of lists of amounts.
use Rattle.std.specs.Prelude.{◌≡◌, ℕ, ◌+◌, ◌≤◌, List, [], ◌∷◌, ◌++◌, map, fold}
use mathlib.Core.List.{Permᴰ}
use Rattle.std.specs.List.{flat_map, AllByRecursion}
use Rattle.amount.specs.Kind.{Kind, span_limit, AtMost}

-- zero, plus the first, plus the second, and so on
abbrev pub total : {A : Type 0} → Kind A → List A → A
total k xs = fold k.sum k.zero xs

-- the spans of all, added up
abbrev pub spans : {A : Type 0} → Kind A → List A → ℕ
spans k [] = 0
spans k (x ∷ xs) = k.span x + spans k xs

-- the first and the second of each pair
abbrev pub lefts : {A : Type 0} → List (A × A) → List A
lefts ps = map (λ p. p.0) ps

abbrev pub rights : {A : Type 0} → List (A × A) → List A
rights ps = map (λ p. p.1) ps

-- totals are exact sums, as long as the spans of all that is named come to at most the limit
pub record ExactTotals {A : Type 0} (k : Kind A) : Type 0 where
  pub span_of_total : (xs : List A) → spans k xs ≤ span_limit → k.span (total k xs) ≤ spans k xs
  pub any_order : (xs ys : List A) → Permᴰ xs ys → spans k xs ≤ span_limit → total k xs ≡ total k ys
  pub two_parts : (xs ys : List A) → spans k xs + spans k ys ≤ span_limit → total k (xs ++ ys) ≡ k.sum (total k xs) (total k ys)
  pub any_bracketing : (xss : List (List A)) → spans k (flat_map (λ xs. xs) xss) ≤ span_limit → total k (flat_map (λ xs. xs) xss) ≡ total k (map (total k) xss)
  pub total_of_sums : (ps : List (A × A)) → spans k (lefts ps) + spans k (rights ps) ≤ span_limit → total k (map (λ p. k.sum p.0 p.1) ps) ≡ k.sum (total k (lefts ps)) (total k (rights ps))
  -- item by item at most gives a total at most
  pub at_most : (ps : List (A × A)) → spans k (lefts ps) + spans k (rights ps) ≤ span_limit → AllByRecursion (λ p. AtMost k p.0 p.1) ps → AtMost k (total k (lefts ps)) (total k (rights ps))
