-- What the laws give of totals: one lemma for each end of a list, and all else by induction.
use Rattle.std.proofs.Common.{◌≡◌, ℕ, ◌+◌, ◌*◌, ◌≤◌, List, [], ◌∷◌, ◌++◌, map, length, fold, sym, refl, ap, ◌∙◌, arith}
use mathlib.Core.List.{Permᴰ}
use Rattle.std.proofs.lemmas.List.Sums.{fold-append}
use Rattle.std.specs.List.{flat_map, AllByRecursion}
use Rattle.amount.specs.Kind.{Kind, Laws, span_limit, AtMost}
use Rattle.amount.specs.Totals.{total, spans, ExactTotals}
use Rattle.amount.proofs.Order.{irreflexive, sum_at_most}

module _ {A : Type 0} (k : Kind A) (laws : Laws k) where
  pub neutral_right : (x : A) → k.sum x k.zero ≡ x
  neutral_right x = laws.commutes x k.zero (omega (arith, laws.span_zero, laws.span_most x)) ∙ laws.neutral x

  -- the middle two of four change places
  pub exchange : (x y u v : A) → k.span x + k.span y + k.span u + k.span v ≤ span_limit → k.sum (k.sum x y) (k.sum u v) ≡ k.sum (k.sum x u) (k.sum y v)
  exchange x y u v h =
      let yu : k.sum y u ≡ k.sum u y = laws.commutes y u (omega arith) in
      let uv : k.span (k.sum u v) ≤ k.span u + k.span v = laws.span_sum u v (omega arith) in
      let yv : k.span (k.sum y v) ≤ k.span y + k.span v = laws.span_sum y v (omega arith) in
      cc (laws.associates x y (k.sum u v) (omega arith), laws.associates y u v (omega arith), laws.associates u y v (omega arith), laws.associates x u (k.sum y v) (omega arith))

  pub front_two : (x y u : A) → k.span x + k.span y + k.span u ≤ span_limit → k.sum x (k.sum y u) ≡ k.sum y (k.sum x u)
  front_two x y u h = cc (laws.commutes x y (omega arith), laws.associates x y u (omega arith), laws.associates y x u (omega arith))

  span_folded : (a : A) (xs : List A) → k.span a + spans k xs ≤ span_limit → k.span (fold k.sum a xs) ≤ k.span a + spans k xs
  span_folded a [] h = omega arith
  span_folded a (x ∷ xs) h =
      let s : k.span (k.sum a x) ≤ k.span a + k.span x = laws.span_sum a x (omega arith) in
      omega (arith, span_folded (k.sum a x) xs (omega arith))

  pub span_total : (xs : List A) → spans k xs ≤ span_limit → k.span (total k xs) ≤ spans k xs
  span_total xs h = omega (arith, laws.span_zero, span_folded k.zero xs (omega (arith, laws.span_zero)))

  -- a fold from an amount is that amount plus the total
  pub folded_from : (a : A) (xs : List A) → k.span a + spans k xs ≤ span_limit → fold k.sum a xs ≡ k.sum a (total k xs)
  folded_from a [] h = sym (neutral_right a)
  folded_from a (x ∷ xs) h =
      let zx : k.sum k.zero x ≡ x = laws.neutral x in
      let s : k.span (k.sum a x) ≤ k.span a + k.span x = laws.span_sum a x (omega arith) in
      let t : k.span (total k xs) ≤ spans k xs = span_total xs (omega arith) in
      let here : fold k.sum (k.sum a x) xs ≡ k.sum (k.sum a x) (total k xs) = folded_from (k.sum a x) xs (omega arith) in
      let rest : fold k.sum x xs ≡ k.sum x (total k xs) = folded_from x xs (omega arith) in
      here ∙ laws.associates a x (total k xs) (omega arith) ∙ ap (k.sum a) (sym rest ∙ ap (λ v. fold k.sum v xs) (sym zx))

  pub total_cons : (x : A) (xs : List A) → k.span x + spans k xs ≤ span_limit → total k (x ∷ xs) ≡ k.sum x (total k xs)
  total_cons x xs h = ap (λ v. fold k.sum v xs) (laws.neutral x) ∙ folded_from x xs h

  pub spans_append : (xs ys : List A) → spans k (xs ++ ys) ≡ spans k xs + spans k ys
  spans_append [] ys = omega arith
  spans_append (x ∷ xs) ys = omega (arith, spans_append xs ys)

  pub total_append : (xs ys : List A) → spans k xs + spans k ys ≤ span_limit → total k (xs ++ ys) ≡ k.sum (total k xs) (total k ys)
  total_append xs ys h = fold-append k.sum k.zero xs ys ∙ folded_from (total k xs) ys (omega (arith, span_total xs (omega arith)))

  spans_totals : (xss : List (List A)) → spans k (flat_map (λ xs. xs) xss) ≤ span_limit → spans k (map (total k) xss) ≤ spans k (flat_map (λ xs. xs) xss)
  spans_totals [] h = omega arith
  spans_totals (xs ∷ xss) h =
      let both : spans k (xs ++ flat_map (λ v. v) xss) ≡ spans k xs + spans k (flat_map (λ v. v) xss) = spans_append xs (flat_map (λ v. v) xss) in
      omega (arith, span_total xs (omega arith), spans_totals xss (omega arith))

  pub total_joined : (xss : List (List A)) → spans k (flat_map (λ xs. xs) xss) ≤ span_limit → total k (flat_map (λ xs. xs) xss) ≡ total k (map (total k) xss)
  total_joined [] h = refl
  total_joined (xs ∷ xss) h =
      let both : spans k (xs ++ flat_map (λ v. v) xss) ≡ spans k xs + spans k (flat_map (λ v. v) xss) = spans_append xs (flat_map (λ v. v) xss) in
      let one : k.span (total k xs) ≤ spans k xs = span_total xs (omega arith) in
      let rest : spans k (map (total k) xss) ≤ spans k (flat_map (λ v. v) xss) = spans_totals xss (omega arith) in
      total_append xs (flat_map (λ v. v) xss) (omega arith)
      ∙ ap (k.sum (total k xs)) (total_joined xss (omega arith))
      ∙ sym (total_cons (total k xs) (map (total k) xss) (omega arith))

  pub spans_perm : {xs ys : List A} → Permᴰ xs ys → spans k xs ≡ spans k ys
  spans_perm Permᴰ.nil = refl
  spans_perm (Permᴰ.cons e p) = omega (arith, ap k.span e, spans_perm p)
  spans_perm (Permᴰ.swap e f) = omega (arith, ap k.span e, ap k.span f)
  spans_perm (Permᴰ.trans p q) = spans_perm p ∙ spans_perm q

  pub total_perm : {xs ys : List A} → Permᴰ xs ys → spans k xs ≤ span_limit → total k xs ≡ total k ys
  total_perm Permᴰ.nil h = refl
  total_perm (Permᴰ.cons {a} {b} {l₁ = xs} {l₂ = ys} e p) h =
      let rest : total k xs ≡ total k ys = total_perm p (omega arith) in
      cc (total_cons a xs h, total_cons b ys (omega (arith, ap k.span e, spans_perm p)))
  total_perm (Permᴰ.swap {a} {b} {a'} {b'} {l = l} e f) h =
      let t : k.span (total k l) ≤ spans k l = span_total l (omega arith) in
      let ea : k.span a ≡ k.span b' = ap k.span e in
      let eb : k.span b ≡ k.span a' = ap k.span f in
      cc (total_cons a (b ∷ l) h, total_cons b l (omega arith), total_cons a' (b' ∷ l) (omega arith), total_cons b' l (omega arith), front_two a b (total k l) (omega arith))
  total_perm (Permᴰ.trans p q) h = total_perm p h ∙ total_perm q (omega (arith, spans_perm p))

  -- totals over indices, of whatever type
  module _ {I : Type 0} where
    pub spans_map_le : (f : I → A) (b : ℕ) (is : List I) → ((i : I) → k.span (f i) ≤ b) → spans k (map f is) ≤ length is * b
    spans_map_le f b [] h = omega arith
    spans_map_le f b (i ∷ is) h = omega (arith, h i, spans_map_le f b is h)

    pub spans_map_sum : (f g : I → A) (is : List I) → spans k (map f is) + spans k (map g is) ≤ span_limit → spans k (map (λ i. k.sum (f i) (g i)) is) ≤ spans k (map f is) + spans k (map g is)
    spans_map_sum f g [] h = omega arith
    spans_map_sum f g (i ∷ is) h = omega (arith, laws.span_sum (f i) (g i) (omega arith), spans_map_sum f g is (omega arith))

    pub total_map_sum : (f g : I → A) (is : List I) → spans k (map f is) + spans k (map g is) ≤ span_limit → total k (map (λ i. k.sum (f i) (g i)) is) ≡ k.sum (total k (map f is)) (total k (map g is))
    total_map_sum f g [] h = sym (laws.neutral k.zero)
    total_map_sum f g (i ∷ is) h =
        let a : k.span (total k (map f is)) ≤ spans k (map f is) = span_total (map f is) (omega arith) in
        let b : k.span (total k (map g is)) ≤ spans k (map g is) = span_total (map g is) (omega arith) in
        let c : k.span (k.sum (f i) (g i)) ≤ k.span (f i) + k.span (g i) = laws.span_sum (f i) (g i) (omega arith) in
        let d : spans k (map (λ i. k.sum (f i) (g i)) is) ≤ spans k (map f is) + spans k (map g is) = spans_map_sum f g is (omega arith) in
        let here = exchange (f i) (g i) (total k (map f is)) (total k (map g is)) (omega arith) in
        let rest = total_map_sum f g is (omega arith) in
        cc (total_cons (k.sum (f i) (g i)) (map (λ i. k.sum (f i) (g i)) is) (omega arith), total_cons (f i) (map f is) (omega arith), total_cons (g i) (map g is) (omega arith))

    pub total_map_at_most : (f g : I → A) (is : List I) → spans k (map f is) + spans k (map g is) ≤ span_limit → AllByRecursion (λ i. AtMost k (f i) (g i)) is → AtMost k (total k (map f is)) (total k (map g is))
    total_map_at_most f g [] h e = irreflexive k laws k.zero
    total_map_at_most f g (i ∷ is) h e =
        let a : k.span (total k (map f is)) ≤ spans k (map f is) = span_total (map f is) (omega arith) in
        let b : k.span (total k (map g is)) ≤ spans k (map g is) = span_total (map g is) (omega arith) in
        let more = sum_at_most k laws (f i) (g i) (total k (map f is)) (total k (map g is)) (omega arith) e.0 (total_map_at_most f g is (omega arith) e.1) in
        cc (total_cons (f i) (map f is) (omega arith), total_cons (g i) (map g is) (omega arith))

  pub exact_totals : ExactTotals k
  exact_totals = record {
    span_of_total = span_total;
    any_order = λ xs ys. total_perm;
    two_parts = total_append;
    any_bracketing = total_joined;
    total_of_sums = total_map_sum (λ p. p.0) (λ p. p.1);
    at_most = total_map_at_most (λ p. p.0) (λ p. p.1);
  }
