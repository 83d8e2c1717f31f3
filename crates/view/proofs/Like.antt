-- Lists that are alike up to order and zeros, and the values of all pairs of a list.
use Rattle.std.proofs.Common.{◌≡◌, ℕ, ◌+◌, ◌≤◌, List, [], ◌∷◌, ◌++◌, map, sym, refl, ap, ◌∙◌, subst, append_assoc, arith}
use mathlib.Core.List.{Permᴰ}
use Rattle.std.proofs.lemmas.List.{map-append}
use Rattle.std.specs.List.{AllByRecursion}
use Rattle.amount.specs.Kind.{Kind, Laws, span_limit}
use Rattle.amount.specs.Totals.{total, spans}
use Rattle.amount.proofs.Totals.{total_cons, span_total, front_two}

-- ys is xs in some order, less some that are z
pub data Like {X : Type 0} (z : X) : List X → List X → Type 0 where
  like_nil : Like z [] []
  like_cons : {x y : X} {xs ys : List X} → x ≡ y → Like z xs ys → Like z (x ∷ xs) (y ∷ ys)
  like_swap : {a b a' b' : X} {xs : List X} → a ≡ b' → b ≡ a' → Like z (a ∷ b ∷ xs) (a' ∷ b' ∷ xs)
  like_trans : {xs ys zs : List X} → Like z xs ys → Like z ys zs → Like z xs zs
  like_blank : {x : X} {xs ys : List X} → x ≡ z → Like z xs ys → Like z (x ∷ xs) ys

module _ {X : Type 0} {z : X} where
  pub like_refl : (xs : List X) → Like z xs xs
  like_refl [] = like_nil
  like_refl (x ∷ xs) = like_cons refl (like_refl xs)

  pub like_same : {xs ys : List X} → xs ≡ ys → Like z xs ys
  like_same {xs} e = subst (Like z xs) e (like_refl xs)

  like_append_left : (xs : List X) {ys zs : List X} → Like z ys zs → Like z (xs ++ ys) (xs ++ zs)
  like_append_left [] p = p
  like_append_left (x ∷ xs) p = like_cons refl (like_append_left xs p)

  like_append_right : {xs ys : List X} (zs : List X) → Like z xs ys → Like z (xs ++ zs) (ys ++ zs)
  like_append_right zs like_nil = like_refl zs
  like_append_right zs (like_cons e p) = like_cons e (like_append_right zs p)
  like_append_right zs (like_swap {xs = xs} e f) = like_swap e f
  like_append_right zs (like_trans p q) = like_trans (like_append_right zs p) (like_append_right zs q)
  like_append_right zs (like_blank e p) = like_blank e (like_append_right zs p)

  pub like_append : {xs ys us vs : List X} → Like z xs ys → Like z us vs → Like z (xs ++ us) (ys ++ vs)
  like_append {ys = ys} {us = us} p q = like_trans (like_append_right us p) (like_append_left ys q)

  -- one item moves past a list
  like_past : (x : X) (xs ys : List X) → Like z (x ∷ (xs ++ ys)) (xs ++ (x ∷ ys))
  like_past x [] ys = like_refl (x ∷ ys)
  like_past x (y ∷ xs) ys = like_trans (like_swap refl refl) (like_cons refl (like_past x xs ys))

  like_back : (x : X) (xs ys : List X) → Like z (xs ++ (x ∷ ys)) (x ∷ (xs ++ ys))
  like_back x [] ys = like_refl (x ∷ ys)
  like_back x (y ∷ xs) ys = like_trans (like_cons refl (like_back x xs ys)) (like_swap refl refl)

  -- two blocks change places before a third
  pub like_blocks : (xs ys zs : List X) → Like z (xs ++ (ys ++ zs)) (ys ++ (xs ++ zs))
  like_blocks [] ys zs = like_refl (ys ++ zs)
  like_blocks (x ∷ xs) ys zs = like_trans (like_cons refl (like_blocks xs ys zs)) (like_past x ys (xs ++ zs))

  pub like_perm : {Y : Type 0} (f : Y → X) {xs ys : List Y} → Permᴰ xs ys → Like z (map f xs) (map f ys)
  like_perm f Permᴰ.nil = like_nil
  like_perm f (Permᴰ.cons e p) = like_cons (ap f e) (like_perm f p)
  like_perm f (Permᴰ.swap {l = l} d e) = like_swap (ap f d) (ap f e)
  like_perm f (Permᴰ.trans p q) = like_trans (like_perm f p) (like_perm f q)

  pub all_blank : (xs : List X) → AllByRecursion (λ x. x ≡ z) xs → Like z xs []
  all_blank [] h = like_nil
  all_blank (x ∷ xs) h = like_blank h.0 (all_blank xs h.1)

-- the values of all pairs of a list, the earlier item first
abbrev pub vals : {X : Type 0} → (ℕ → ℕ → X) → List ℕ → List X
vals f [] = []
vals f (x ∷ xs) = map (f x) xs ++ vals f xs

module _ {X : Type 0} {z : X} (f : ℕ → ℕ → X) where
  -- in another order of the items
  pub vals_perm : ((x y : ℕ) → f x y ≡ f y x) → {xs ys : List ℕ} → Permᴰ xs ys → Like z (vals f xs) (vals f ys)
  vals_perm s Permᴰ.nil = like_nil
  vals_perm s (Permᴰ.cons {a} {b} {l₁ = xs} {l₂ = ys} e p) = like_append (like_trans (like_same (ap (λ v. map (f v) xs) e)) (like_perm (f b) p)) (vals_perm s p)
  vals_perm s (Permᴰ.swap {a} {b} {a'} {b'} {l = l} d e) =
      like_trans (like_cons (s a b) (like_blocks (map (f a) l) (map (f b) l) (vals f l))) (like_same (ap (λ v. vals f (v ∷ a ∷ l)) e ∙ ap (λ v. vals f (a' ∷ v ∷ l)) d))
  vals_perm s (Permᴰ.trans p q) = like_trans (vals_perm s p) (vals_perm s q)

  -- one item more at the end
  pub vals_push : (xs : List ℕ) (y : ℕ) → Like z (vals f xs ++ map (λ x. f x y) xs) (vals f (xs ++ (y ∷ [])))
  vals_push [] y = like_nil
  vals_push (x ∷ xs) y =
      like_trans
      (like_same (append_assoc (map (f x) xs) (vals f xs) (f x y ∷ map (λ v. f v y) xs)))
      (like_trans (like_append_left (map (f x) xs) (like_trans (like_back (f x y) (vals f xs) (map (λ v. f v y) xs)) (like_cons refl (vals_push xs y))))
      (like_same (sym (append_assoc (map (f x) xs) (f x y ∷ []) (vals f (xs ++ (y ∷ [])))) ∙ ap (λ l. l ++ vals f (xs ++ (y ∷ []))) (sym (map-append (f x) xs (y ∷ []))))))

-- two functions that agree on the pairs of a list
pub vals_same : {X : Type 0} (f g : ℕ → ℕ → X) (P : ℕ → Type 0) → ((x y : ℕ) → P x → P y → f x y ≡ g x y) → (xs : List ℕ) → AllByRecursion P xs → vals f xs ≡ vals g xs
vals_same f g P e [] h = refl
vals_same f g P e (x ∷ xs) h = cc (row xs h.1, vals_same f g P e xs h.1)
  where
    row : (ys : List ℕ) → AllByRecursion P ys → map (f x) ys ≡ map (g x) ys
    row [] k = refl
    row (y ∷ ys) k = cc (e x y h.0 k.0, row ys k.1)

-- what likeness keeps
module _ {A : Type 0} (k : Kind A) (laws : Laws k) where
  pub spans_like : {xs ys : List A} → Like k.zero xs ys → spans k xs ≡ spans k ys
  spans_like like_nil = refl
  spans_like (like_cons e p) = omega (arith, ap k.span e, spans_like p)
  spans_like (like_swap e f) = omega (arith, ap k.span e, ap k.span f)
  spans_like (like_trans p q) = spans_like p ∙ spans_like q
  spans_like (like_blank e p) = omega (arith, ap k.span e, laws.span_zero, spans_like p)

  pub total_like : {xs ys : List A} → Like k.zero xs ys → spans k xs ≤ span_limit → total k xs ≡ total k ys
  total_like like_nil h = refl
  total_like (like_cons {x} {y} {xs} {ys} e p) h =
      let rest : total k xs ≡ total k ys = total_like p (omega arith) in
      cc (total_cons k laws x xs h, total_cons k laws y ys (omega (arith, ap k.span e, spans_like p)))
  total_like (like_swap {a} {b} {a'} {b'} {xs = l} e f) h =
      let t : k.span (total k l) ≤ spans k l = span_total k laws l (omega arith) in
      let ea : k.span a ≡ k.span b' = ap k.span e in
      let eb : k.span b ≡ k.span a' = ap k.span f in
      cc (total_cons k laws a (b ∷ l) h, total_cons k laws b l (omega arith), total_cons k laws a' (b' ∷ l) (omega arith), total_cons k laws b' l (omega arith), front_two k laws a b (total k l) (omega arith))
  total_like (like_trans p q) h = total_like p h ∙ total_like q (omega (arith, spans_like p))
  total_like (like_blank {x} {xs} {ys} e p) h =
      let rest : total k xs ≡ total k ys = total_like p (omega arith) in
      cc (total_cons k laws x xs h, laws.neutral (total k xs))

abbrev pub summed : List ℕ → ℕ
summed [] = 0
summed (x ∷ xs) = x + summed xs

pub summed_like : {xs ys : List ℕ} → Like 0 xs ys → summed xs ≡ summed ys
summed_like like_nil = refl
summed_like (like_cons e p) = omega (arith, e, summed_like p)
summed_like (like_swap e f) = omega (arith, e, f)
summed_like (like_trans p q) = summed_like p ∙ summed_like q
summed_like (like_blank e p) = omega (arith, e, summed_like p)
