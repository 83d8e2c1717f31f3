-- What every reached view keeps: ids are in bounds, apart is symmetric, and the parts are divided among the live ids.
use Rattle.std.proofs.Common.{⊎_elim, ◌≡◌, ℕ, suc, ◌+◌, ◌<◌, ◌≤◌, Bool, true, false, not, ◌&&◌, ◌||◌, eqb, ◌⊎◌, List, [], ◌∷◌, length, filter, sym, refl, ap, ◌∙◌, subst, inl, inr, arith}
use Rattle.std.specs.List.{range_with_len}
use Rattle.std.proofs.lemmas.List.FromFn.{length-range_with_len}
use Rattle.std.proofs.lemmas.Bool.Decides.{nat_tests}
use Rattle.std.proofs.lemmas.Bool.{cases_eq, eq-eqb, eqb-true, and_parts, and_from, and_left, or_cases, both_ways, not-true, or_left, or_right, false_from_ne_true}
use Rattle.view.specs.Good.{Good}
use Rattle.view.specs.View.{View, width, ids, next, is_open}
use Rattle.view.specs.Steps.{is_other, others, joined, separated}
use Rattle.view.proofs.Split.{before, after, length_perm}

-- what an open pair is
pub record Open (v : View) (a b : ℕ) : Type 0 where
  pub live_a : v.live a ≡ true
  pub live_b : v.live b ≡ true
  pub distinct : a ≡ b → ⊥
  pub not_apart : v.apart a b ≡ false

pub open_is : (v : View) (a b : ℕ) → is_open v a b ≡ true → Open v a b
open_is v a b e =
    let h = and_parts (v.live a && v.live b) (not (eqb a b) && not (v.apart a b)) e in
    let l = and_parts (v.live a) (v.live b) h.0 in
    let r = and_parts (not (eqb a b)) (not (v.apart a b)) h.1 in
    record {
      live_a = l.0;
      live_b = l.1;
      distinct = λ s. both_ways (eqb a b) (not-true (eqb a b) r.0) (eq-eqb a b s);
      not_apart = not-true (v.apart a b) r.1;
    }

pub kept_le : (p : ℕ → Bool) (xs : List ℕ) → length (filter p xs) ≤ length xs
kept_le p [] = omega arith
kept_le p (x ∷ xs) = grind (arith, kept_le p xs)

-- the new id: not live before, and the last one then
pub record New (v : View) (a b : ℕ) : Type 0 where
  pub unused : v.live (next v) ≡ false
  pub no_other : is_other v a b (next v) ≡ false
  pub fits : next v < width v
  pub grows : next (joined v a b) ≡ next v + 1

pub new_id : (v : View) (a b : ℕ) → Good v → Open v a b → New v a b
new_id v a b g o =
    let unused : v.live (next v) ≡ false = false_from_ne_true (v.live (next v)) (λ l. let m : next v < next v = g.live_below (next v) l in let no : ⊥ = omega arith in no) in
    let other : is_other v a b (next v) ≡ false = and_left (v.live (next v)) _ unused in
    let all : length (ids v) ≤ width v = omega (arith, kept_le v.live (range_with_len 0 (width v)), length-range_with_len 0 (width v)) in
    let many : length (ids v) ≡ suc (suc (length (others v a b))) = length_perm (before v a b o.live_a o.live_b o.distinct (g.live_in a o.live_a) (g.live_in b o.live_b)) in
    let fits : next v < width v = omega (arith, g.some) in
    let less : length (ids (joined v a b)) ≡ suc (length (others v a b)) = length_perm (after v a b other fits) in
    record { unused = unused; no_other = other; fits = fits; grows = omega (arith, g.some) }

-- What holds of a joined view, case by case.
module _ (v : View) (a b : ℕ) where
  pub other_facts : (i : ℕ) → is_other v a b i ≡ true → (v.live i ≡ true) × (i ≡ a → ⊥) × (i ≡ b → ⊥)
  other_facts i e = grind (arith, nat_tests)

  pub other_from : (i : ℕ) → v.live i ≡ true → (i ≡ a → ⊥) → (i ≡ b → ⊥) → is_other v a b i ≡ true
  other_from i l p q = grind (arith, nat_tests)

  pub live_cases : (i : ℕ) → (joined v a b).live i ≡ true → (is_other v a b i ≡ true) ⊎ (i ≡ next v)
  live_cases i e = go (or_cases (is_other v a b i) (eqb i (next v)) e)
    where
      go : (is_other v a b i ≡ true) ⊎ (eqb i (next v) ≡ true) → (is_other v a b i ≡ true) ⊎ (i ≡ next v)
      go (inl p) = inl p
      go (inr q) = inr (eqb-true i (next v) q)

  pub live_other : (i : ℕ) → is_other v a b i ≡ true → (joined v a b).live i ≡ true
  live_other i e = ap (λ t. t || eqb i (next v)) e

  pub live_new : (joined v a b).live (next v) ≡ true
  live_new = or_right (is_other v a b (next v)) (eqb (next v) (next v)) (eq-eqb (next v) (next v) refl)

  pub holds_at_new : (p : ℕ) → (joined v a b).holds (next v) p ≡ (v.holds a p || v.holds b p)
  holds_at_new p = grind (arith, nat_tests)

  pub holds_elsewhere : (i p : ℕ) → (i ≡ next v → ⊥) → (joined v a b).holds i p ≡ (is_other v a b i && v.holds i p)
  holds_elsewhere i p d = grind (arith, nat_tests)

  pub apart_at_new : (j : ℕ) → (joined v a b).apart (next v) j ≡ (is_other v a b j && (v.apart a j || v.apart b j))
  apart_at_new j = grind (arith, nat_tests)

  pub apart_to_new : (i : ℕ) → (i ≡ next v → ⊥) → (joined v a b).apart i (next v) ≡ (is_other v a b i && (v.apart a i || v.apart b i))
  apart_to_new i d = grind (arith, nat_tests)

  pub apart_elsewhere : (i j : ℕ) → (i ≡ next v → ⊥) → (j ≡ next v → ⊥) → (joined v a b).apart i j ≡ ((is_other v a b i && is_other v a b j) && v.apart i j)
  apart_elsewhere i j d e = grind (arith, nat_tests)

-- no other id is the new one
pub not_new : (v : View) (a b : ℕ) → New v a b → (i : ℕ) → is_other v a b i ≡ true → i ≡ next v → ⊥
not_new v a b n i q e = both_ways (is_other v a b (next v)) n.no_other (ap (is_other v a b) (sym e) ∙ q)

pub good_joined : (v : View) (a b : ℕ) → Good v → Open v a b → New v a b → Good (joined v a b)
good_joined v a b g o n = record {
  some = g.some;
  few = g.few;
  live_in = λ i l. at_live (λ j. j < width v) i (λ q. g.live_in i (other_facts v a b i q).0) n.fits l;
  live_below = λ i l. at_live (λ j. j < next (joined v a b)) i (λ q. let h : i < next v = g.live_below i (other_facts v a b i q).0 in omega (arith, n.grows)) (omega (arith, n.grows)) l;
  apart_symmetric = both_apart;
  apart_live = apart_then_live;
  apart_other = not_itself;
  holds_live = held_then_live;
  holds_part = held_part;
  some_part = λ i l. part_of i (live_cases v a b i l);
  held = λ p h. holder p (g.held p h) (cases_eq (g.held p h).0 a) (cases_eq (g.held p h).0 b);
  held_once = once;
}
  where
    at_live : (P : ℕ → Type 0) (i : ℕ) → (is_other v a b i ≡ true → P i) → P (next v) → (joined v a b).live i ≡ true → P i
    at_live P i other new l = ⊎_elim other (λ e. subst P (sym e) new) (live_cases v a b i l)

    both_apart : (i j : ℕ) → (joined v a b).apart i j ≡ (joined v a b).apart j i
    both_apart i j = grind (arith, nat_tests, g.apart_symmetric i j)

    apart_then_live : (i j : ℕ) → (joined v a b).apart i j ≡ true → (joined v a b).live i ≡ true
    apart_then_live i j e = grind (arith, nat_tests)

    not_itself : (i : ℕ) → (joined v a b).apart i i ≡ false
    not_itself i = grind (arith, nat_tests, g.apart_other i)

    held_then_live : (i p : ℕ) → (joined v a b).holds i p ≡ true → (joined v a b).live i ≡ true
    held_then_live i p e = grind (arith, nat_tests)

    held_part : (i p : ℕ) → (joined v a b).holds i p ≡ true → p < v.parts
    held_part i p e = grind (arith, nat_tests, g.holds_part a p, g.holds_part b p, g.holds_part i p)

    kept_part : (i p : ℕ) → is_other v a b i ≡ true → v.holds i p ≡ true → (joined v a b).holds i p ≡ true
    kept_part i p q h = holds_elsewhere v a b i p (not_new v a b n i q) ∙ and_from (is_other v a b i) (v.holds i p) q h

    part_of : (i : ℕ) → (is_other v a b i ≡ true) ⊎ (i ≡ next v) → (p : ℕ) × ((joined v a b).holds i p ≡ true)
    part_of i (inl q) = let s = g.some_part i (other_facts v a b i q).0 in (s.0, kept_part i s.0 q s.1)
    part_of i (inr e) = let s = g.some_part a o.live_a in (s.0, ap (λ x. (joined v a b).holds x s.0) e ∙ holds_at_new v a b s.0 ∙ or_left (v.holds a s.0) (v.holds b s.0) s.1)

    holder : (p : ℕ) (h : (i : ℕ) × (v.holds i p ≡ true)) → (h.0 ≡ a) ⊎ (h.0 ≡ a → ⊥) → (h.0 ≡ b) ⊎ (h.0 ≡ b → ⊥) → (i : ℕ) × ((joined v a b).holds i p ≡ true)
    holder p h (inl e) y = (next v, holds_at_new v a b p ∙ or_left (v.holds a p) (v.holds b p) (ap (λ x. v.holds x p) (sym e) ∙ h.1))
    holder p h (inr d) (inl e) = (next v, holds_at_new v a b p ∙ or_right (v.holds a p) (v.holds b p) (ap (λ x. v.holds x p) (sym e) ∙ h.1))
    holder p h (inr d) (inr e) = (h.0, kept_part h.0 p (other_from v a b h.0 (g.holds_live h.0 p h.1) d e) h.1)

    once : (p i j : ℕ) → (joined v a b).holds i p ≡ true → (joined v a b).holds j p ≡ true → i ≡ j
    once p i j x y = grind (arith, nat_tests, g.held_once p i j, g.held_once p i a, g.held_once p i b, g.held_once p j a, g.held_once p j b)

pub good_separated : (v : View) (a b : ℕ) → Good v → Open v a b → Good (separated v a b)
good_separated v a b g o = record {
  some = g.some;
  few = g.few;
  live_in = g.live_in;
  live_below = g.live_below;
  apart_symmetric = both_apart;
  apart_other = not_itself;
  apart_live = apart_then_live;
  holds_live = g.holds_live;
  holds_part = g.holds_part;
  some_part = g.some_part;
  held = g.held;
  held_once = g.held_once;
}
  where
    both_apart : (i j : ℕ) → (separated v a b).apart i j ≡ (separated v a b).apart j i
    both_apart i j = grind (arith, nat_tests, g.apart_symmetric i j)

    not_itself : (i : ℕ) → (separated v a b).apart i i ≡ false
    not_itself i = let two = o.distinct in grind (arith, nat_tests, g.apart_other i)

    apart_then_live : (i j : ℕ) → (separated v a b).apart i j ≡ true → v.live i ≡ true
    apart_then_live i j e = let l = o.live_a in let m = o.live_b in grind (arith, nat_tests, g.apart_live i j)
