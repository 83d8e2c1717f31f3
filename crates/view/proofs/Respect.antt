-- Groupings that respect a board before and after a step.
use Rattle.std.proofs.Common.{◌≡◌, ℕ, ◌<◌, Bool, true, false, not, ◌&&◌, ◌||◌, eqb, ◌⊎◌, List, Decides, sym, ap, ◌∙◌, ap₂, inl, inr}
use Rattle.std.proofs.lemmas.Bool.Decides.{Decides-and, Decides-or, Decides-not, Decides-eqb, Decides-like}
use Rattle.std.proofs.lemmas.Bool.{cases_Bool, cases_order, cases_eq, eqb-true, and_parts, or_cases, both_ways, and_from, or_left, or_right}
use Rattle.job.specs.Grouping.{label}
use Rattle.job.specs.Tests.{every, every_pair}
use Rattle.job.proofs.Every.{every_tells, every_pair_tells}
use Rattle.job.proofs.Told.{not_both_tells}
use Rattle.view.specs.View.{View, width, next}
use Rattle.view.specs.Steps.{is_other, joined, separated}
use Rattle.view.specs.Remaining.{RespectsBoard, first_part, share, is_whole, is_clash, is_respected}
use Rattle.view.specs.Good.{Good}
use Rattle.view.proofs.Good.{Open, New, other_from, holds_at_new, holds_elsewhere, apart_at_new, apart_to_new, apart_elsewhere, not_new}
use Rattle.view.proofs.Joining.{apart_new, apart_same, first_held}

pub unseparated : (v : View) (a b : ℕ) (labels : List ℕ) → RespectsBoard (separated v a b) labels → RespectsBoard v labels
unseparated v a b labels r = record { within_id = r.within_id; across_apart = λ i j p q e. r.across_apart i j p q (or_left (v.apart i j) _ e) }

-- where an id stands: one of the two, or another
data Place (v : View) (a b i : ℕ) : Type 0 where
  at_a : i ≡ a → Place v a b i
  at_b : i ≡ b → Place v a b i
  elsewhere : is_other v a b i ≡ true → Place v a b i

place : (v : View) (a b i : ℕ) → v.live i ≡ true → Place v a b i
place v a b i l = go (cases_eq i a) (cases_eq i b)
  where
    go : (i ≡ a) ⊎ (i ≡ a → ⊥) → (i ≡ b) ⊎ (i ≡ b → ⊥) → Place v a b i
    go (inl e) y = at_a e
    go (inr d) (inl e) = at_b e
    go (inr d) (inr e) = elsewhere (other_from v a b i l d e)

module _ (v : View) (a b : ℕ) (g : Good v) (o : Open v a b) (n : New v a b) (labels : List ℕ) where
  from_a : (i p : ℕ) → i ≡ a → v.holds i p ≡ true → (joined v a b).holds (next v) p ≡ true
  from_a i p e h = holds_at_new v a b p ∙ or_left (v.holds a p) (v.holds b p) (ap (λ x. v.holds x p) (sym e) ∙ h)

  from_b : (i p : ℕ) → i ≡ b → v.holds i p ≡ true → (joined v a b).holds (next v) p ≡ true
  from_b i p e h = holds_at_new v a b p ∙ or_right (v.holds a p) (v.holds b p) (ap (λ x. v.holds x p) (sym e) ∙ h)

  from_other : (i p : ℕ) → is_other v a b i ≡ true → v.holds i p ≡ true → (joined v a b).holds i p ≡ true
  from_other i p q h = holds_elsewhere v a b i p (not_new v a b n i q) ∙ and_from (is_other v a b i) (v.holds i p) q h

  pub unjoined : RespectsBoard (joined v a b) labels → RespectsBoard v labels
  unjoined r = record {
    within_id = λ i p q x y. same i p q x y (place v a b i (g.holds_live i p x));
    across_apart = λ i j p q e x y. differ i j p q e x y (place v a b i (g.holds_live i p x)) (place v a b j (g.holds_live j q y));
  }
    where
      same : (i p q : ℕ) → v.holds i p ≡ true → v.holds i q ≡ true → Place v a b i → label labels p ≡ label labels q
      same i p q x y (at_a e) = r.within_id (next v) p q (from_a i p e x) (from_a i q e y)
      same i p q x y (at_b e) = r.within_id (next v) p q (from_b i p e x) (from_b i q e y)
      same i p q x y (elsewhere w) = r.within_id i p q (from_other i p w x) (from_other i q w y)

      itself : (i j m : ℕ) → i ≡ m → j ≡ m → v.apart i j ≡ true → ⊥
      itself i j m d e h = both_ways (v.apart m m) (g.apart_other m) (ap₂ v.apart (sym d) (sym e) ∙ h)

      differ : (i j p q : ℕ) → v.apart i j ≡ true → v.holds i p ≡ true → v.holds j q ≡ true → Place v a b i → Place v a b j → label labels p ≡ label labels q → ⊥
      differ i j p q h x y (at_a d) (at_a e) s = itself i j a d e h
      differ i j p q h x y (at_a d) (at_b e) s = both_ways (v.apart a b) o.not_apart (ap₂ v.apart (sym d) (sym e) ∙ h)
      differ i j p q h x y (at_b d) (at_a e) s = both_ways (v.apart a b) o.not_apart (g.apart_symmetric a b ∙ ap₂ v.apart (sym d) (sym e) ∙ h)
      differ i j p q h x y (at_b d) (at_b e) s = itself i j b d e h
      differ i j p q h x y (at_a d) (elsewhere w) s = r.across_apart (next v) j p q (apart_new v a b g o n j w ∙ or_left (v.apart a j) (v.apart b j) (ap (λ m. v.apart m j) (sym d) ∙ h)) (from_a i p d x) (from_other j q w y) s
      differ i j p q h x y (at_b d) (elsewhere w) s = r.across_apart (next v) j p q (apart_new v a b g o n j w ∙ or_right (v.apart a j) (v.apart b j) (ap (λ m. v.apart m j) (sym d) ∙ h)) (from_b i p d x) (from_other j q w y) s
      differ i j p q h x y (elsewhere w) (at_a e) s = r.across_apart (next v) i q p (apart_new v a b g o n i w ∙ or_left (v.apart a i) (v.apart b i) (g.apart_symmetric a i ∙ ap (v.apart i) (sym e) ∙ h)) (from_a j q e y) (from_other i p w x) (sym s)
      differ i j p q h x y (elsewhere w) (at_b e) s = r.across_apart (next v) i q p (apart_new v a b g o n i w ∙ or_right (v.apart a i) (v.apart b i) (g.apart_symmetric b i ∙ ap (v.apart i) (sym e) ∙ h)) (from_b j q e y) (from_other i p w x) (sym s)
      differ i j p q h x y (elsewhere w) (elsewhere u) s = r.across_apart i j p q (apart_same v a b g o n i j w u ∙ h) (from_other i p w x) (from_other j q u y) s

  -- in the joined board: a part of the new id is a part of a or of b
  module _ (r : RespectsBoard v labels) where
    abbrev la : ℕ
    la = label labels (first_part v a)

    joins : label labels (first_part v a) ≡ label labels (first_part v b) → RespectsBoard (joined v a b) labels
    joins e = record {
      within_id = λ i p q x y. same i p q x y (cases_eq i (next v));
      across_apart = λ i j p q h x y. differ i j p q h x y (cases_eq i (next v)) (cases_eq j (next v));
    }
      where
        of_a : (p : ℕ) → v.holds a p ≡ true → label labels p ≡ label labels (first_part v a)
        of_a p h = r.within_id a p (first_part v a) h (first_held v g a o.live_a)

        of_b : (p : ℕ) → v.holds b p ≡ true → label labels p ≡ label labels (first_part v a)
        of_b p h = r.within_id b p (first_part v b) h (first_held v g b o.live_b) ∙ sym e

        of_new : (i p : ℕ) → i ≡ next v → (joined v a b).holds i p ≡ true → label labels p ≡ label labels (first_part v a)
        of_new i p d h = pick (or_cases (v.holds a p) (v.holds b p) (sym (holds_at_new v a b p) ∙ ap (λ m. (joined v a b).holds m p) (sym d) ∙ h))
          where
            pick : (v.holds a p ≡ true) ⊎ (v.holds b p ≡ true) → label labels p ≡ label labels (first_part v a)
            pick (inl x) = of_a p x
            pick (inr x) = of_b p x

        of_old : (i p : ℕ) → (i ≡ next v → ⊥) → (joined v a b).holds i p ≡ true → v.holds i p ≡ true
        of_old i p d h = (and_parts (is_other v a b i) (v.holds i p) (sym (holds_elsewhere v a b i p d) ∙ h)).1

        same : (i p q : ℕ) → (joined v a b).holds i p ≡ true → (joined v a b).holds i q ≡ true → (i ≡ next v) ⊎ (i ≡ next v → ⊥) → label labels p ≡ label labels q
        same i p q x y (inl d) = of_new i p d x ∙ sym (of_new i q d y)
        same i p q x y (inr d) = r.within_id i p q (of_old i p d x) (of_old i q d y)

        -- nothing apart from the new id has its label
        no_label : (j q : ℕ) → (v.apart a j ≡ true) ⊎ (v.apart b j ≡ true) → v.holds j q ≡ true → label labels (first_part v a) ≡ label labels q → ⊥
        no_label j q (inl h) y s = r.across_apart a j (first_part v a) q h (first_held v g a o.live_a) y s
        no_label j q (inr h) y s = r.across_apart b j (first_part v b) q h (first_held v g b o.live_b) y (sym e ∙ s)

        differ : (i j p q : ℕ) → (joined v a b).apart i j ≡ true → (joined v a b).holds i p ≡ true → (joined v a b).holds j q ≡ true → (i ≡ next v) ⊎ (i ≡ next v → ⊥) → (j ≡ next v) ⊎ (j ≡ next v → ⊥) → label labels p ≡ label labels q → ⊥
        differ i j p q h x y (inl d) (inl f) s = both_ways (is_other v a b (next v)) n.no_other (and_parts (is_other v a b (next v)) _ (sym (apart_at_new v a b (next v)) ∙ ap₂ (joined v a b).apart (sym d) (sym f) ∙ h)).0
        differ i j p q h x y (inl d) (inr f) s =
            let m = and_parts (is_other v a b j) (v.apart a j || v.apart b j) (sym (apart_at_new v a b j) ∙ ap (λ z. (joined v a b).apart z j) (sym d) ∙ h) in
            no_label j q (or_cases (v.apart a j) (v.apart b j) m.1) (of_old j q f y) (sym (of_new i p d x) ∙ s)
        differ i j p q h x y (inr d) (inl f) s =
            let m = and_parts (is_other v a b i) (v.apart a i || v.apart b i) (sym (apart_to_new v a b i d) ∙ ap ((joined v a b).apart i) (sym f) ∙ h) in
            no_label i p (or_cases (v.apart a i) (v.apart b i) m.1) (of_old i p d x) (sym (of_new j q f y) ∙ sym s)
        differ i j p q h x y (inr d) (inr f) s = r.across_apart i j p q (and_parts (is_other v a b i && is_other v a b j) (v.apart i j) (sym (apart_elsewhere v a b i j d f) ∙ h)).1 (of_old i p d x) (of_old j q f y) s

    parts_apart : (label labels (first_part v a) ≡ label labels (first_part v b) → ⊥) → RespectsBoard (separated v a b) labels
    parts_apart d = record {
      within_id = r.within_id;
      across_apart = λ i j p q h x y s. pick i j p q x y s (or_cases (v.apart i j) ((eqb i a && eqb j b) || (eqb i b && eqb j a)) h);
    }
      where
        both : (p q : ℕ) → v.holds a p ≡ true → v.holds b q ≡ true → label labels p ≡ label labels q → ⊥
        both p q x y s = d (r.within_id a (first_part v a) p (first_held v g a o.live_a) x ∙ s ∙ r.within_id b q (first_part v b) y (first_held v g b o.live_b))

        pair : (i j p q : ℕ) → v.holds i p ≡ true → v.holds j q ≡ true → label labels p ≡ label labels q → ((eqb i a && eqb j b) ≡ true) ⊎ ((eqb i b && eqb j a) ≡ true) → ⊥
        pair i j p q x y s (inl e) = let m = and_parts (eqb i a) (eqb j b) e in both p q (ap (λ z. v.holds z p) (sym (eqb-true i a m.0)) ∙ x) (ap (λ z. v.holds z q) (sym (eqb-true j b m.1)) ∙ y) s
        pair i j p q x y s (inr e) = let m = and_parts (eqb i b) (eqb j a) e in both q p (ap (λ z. v.holds z q) (sym (eqb-true j a m.1)) ∙ y) (ap (λ z. v.holds z p) (sym (eqb-true i b m.0)) ∙ x) (sym s)

        pick : (i j p q : ℕ) → v.holds i p ≡ true → v.holds j q ≡ true → label labels p ≡ label labels q → (v.apart i j ≡ true) ⊎ (((eqb i a && eqb j b) || (eqb i b && eqb j a)) ≡ true) → ⊥
        pick i j p q x y s (inl h) = r.across_apart i j p q h x y s
        pick i j p q x y s (inr h) = pair i j p q x y s (or_cases (eqb i a && eqb j b) (eqb i b && eqb j a) h)

    pub either_step : RespectsBoard (joined v a b) labels ⊎ RespectsBoard (separated v a b) labels
    either_step = go (cases_eq (label labels (first_part v a)) (label labels (first_part v b)))
      where
        go : (label labels (first_part v a) ≡ label labels (first_part v b)) ⊎ (label labels (first_part v a) ≡ label labels (first_part v b) → ⊥) → RespectsBoard (joined v a b) labels ⊎ RespectsBoard (separated v a b) labels
        go (inl e) = inl (joins e)
        go (inr d) = inr (parts_apart d)

-- The test that a grouping respects a well-formed board tells just that.
module _ (v : View) (labels : List ℕ) (g : Good v) where
  abbrev Whole : ℕ → Type 0
  Whole i = (p : ℕ) → p < v.parts → (v.holds i p ≡ true → ⊥) ⊎ (label labels p ≡ label labels (first_part v i))

  abbrev Apart : Type 0
  Apart = (j : ℕ) → j < width v → (i : ℕ) → i < j → v.apart i j ≡ true → label labels (first_part v i) ≡ label labels (first_part v j) → ⊥

  test : (b : Bool) → Decides b (b ≡ true)
  test b = ((λ e. e), (λ e. e))

  whole_tells : (i : ℕ) → Decides (is_whole v labels i) (Whole i)
  whole_tells i = every_tells _ _ (λ p. Decides-or (not (v.holds i p)) (eqb (label labels p) (label labels (first_part v i))) (Decides-not (v.holds i p) (test (v.holds i p))) (Decides-eqb _ _)) v.parts

  apart_tells : Decides (every_pair (width v) (λ i j. not (is_clash v labels i j))) Apart
  apart_tells = every_pair_tells _ _ (λ i j. not_both_tells (v.apart i j) (share v labels i j) (test (v.apart i j)) (Decides-eqb _ _)) (width v)

  pub respected_tells : Decides (is_respected v labels) (RespectsBoard v labels)
  respected_tells = Decides-like (is_respected v labels) to from (Decides-and (every (width v) (is_whole v labels)) (every_pair (width v) (λ i j. not (is_clash v labels i j))) (every_tells _ _ whole_tells (width v)) apart_tells)
    where
      -- a part has the label of its id's smallest part
      of_id : ((i : ℕ) → i < width v → Whole i) → (i p : ℕ) → v.holds i p ≡ true → label labels p ≡ label labels (first_part v i)
      of_id w i p h = pick (w i (g.live_in i (g.holds_live i p h)) p (g.holds_part i p h))
        where
          pick : (v.holds i p ≡ true → ⊥) ⊎ (label labels p ≡ label labels (first_part v i)) → label labels p ≡ label labels (first_part v i)
          pick (inl n) = absurd (n h)
          pick (inr e) = e

      differ : Apart → (i j : ℕ) → v.apart i j ≡ true → label labels (first_part v i) ≡ label labels (first_part v j) → (i ≡ j) ⊎ ((i < j) ⊎ (j < i)) → ⊥
      differ a i j h s (inl e) = both_ways (v.apart i i) (g.apart_other i) (ap (v.apart i) e ∙ h)
      differ a i j h s (inr (inl l)) = a j (g.live_in j (g.apart_live j i (g.apart_symmetric j i ∙ h))) i l h s
      differ a i j h s (inr (inr l)) = a i (g.live_in i (g.apart_live i j h)) j l (g.apart_symmetric j i ∙ h) (sym s)

      to : ((i : ℕ) → i < width v → Whole i) × Apart → RespectsBoard v labels
      to t = record {
        within_id = λ i p q x y. of_id t.0 i p x ∙ sym (of_id t.0 i q y);
        across_apart = λ i j p q h x y s. differ t.1 i j h (sym (of_id t.0 i p x) ∙ s ∙ of_id t.0 j q y) (cases_order i j);
      }

      from : RespectsBoard v labels → ((i : ℕ) → i < width v → Whole i) × Apart
      from r = ((λ i l p m. held i p (cases_Bool (v.holds i p))), (λ j l i m h s. r.across_apart i j (first_part v i) (first_part v j) h (first_held v g i (g.apart_live i j h)) (first_held v g j (g.apart_live j i (g.apart_symmetric j i ∙ h))) s))
        where
          held : (i p : ℕ) → (v.holds i p ≡ true) ⊎ (v.holds i p ≡ false) → (v.holds i p ≡ true → ⊥) ⊎ (label labels p ≡ label labels (first_part v i))
          held i p (inl h) = inr (r.within_id i p (first_part v i) h (first_held v g i (g.holds_live i p h)))
          held i p (inr n) = inl (λ h. both_ways (v.holds i p) n h)
