-- A join, id by id: what the new id reads, whom it shares a group with, and what is booked for each other one.
use Rattle.std.proofs.Common.{◌≡◌, ℕ, zero, suc, ◌+◌, ◌*◌, ◌<◌, ◌≤◌, Bool, true, false, cond, not, ◌&&◌, ◌||◌, eqb, ◌⊎◌, List, Some, None, find, Option, unwrap_or, sym, refl, ap, ◌∙◌, ap₂, inl, inr, arith}
use Rattle.std.specs.List.{range_with_len}
use Rattle.std.proofs.lemmas.Bool.Decides.{nat_tests}
use Rattle.std.proofs.lemmas.Bool.{cond-true, cond-false, eq-eqb, ne_eqb, and_left, and_from, or_right}
use Rattle.amount.specs.Kind.{Kind, Laws, span_limit}
use Rattle.amount.specs.Signs.{positive_part, negative_part, overlap}
use Rattle.amount.proofs.Totals.{neutral_right}
use Rattle.amount.proofs.Signs.{span_positive_part, span_negative_part, span_overlap, positives_merge, negatives_merge}
use Rattle.job.specs.Grouping.{label}
use Rattle.view.specs.View.{View, width, next, is_open, Roomy, amount_in}
use Rattle.view.specs.Steps.{is_other, joined, joined_cells, join_other}
use Rattle.view.specs.Remaining.{RespectsBoard, first_part, share}
use Rattle.view.proofs.Cells.{amount_rewritten}
use Rattle.view.specs.Good.{Good}
use Rattle.view.proofs.Good.{Open, New, good_joined, other_facts, live_cases, live_other, live_new, holds_at_new, holds_elsewhere, apart_at_new, not_new}
use Rattle.view.proofs.Due.{due, open_due}

-- the first that passes a test, and 0 if none does
abbrev first : (ℕ → Bool) → List ℕ → ℕ
first q xs = unwrap_or (find q xs) 0

-- the first that passes a test passes it
first_holds : (q : ℕ → Bool) (s m p : ℕ) → s ≤ p → p < s + m → q p ≡ true → q (first q (range_with_len s m)) ≡ true
first_holds q s zero p l h e = let no : ⊥ = omega arith in absurd no
first_holds q s (suc m) p l h e = grind (arith, nat_tests, first_holds q (s + 1) m p)

-- the first that passes a test is the one before which none does
pub first_is : (q : ℕ → Bool) (s m p : ℕ) → s ≤ p → p < s + m → ((i : ℕ) → i < p → q i ≡ false) → q p ≡ true → first q (range_with_len s m) ≡ p
first_is q s zero p l h none e = let no : ⊥ = omega arith in absurd no
first_is q s (suc m) p l h none e = let here = none s in let later = first_is q (s + 1) m p in grind (arith, nat_tests)

-- it is one of the numbers, or 0
pub first_below : (q : ℕ → Bool) (s m : ℕ) → 0 < s + m → first q (range_with_len s m) < s + m
first_below q s zero h = h
first_below q s (suc m) h = grind (arith, nat_tests, first_below q (s + 1) m)

pub first_held : (v : View) → Good v → (i : ℕ) → v.live i ≡ true → v.holds i (first_part v i) ≡ true
first_held v g i l = let s = g.some_part i l in first_holds (v.holds i) 0 v.parts s.0 (omega arith) (omega (arith, g.holds_part i s.0 s.1)) s.1

pub open_at : (v : View) (i j : ℕ) → v.live i ≡ true → v.live j ≡ true → (i ≡ j → ⊥) → is_open v i j ≡ not (v.apart i j)
open_at v i j p q d = grind (arith, nat_tests)

module _ (v : View) (a b : ℕ) (g : Good v) (o : Open v a b) (n : New v a b) where
  pub first_same : (w : ℕ) → is_other v a b w ≡ true → first_part (joined v a b) w ≡ first_part v w
  first_same w q = ap (λ h. first h (range_with_len 0 v.parts)) (λ z p. (holds_elsewhere v a b w p (not_new v a b n w q) ∙ ap (λ t. t && v.holds w p) q) z)

  pub apart_same : (x y : ℕ) → is_other v a b x ≡ true → is_other v a b y ≡ true → (joined v a b).apart x y ≡ v.apart x y
  apart_same x y p q = let out = not_new v a b n x p in let off = not_new v a b n y q in grind (arith, nat_tests)

  pub open_same : (x y : ℕ) → is_other v a b x ≡ true → is_other v a b y ≡ true → is_open (joined v a b) x y ≡ is_open v x y
  open_same x y p q = let same = apart_same x y p q in let one = other_facts v a b x p in let two = other_facts v a b y q in grind (arith, nat_tests)

  pub share_same : (labels : List ℕ) (x y : ℕ) → is_other v a b x ≡ true → is_other v a b y ≡ true → share (joined v a b) labels x y ≡ share v labels x y
  share_same labels x y p q = ap₂ (λ s t. eqb (label labels s) (label labels t)) (first_same x p) (first_same y q)

  pub apart_new : (w : ℕ) → is_other v a b w ≡ true → (joined v a b).apart (next v) w ≡ (v.apart a w || v.apart b w)
  apart_new w q = apart_at_new v a b w ∙ ap (λ t. t && (v.apart a w || v.apart b w)) q

  pub open_new : (w : ℕ) → is_other v a b w ≡ true → is_open (joined v a b) (next v) w ≡ not (v.apart a w || v.apart b w)
  open_new w q = open_at (joined v a b) (next v) w (live_new v a b) (live_other v a b w q) (λ e. not_new v a b n w q (sym e)) ∙ ap not (apart_new w q)

  module _ (labels : List ℕ) (r : RespectsBoard (joined v a b) labels) where
    in_new : (i p : ℕ) → (i ≡ a) ⊎ (i ≡ b) → v.holds i p ≡ true → (joined v a b).holds (next v) p ≡ true
    in_new i p (inl e) h = holds_at_new v a b p ∙ ap (λ t. t || v.holds b p) (ap (λ x. v.holds x p) (sym e) ∙ h)
    in_new i p (inr e) h = holds_at_new v a b p ∙ or_right (v.holds a p) (v.holds b p) (ap (λ x. v.holds x p) (sym e) ∙ h)

    label_new : (i : ℕ) → (i ≡ a) ⊎ (i ≡ b) → v.live i ≡ true → label labels (first_part v i) ≡ label labels (first_part (joined v a b) (next v))
    label_new i w l = r.within_id (next v) (first_part v i) (first_part (joined v a b) (next v)) (in_new i (first_part v i) w (first_held v g i l)) (first_held (joined v a b) (good_joined v a b g o n) (next v) (live_new v a b))

    pub share_a : (w : ℕ) → is_other v a b w ≡ true → share v labels a w ≡ share (joined v a b) labels (next v) w
    share_a w q = ap₂ eqb (label_new a (inl refl) o.live_a) (ap (label labels) (sym (first_same w q)))

    pub share_b : (w : ℕ) → is_other v a b w ≡ true → share v labels b w ≡ share (joined v a b) labels (next v) w
    share_b w q = ap₂ eqb (label_new b (inr refl) o.live_b) (ap (label labels) (sym (first_same w q)))

    pub share_ab : share v labels a b ≡ true
    share_ab = eq-eqb (label labels (first_part v a)) (label labels (first_part v b)) (label_new a (inl refl) o.live_a ∙ sym (label_new b (inr refl) o.live_b))

    pub not_shared : (w : ℕ) → is_other v a b w ≡ true → (v.apart a w || v.apart b w) ≡ true → share (joined v a b) labels (next v) w ≡ false
    not_shared w q e = ne_eqb _ _ (r.across_apart (next v) w (first_part (joined v a b) (next v)) (first_part (joined v a b) w) (apart_new w q ∙ e) (first_held (joined v a b) (good_joined v a b g o n) (next v) (live_new v a b)) (first_held (joined v a b) (good_joined v a b g o n) w (live_other v a b w q)))

  module _ {A : Type 0} (k : Kind A) (laws : Laws k) (cells : List A) (room : Roomy v cells) where
    abbrev new_cell : ℕ → ℕ → Option A
    new_cell i j =
        cond (eqb i (next v) && is_other v a b j) (Some (k.sum (amount_in k v cells a j) (amount_in k v cells b j)))
        (cond (eqb j (next v) && is_other v a b i) (Some (k.sum (amount_in k v cells a i) (amount_in k v cells b i)))
        None)

    in_width : (i : ℕ) → is_other v a b i ≡ true → i < width v
    in_width i q = g.live_in i (other_facts v a b i q).0

    pub amount_same : (x y : ℕ) → is_other v a b x ≡ true → is_other v a b y ≡ true → amount_in k (joined v a b) (joined_cells k v cells a b) x y ≡ amount_in k v cells x y
    amount_same x y p q =
        amount_rewritten k v cells new_cell room x y (in_width x p) (in_width y q)
        ∙ ap (λ t. unwrap_or t (amount_in k v cells x y)) (cond-false (eqb x (next v) && is_other v a b y) _ _ (and_left (eqb x (next v)) (is_other v a b y) (ne_eqb x (next v) (not_new v a b n x p))) ∙ cond-false (eqb y (next v) && is_other v a b x) _ _ (and_left (eqb y (next v)) (is_other v a b x) (ne_eqb y (next v) (not_new v a b n y q))))

    pub amount_new : (w : ℕ) → is_other v a b w ≡ true → amount_in k (joined v a b) (joined_cells k v cells a b) (next v) w ≡ k.sum (amount_in k v cells a w) (amount_in k v cells b w)
    amount_new w q =
        amount_rewritten k v cells new_cell room (next v) w n.fits (in_width w q)
        ∙ ap (λ t. unwrap_or t (amount_in k v cells (next v) w)) (cond-true (eqb (next v) (next v) && is_other v a b w) _ _ (and_from (eqb (next v) (next v)) (is_other v a b w) (eq-eqb (next v) (next v) refl) q))

    pub amount_to_new : (w : ℕ) → is_other v a b w ≡ true → amount_in k (joined v a b) (joined_cells k v cells a b) w (next v) ≡ k.sum (amount_in k v cells a w) (amount_in k v cells b w)
    amount_to_new w q =
        amount_rewritten k v cells new_cell room w (next v) (in_width w q) n.fits
        ∙ ap (λ t. unwrap_or t (amount_in k v cells w (next v))) (cond-false (eqb w (next v) && is_other v a b (next v)) _ _ (and_left (eqb w (next v)) (is_other v a b (next v)) (ne_eqb w (next v) (not_new v a b n w q))) ∙ cond-true (eqb (next v) (next v) && is_other v a b w) _ _ (and_from (eqb (next v) (next v)) (is_other v a b w) (eq-eqb (next v) (next v) refl) q))

    pub symmetric_joined : ((i j : ℕ) → v.live i ≡ true → v.live j ≡ true → amount_in k v cells i j ≡ amount_in k v cells j i) → (i j : ℕ) → (joined v a b).live i ≡ true → (joined v a b).live j ≡ true → amount_in k (joined v a b) (joined_cells k v cells a b) i j ≡ amount_in k (joined v a b) (joined_cells k v cells a b) j i
    symmetric_joined s i j p q = go (live_cases v a b i p) (live_cases v a b j q)
      where
        at : ℕ → ℕ → A
        at = amount_in k (joined v a b) (joined_cells k v cells a b)

        go : (is_other v a b i ≡ true) ⊎ (i ≡ next v) → (is_other v a b j ≡ true) ⊎ (j ≡ next v) → amount_in k (joined v a b) (joined_cells k v cells a b) i j ≡ amount_in k (joined v a b) (joined_cells k v cells a b) j i
        go (inl x) (inl y) = amount_same i j x y ∙ s i j (other_facts v a b i x).0 (other_facts v a b j y).0 ∙ sym (amount_same j i y x)
        go (inl x) (inr e) = ap (amount_in k (joined v a b) (joined_cells k v cells a b) i) e ∙ amount_to_new i x ∙ sym (amount_new i x) ∙ ap (λ m. amount_in k (joined v a b) (joined_cells k v cells a b) m i) (sym e)
        go (inr e) (inl y) = ap (λ m. amount_in k (joined v a b) (joined_cells k v cells a b) m j) e ∙ amount_new j y ∙ sym (amount_to_new j y) ∙ ap (amount_in k (joined v a b) (joined_cells k v cells a b) j) (sym e)
        go (inr e) (inr f) = ap (λ m. amount_in k (joined v a b) (joined_cells k v cells a b) m j) (e ∙ sym f) ∙ ap (amount_in k (joined v a b) (joined_cells k v cells a b) j) (f ∙ sym e)

    -- what the two owed to one other id is what is booked for it and what the new one owes
    one_other : (s α β : Bool) (x y : A) → 4 * (k.span x + k.span y) ≤ span_limit → ((α || β) ≡ true → s ≡ false) → k.sum (cond (not α) (due k s x) k.zero) (cond (not β) (due k s y) k.zero) ≡ k.sum (cond (not α) (cond (not β) (overlap k x y) (positive_part k x)) (cond (not β) (positive_part k y) k.zero)) (cond (not (α || β)) (due k s (k.sum x y)) k.zero)
    one_other true false false x y h e =
        let w : k.span (k.sum x y) ≤ k.span x + k.span y = laws.span_sum x y (omega arith) in
        negatives_merge k laws x y h ∙ laws.commutes (negative_part k (k.sum x y)) (overlap k x y) (omega (arith, span_negative_part k laws (k.sum x y), span_overlap k laws x y))
    one_other false false false x y h e =
        let w : k.span (k.sum x y) ≤ k.span x + k.span y = laws.span_sum x y (omega arith) in
        positives_merge k laws x y h ∙ laws.commutes (positive_part k (k.sum x y)) (overlap k x y) (omega (arith, span_positive_part k laws (k.sum x y), span_overlap k laws x y))
    one_other s false true x y h e = ap (λ t. k.sum (due k t x) k.zero) (e refl)
    one_other s true false x y h e = ap (λ t. k.sum k.zero (due k t y)) (e refl) ∙ laws.neutral (positive_part k y) ∙ sym (neutral_right k laws (positive_part k y))
    one_other s true true x y h e = refl

    pub due_other : (labels : List ℕ) → RespectsBoard (joined v a b) labels → (w : ℕ) → is_other v a b w ≡ true → 4 * (k.span (amount_in k v cells a w) + k.span (amount_in k v cells b w)) ≤ span_limit → k.sum (open_due k v cells labels a w) (open_due k v cells labels b w) ≡ k.sum (join_other k v cells a b w) (open_due k (joined v a b) (joined_cells k v cells a b) labels (next v) w)
    due_other labels r w q h =
        let f = other_facts v a b w q in
        let oa : is_open v a w ≡ not (v.apart a w) = open_at v a w o.live_a f.0 (λ e. f.1 (sym e)) in
        let ob : is_open v b w ≡ not (v.apart b w) = open_at v b w o.live_b f.0 (λ e. f.2 (sym e)) in
        let oc : is_open (joined v a b) (next v) w ≡ not (v.apart a w || v.apart b w) = open_new w q in
        let sa = share_a labels r w q in
        let sb = share_b labels r w q in
        let x : A = amount_in k v cells a w in
        let y : A = amount_in k v cells b w in
        let s : Bool = share (joined v a b) labels (next v) w in
        let da : open_due k v cells labels a w ≡ cond (not (v.apart a w)) (due k s x) k.zero = ap₂ (λ t u. cond t (due k u x) k.zero) oa sa in
        let db : open_due k v cells labels b w ≡ cond (not (v.apart b w)) (due k s y) k.zero = ap₂ (λ t u. cond t (due k u y) k.zero) ob sb in
        let dc : open_due k (joined v a b) (joined_cells k v cells a b) labels (next v) w ≡ cond (not (v.apart a w || v.apart b w)) (due k s (k.sum x y)) k.zero = ap₂ (λ t u. cond t (due k s u) k.zero) oc (amount_new w q) in
        let jo : join_other k v cells a b w ≡ cond (not (v.apart a w)) (cond (not (v.apart b w)) (overlap k x y) (positive_part k x)) (cond (not (v.apart b w)) (positive_part k y) k.zero) = ap₂ (λ t u. cond t (cond u (overlap k x y) (positive_part k x)) (cond u (positive_part k y) k.zero)) oa ob in
        ap₂ k.sum da db ∙ one_other s (v.apart a w) (v.apart b w) x y h (not_shared labels r w q) ∙ sym (ap₂ k.sum jo dc)
