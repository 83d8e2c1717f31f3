-- What a chain over all pairs gives.
use Rattle.std.proofs.Common.{◌≡◌, ℕ, Bool, true, false, List, [], ◌∷◌, ◌++◌, map, fold, Option, sym, refl, ap, ◌∙◌}
use Rattle.std.proofs.lemmas.Iterator.{YieldsList}
use Rattle.std.proofs.lemmas.Iterator.Search.{all_from_yields_List}
use Rattle.std.proofs.lemmas.Iterator.Consumers.{YieldsList-from_first, fold_from_yields_List}
use Rattle.std.proofs.lemmas.List.{map-append}
use Rattle.std.proofs.lemmas.List.Sums.{fold-append}
use Rattle.std.proofs.lemmas.Simd.{map-map}
use Rattle.std.specs.Fn.{Called}
use Rattle.std.specs.Iterator.{YieldsThen, Drains, YieldsFirst}
use Rattle.std.specs.List.{FoldsTo, range_with_len, flat_map}
use Rattle.std.specs.Option.{MatchOption}
use denote.Param.Members.{Mut}
use Rattle.amount.specs.Kind.{Kind}
use Rattle.job.specs.Rest.{rest}
use Rattle.job.specs.Tests.{row, pairs, every_pair}
use Rattle.job.specs.declared.bills.Bill.{Bill}
use Rattle.job.specs.declared.pairs.Pairs.{Pairs}

-- `all`
pub every_pair_from_all : {F : Type 0} {g : Mut F ((ℕ × ℕ) × Unit {0}) Bool} {s : Pairs} (p : ℕ → ℕ → Bool) (n : ℕ) (u : Pairs) (f : F) (r : Bool)
    → (xs : List (ℕ × ℕ)) × (o : Option (ℕ × ℕ)) × (j : F) × YieldsThen (YieldsFirst rest) s xs o u × FoldsTo (λ a x q. Called g a (x, tt) true q) f xs j × MatchOption o (r ≡ true) (λ x. (r ≡ false) × ((h : F) × Called g j (x, tt) false h))
    → rest s ≡ pairs n → ((x : ℕ × ℕ) (b : Bool) (q : F) → Called g f (x, tt) b q → (q ≡ f) × (b ≡ p x.0 x.1)) → r ≡ every_pair n p
every_pair_from_all p n u f r ran begun each = all_from_yields_List (λ x. p x.0 x.1) u f r ran (YieldsList-from_first (λ x. x) rest (pairs n) begun) each

module _ {A X : Type 0} (k : Kind A) (separating joining : X → A) where
  -- a bill with one charge more
  abbrev pub with_charge : Bill A → X → Bill A
  with_charge b x = record { separating = k.sum b.separating (separating x); joining = k.sum b.joining (joining x) }

  fold_totals : (b : Bill A) (xs : List X) → ((fold with_charge b xs).separating ≡ fold k.sum b.separating (map separating xs)) × ((fold with_charge b xs).joining ≡ fold k.sum b.joining (map joining xs))
  fold_totals b [] = (refl, refl)
  fold_totals b (x ∷ xs) = fold_totals (with_charge b x) xs

  -- `fold`, with a bill, over whatever gives a list
  pub totals_from_yields : {S F : Type 0} {steps : S → Option X → S → Type 0} {s : S} (g : Mut F (Bill A × (X × Unit {0})) (Bill A)) (all : List X) {f : F} (b r : Bill A)
      → (xs : List X) × (q : F) × Drains steps s xs × FoldsTo {P = F × Bill A} (λ a x c. Called g a.0 (a.1, (x, tt)) c.1 c.0) (f, b) xs (q, r)
      → YieldsList steps (λ x. x) s all → ((a : Bill A) (x : X) (c : Bill A) (q : F) → Called g f (a, (x, tt)) c q → (q ≡ f) × (c ≡ with_charge a x))
      → (r.separating ≡ fold k.sum b.separating (map separating all)) × (r.joining ≡ fold k.sum b.joining (map joining all))
  totals_from_yields g all b r ran yields each =
      let e : r ≡ fold with_charge b all = fold_from_yields_List g with_charge b r ran yields each in
      (ap (λ (x : Bill A). x.separating) e ∙ (fold_totals b all).0, ap (λ (x : Bill A). x.joining) e ∙ (fold_totals b all).1)

module _ {A : Type 0} (k : Kind A) (separating joining : ℕ × ℕ → A) where
  -- over pairs
  pub totals_from_fold : {F : Type 0} (g : Mut F (Bill A × ((ℕ × ℕ) × Unit {0})) (Bill A)) (n : ℕ) {s : Pairs} {f : F} (b r : Bill A)
      → (xs : List (ℕ × ℕ)) × (q : F) × Drains (YieldsFirst rest) s xs × FoldsTo {P = F × Bill A} (λ a x c. Called g a.0 (a.1, (x, tt)) c.1 c.0) (f, b) xs (q, r)
      → rest s ≡ pairs n → ((a : Bill A) (x : ℕ × ℕ) (c : Bill A) (q : F) → Called g f (a, (x, tt)) c q → (q ≡ f) × (c ≡ with_charge k separating joining a x))
      → (r.separating ≡ fold k.sum b.separating (map separating (pairs n))) × (r.joining ≡ fold k.sum b.joining (map joining (pairs n)))
  totals_from_fold g n b r ran begun each = totals_from_yields k separating joining g (pairs n) b r ran (YieldsList-from_first (λ x. x) rest (pairs n) begun) each

  -- over the pairs of j, by the numbers below it
  pub totals_from_row : {S F : Type 0} {steps : S → Option ℕ → S → Type 0} {s : S} (g : Mut F (Bill A × (ℕ × Unit {0})) (Bill A)) (j : ℕ) {f : F} (b r : Bill A)
      → (xs : List ℕ) × (q : F) × Drains steps s xs × FoldsTo {P = F × Bill A} (λ a x c. Called g a.0 (a.1, (x, tt)) c.1 c.0) (f, b) xs (q, r)
      → YieldsList steps (λ x. x) s (range_with_len 0 j) → ((a : Bill A) (i : ℕ) (c : Bill A) (q : F) → Called g f (a, (i, tt)) c q → (q ≡ f) × (c ≡ with_charge k separating joining a (i, j)))
      → (r.separating ≡ fold k.sum b.separating (map separating (row j))) × (r.joining ≡ fold k.sum b.joining (map joining (row j)))
  totals_from_row g j b r ran yields each =
      let t = totals_from_yields k (λ i. separating (i, j)) (λ i. joining (i, j)) g (range_with_len 0 j) b r ran yields each in
      (t.0 ∙ ap (fold k.sum b.separating) (sym (map-map separating (λ i. (i, j)) (range_with_len 0 j))), t.1 ∙ ap (fold k.sum b.joining) (sym (map-map joining (λ i. (i, j)) (range_with_len 0 j))))

  -- a bill with one row more
  abbrev pub with_row : Bill A → ℕ → Bill A
  with_row b j = record { separating = fold k.sum b.separating (map separating (row j)); joining = fold k.sum b.joining (map joining (row j)) }

  fold_rows : (b : Bill A) (js : List ℕ) → ((fold with_row b js).separating ≡ fold k.sum b.separating (map separating (flat_map row js))) × ((fold with_row b js).joining ≡ fold k.sum b.joining (map joining (flat_map row js)))
  fold_rows b [] = (refl, refl)
  fold_rows b (j ∷ js) =
      let t = fold_rows (with_row b j) js in
      (t.0 ∙ sym (more separating b.separating), t.1 ∙ sym (more joining b.joining))
    where
      more : (charge : ℕ × ℕ → A) (a : A) → fold k.sum a (map charge (row j ++ flat_map row js)) ≡ fold k.sum (fold k.sum a (map charge (row j))) (map charge (flat_map row js))
      more charge a = ap (fold k.sum a) (map-append charge (row j) (flat_map row js)) ∙ fold-append k.sum a (map charge (row j)) (map charge (flat_map row js))

  -- over all pairs, row by row
  pub totals_from_rows : {S F : Type 0} {steps : S → Option ℕ → S → Type 0} {s : S} (g : Mut F (Bill A × (ℕ × Unit {0})) (Bill A)) (n : ℕ) {f : F} (b r : Bill A)
      → (xs : List ℕ) × (q : F) × Drains steps s xs × FoldsTo {P = F × Bill A} (λ a x c. Called g a.0 (a.1, (x, tt)) c.1 c.0) (f, b) xs (q, r)
      → YieldsList steps (λ x. x) s (range_with_len 0 n) → ((a : Bill A) (j : ℕ) (c : Bill A) (q : F) → Called g f (a, (j, tt)) c q → (q ≡ f) × (c ≡ with_row a j))
      → (r.separating ≡ fold k.sum b.separating (map separating (pairs n))) × (r.joining ≡ fold k.sum b.joining (map joining (pairs n)))
  totals_from_rows g n b r ran yields each =
      let e : r ≡ fold with_row b (range_with_len 0 n) = fold_from_yields_List g with_row b r ran yields each in
      let t = fold_rows b (range_with_len 0 n) in
      (ap (λ (x : Bill A). x.separating) e ∙ t.0, ap (λ (x : Bill A). x.joining) e ∙ t.1)
