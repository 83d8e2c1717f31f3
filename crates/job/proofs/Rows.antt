-- The list of pairs, row by row.
use Rattle.std.proofs.Common.{◌≡◌, ℕ, suc, ◌+◌, ◌-◌, ◌<◌, List, [], ◌∷◌, ◌++◌, length, drop, get_or, map, fold, sym, ap, ◌∙◌, arith}
use Rattle.std.specs.List.{range_with_len, flat_map}
use Rattle.std.proofs.Math.ListN.{get_or-append}
use Rattle.std.proofs.Math.Seq.{drop-append_seam}
use Rattle.std.proofs.lemmas.List.{map_push, map-append, map-id, flat_map_more, length-append, drop_more}
use Rattle.std.proofs.lemmas.List.FromFn.{map-range_with_len_more, length-map-range_with_len, get_or-map-range_with_len}
use Rattle.std.proofs.lemmas.List.Sums.{fold_push, fold-append}
use Rattle.job.specs.Tests.{row, pairs}
use Rattle.job.specs.Rest.{rows_from}

pub counting_more : (m : ℕ) → range_with_len 0 (m + 1) ≡ range_with_len 0 m ++ (m ∷ [])
counting_more m = sym (map-id (range_with_len 0 (m + 1))) ∙ map-range_with_len_more (λ (x : ℕ). x) 0 m m (omega arith) ∙ ap (λ v. v ++ (m ∷ [])) (map-id (range_with_len 0 m))

pub pairs_more : (j : ℕ) → pairs (j + 1) ≡ pairs j ++ row j
pairs_more j = rw counting_more (sym (flat_map_more row [] (range_with_len 0 j) j))

-- the pairs i, j for each i below m
abbrev pub row_upto : ℕ → ℕ → List (ℕ × ℕ)
row_upto j m = map (λ i. (i, j)) (range_with_len 0 m)

-- for loops by hand: a fold over the pairs, one pair more and one row more
module _ {X : Type 0} (f : X → X → X) (charge : ℕ × ℕ → X) (a : X) where
  pub row_step : (j i : ℕ) → fold f a (map charge (row_upto j (i + 1))) ≡ f (fold f a (map charge (row_upto j i))) (charge (i, j))
  row_step j i =
      ap (λ v. fold f a (map charge v)) (map-range_with_len_more (λ (m : ℕ). (m, j)) 0 i i (omega arith))
      ∙ ap (fold f a) (map_push charge (row_upto j i) (i, j))
      ∙ fold_push f a (map charge (row_upto j i)) (charge (i, j))

  pub pairs_step : (j : ℕ) → fold f a (map charge (pairs (j + 1))) ≡ fold f (fold f a (map charge (pairs j))) (map charge (row j))
  pairs_step j =
      ap (λ v. fold f a (map charge v)) (pairs_more j)
      ∙ ap (fold f a) (map-append charge (pairs j) (row j))
      ∙ fold-append f a (map charge (pairs j)) (map charge (row j))

-- an iterator over pairs: within a row, and from row to row
rows_next : (j n : ℕ) → j < n → rows_from j n ≡ row j ++ rows_from (j + 1) n
rows_next j n l = ap (λ m. flat_map row (range_with_len j m)) e
  where
    e : n - j ≡ suc (n - (j + 1))
    e = omega arith

length_row : (j : ℕ) → length (row j) ≡ j
length_row j = length-map-range_with_len {X = ℕ × ℕ} (λ i. (i, j)) 0 j

pub rows_step : (i j n : ℕ) → i < j → j < n → drop i (rows_from j n) ≡ (i, j) ∷ drop (i + 1) (rows_from j n)
rows_step i j n l m =
    let long : length (row j ++ rows_from (j + 1) n) ≡ length (row j) + length (rows_from (j + 1) n) = length-append (row j) (rows_from (j + 1) n) in
    let there : i < length (rows_from j n) = omega (arith, ap length (rows_next j n m), length_row j) in
    let item : get_or (rows_from j n) i (i, j) ≡ (i, j) = ap (λ xs. get_or xs i (i, j)) (rows_next j n m) ∙ get_or-append (row j) (rows_from (j + 1) n) (i, j) i (omega (arith, length_row j)) ∙ get_or-map-range_with_len (λ p. (p, j)) 0 j i i (i, j) l (omega arith) in
    drop_more (rows_from j n) i (i, j) there ∙ ap (λ x. x ∷ drop (i + 1) (rows_from j n)) item

pub rows_turn : (j n : ℕ) → j < n → drop j (rows_from j n) ≡ rows_from (j + 1) n
rows_turn j n m = ap (drop j) (rows_next j n m) ∙ ap (λ i. drop i (row j ++ rows_from (j + 1) n)) (sym (length_row j)) ∙ drop-append_seam (row j) (rows_from (j + 1) n)
