-- Tests over all numbers below a limit and over all pairs of them, and answers that refuse.
use Rattle.std.specs.Prelude.{if◌then◌else◌, ℕ, Bool, List, map, not, Ok, Err, Result}
use Rattle.std.specs.List.{range_with_len, flat_map, list_all}

-- p of each number below n
abbrev pub every : ℕ → (ℕ → Bool) → Bool
every n p = list_all p (range_with_len 0 n)

-- the pairs of j with each number below it
abbrev pub row : ℕ → List (ℕ × ℕ)
row j = map (λ i. (i, j)) (range_with_len 0 j)

-- all pairs i, j with i below j and j below n, row by row
abbrev pub pairs : ℕ → List (ℕ × ℕ)
pairs n = flat_map row (range_with_len 0 n)

-- p of each of these pairs
abbrev pub every_pair : ℕ → (ℕ → ℕ → Bool) → Bool
every_pair n p = list_all (λ q. p q.0 q.1) (pairs n)

-- whether two answers of yes or no are alike
abbrev pub alike : Bool → Bool → Bool
alike a b = if a then b else not b

-- a refusal unless the test holds; else the rest
abbrev pub refuse_unless : {T E : Type 0} → Bool → E → Result T E → Result T E
refuse_unless test refusal rest = if test then rest else Err refusal

-- the refusal of what comes first, wrapped; else the rest
abbrev pub refuse_or : {S T E F : Type 0} → (E → F) → Result S E → Result T F → Result T F
refuse_or wrap (Ok _) rest = rest
refuse_or wrap (Err refusal) rest = Err (wrap refusal)
