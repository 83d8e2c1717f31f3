-- Three live ids, by the signs of their pairs: what lower bounds, choosers and the end of a search look at.
use Rattle.std.specs.Prelude.{◌≡◌, ℕ, if◌then◌else◌, Bool, true, ◌&&◌, ◌||◌, List, ◌≢◌, nat_lt}
use Rattle.amount.specs.Kind.{Kind}
use Rattle.amount.specs.Signs.{positive, negative}
use Rattle.view.specs.View.{View, is_open, amount_in}

-- the amount of a pair, read in the row of the smaller id whichever comes first
abbrev pub pair_amount : {A : Type 0} → Kind A → View → List A → ℕ → ℕ → A
pair_amount k v cells i j = if nat_lt i j then amount_in k v cells i j else amount_in k v cells j i

abbrev pub is_open_positive : {A : Type 0} → Kind A → View → List A → ℕ → ℕ → Bool
is_open_positive k v cells i j = is_open v i j && positive k (pair_amount k v cells i j)

abbrev pub is_open_negative : {A : Type 0} → Kind A → View → List A → ℕ → ℕ → Bool
is_open_negative k v cells i j = is_open v i j && negative k (pair_amount k v cells i j)

-- the two pairs of m are open and positive, and the third pair is apart, or open and negative; an open third pair of amount zero makes no conflict
abbrev pub is_conflict_at : {A : Type 0} → Kind A → View → List A → ℕ → ℕ → ℕ → Bool
is_conflict_at k v cells m p q = (is_open_positive k v cells m p && is_open_positive k v cells m q) && (v.apart p q || is_open_negative k v cells p q)

-- a conflict triple, whichever of its pairs is the third; its ids are live, since its pairs are open or apart
abbrev pub is_conflict : {A : Type 0} → Kind A → View → List A → ℕ → ℕ → ℕ → Bool
is_conflict k v cells i j l = is_conflict_at k v cells i j l || (is_conflict_at k v cells j i l || is_conflict_at k v cells l i j)

-- settled: no three live ids have exactly two open positive pairs
abbrev pub Settled : {A : Type 0} → Kind A → View → List A → Type 0
Settled k v cells = (m p q : ℕ) → (p ≢ q) → is_open_positive k v cells m p ≡ true → is_open_positive k v cells m q ≡ true → is_open_positive k v cells p q ≡ true
