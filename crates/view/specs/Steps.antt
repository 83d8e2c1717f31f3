-- Loading a job, and the two steps on a board: join (in the literature a vertex merge) and separation (an edge set to forbidden).
use Rattle.std.specs.Prelude.{ℕ, ◌/◌, ◌%◌, if◌then◌else◌, Bool, not, ◌&&◌, ◌||◌, List, map, length, Some, None, filter, Option, ◌==◌, nat_lt, slice_index_or}
use Rattle.std.specs.List.{range_with_len}
use Rattle.std.specs.Option.{unwrap_or}
use Rattle.amount.specs.Kind.{Kind}
use Rattle.amount.specs.Signs.{positive_part, negative_part, overlap}
use Rattle.amount.specs.Totals.{total}
use Rattle.job.specs.Job.{Job, amount_at, marked}
use Rattle.view.specs.View.{View, width, next, is_open, amount_in}

-- the cells with those of some pairs written anew and no other; there are as many as before
abbrev pub rewritten : {A : Type 0} → Kind A → View → List A → (ℕ → ℕ → Option A) → List A
rewritten k v cells new = map (λ c. unwrap_or (new (c / width v) (c % width v)) (slice_index_or cells c k.zero)) (range_with_len 0 (length cells))

-- a loaded board: the parts are live, each alone, and the marked pairs are apart
abbrev pub start : {A : Type 0} → Job A → View
start job = record {
  parts = job.parts;
  live = λ i. nat_lt i job.parts;
  holds = λ i p. nat_lt i job.parts && (i == p);
  apart = λ i j. (nat_lt i job.parts && nat_lt j job.parts) && marked job i j;
}

-- the cells of the parts hold the amounts of the job
abbrev pub loaded_cells : {A : Type 0} → Kind A → Job A → List A → List A
loaded_cells k job cells = rewritten k (start job) cells (λ i j. if nat_lt i job.parts && nat_lt j job.parts then Some (amount_at k job i j) else None)

-- what loading books: zero today
abbrev pub load_booked : {A : Type 0} → Kind A → Job A → A
load_booked k job = k.zero

-- live, and neither of the two that are joined
abbrev pub is_other : View → ℕ → ℕ → ℕ → Bool
is_other v a b i = v.live i && (not (i == a) && not (i == b))

-- the new id is apart from what either of the two was apart from
abbrev pub joined_apart : View → ℕ → ℕ → ℕ → Bool
joined_apart v a b w = v.apart a w || v.apart b w

-- the next id takes the place of a and b, with the parts of both
abbrev pub joined : View → ℕ → ℕ → View
joined v a b = record {
  parts = v.parts;
  live = λ i. is_other v a b i || (i == next v);
  holds = λ i p. if i == next v then v.holds a p || v.holds b p else is_other v a b i && v.holds i p;
  apart = λ i j.
      if i == next v then is_other v a b j && joined_apart v a b j
      else if j == next v then is_other v a b i && joined_apart v a b i
      else (is_other v a b i && is_other v a b j) && v.apart i j;
}

-- the amount of the new id to another one: the sum of theirs, apart or not
abbrev pub joined_amount : {A : Type 0} → Kind A → View → List A → ℕ → ℕ → ℕ → A
joined_amount k v cells a b w = k.sum (amount_in k v cells a w) (amount_in k v cells b w)

-- it is written in both cells of each pair
abbrev pub joined_cells : {A : Type 0} → Kind A → View → List A → ℕ → ℕ → List A
joined_cells k v cells a b = rewritten k v cells (λ i j.
    if i == next v && is_other v a b j then Some (joined_amount k v cells a b j)
    else if j == next v && is_other v a b i then Some (joined_amount k v cells a b i)
    else None)

-- what a join books for its own pair: the absolute amount if negative
abbrev pub join_own : {A : Type 0} → Kind A → View → List A → ℕ → ℕ → A
join_own k v cells a b = negative_part k (amount_in k v cells a b)

-- what it books for one other id: with both pairs open and of opposite signs the lesser absolute amount, with one open its amount if positive
abbrev pub join_other : {A : Type 0} → Kind A → View → List A → ℕ → ℕ → ℕ → A
join_other k v cells a b w =
    if is_open v a w
    then (if is_open v b w then overlap k (amount_in k v cells a w) (amount_in k v cells b w) else positive_part k (amount_in k v cells a w))
    else (if is_open v b w then positive_part k (amount_in k v cells b w) else k.zero)

-- the other live ids
abbrev pub others : View → ℕ → ℕ → List ℕ
others v a b = filter (is_other v a b) (range_with_len 0 (width v))

-- what it books for all others
abbrev pub join_others : {A : Type 0} → Kind A → View → List A → ℕ → ℕ → A
join_others k v cells a b = total k (map (join_other k v cells a b) (others v a b))

-- both together
abbrev pub join_booked : {A : Type 0} → Kind A → View → List A → ℕ → ℕ → A
join_booked k v cells a b = k.sum (join_own k v cells a b) (join_others k v cells a b)

-- the pair becomes apart
abbrev pub separated : View → ℕ → ℕ → View
separated v a b = record {
  parts = v.parts;
  live = v.live;
  holds = v.holds;
  apart = λ i j. v.apart i j || ((i == a && j == b) || (i == b && j == a));
}

-- what a separation books: the amount of the pair if positive
abbrev pub separation_booked : {A : Type 0} → Kind A → View → List A → ℕ → ℕ → A
separation_booked k v cells a b = positive_part k (amount_in k v cells a b)
