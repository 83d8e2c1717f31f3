-- Steps on what a board holds, and steps taken back: how a board that keeps a trail of its steps returns to any earlier mark.
use Rattle.std.specs.Prelude.{◌≡◌, ℕ, zero, suc, ◌+◌, ◌-◌, ◌<◌, ◌≤◌, Bool, true, false, ◌&&◌, ◌||◌, List, [], ◌∷◌, ◌++◌, map, length, take, Some, None, Option, ◌==◌, nat_lt, All, min, max, slice_get, slice_index_or, slice_set}
use Rattle.std.specs.List.{range_with_len}
use Rattle.arrayvec.specs.ArrayVec.{ArrayVec, array_vec_len}
use Rattle.job.specs.Job.{Job, max_parts, marked}
use Rattle.view.specs.Steps.{joined, separated}
use Rattle.view.specs.View.{View, next, is_open}
use Rattle.view.specs.Good.{Good}
use Rattle.view.specs.Law.{pair_count, open_count}
use Rattle.view.specs.declared.Step.{Step}
use Rattle.view.specs.declared.Step.TheVariants.{Join, Separation}
use Rattle.board.specs.Sizes.{max_ids, max_steps}
use Rattle.board.specs.State.{made, standing, no_id, is_aside, is_member, view_of}
use Rattle.board.specs.declared.state.Id.{Id}
use Rattle.board.specs.declared.state.State.{State}

-- what a test answers at each number below n
unfoldable pub flags : ℕ → (ℕ → Bool) → List Bool
flags n test = map test (range_with_len 0 n)

-- the id of a part before any step: the part alone, apart from the parts below it that it is marked with
abbrev pub part_id : {A : Type 0} → Job A → ℕ → Id
part_id job i = record {
  live = true;
  apart = flags max_ids (λ j. nat_lt j i && marked job i j);
  members = flags max_parts (λ p. i == p);
}

-- what a board with no step holds
unfoldable pub started : {A : Type 0} → Job A → State
started job = record {
  parts = job.parts;
  ids = record { items = map (part_id job) (range_with_len 0 job.parts) };
  trail = record { items = [] };
}

-- the id made of a and b: apart from what either is apart from, with the parts of both
abbrev pub joined_id : State → ℕ → ℕ → Id
joined_id s a b = record {
  live = true;
  apart = flags max_ids (λ w. is_aside s a w || is_aside s b w);
  members = flags max_parts (λ p. is_member s a p || is_member s b p);
}

-- the ids with one made live, or not live
abbrev pub with_live : List Id → ℕ → Bool → List Id
with_live ids i live = slice_set ids i (record (slice_index_or ids i no_id) { live = live })

-- the ids with the flag of the pair a, b, which the larger has
abbrev pub with_flag : List Id → ℕ → ℕ → Bool → List Id
with_flag ids a b flag =
    let id = slice_index_or ids (max a b) no_id in
    slice_set ids (max a b) (record id { apart = slice_set id.apart (min a b) flag })

-- the ids after a step: the two make way for the one made of them, or become apart
abbrev pub ids_after : State → Step → List Id
ids_after s (Join a b) = with_live (with_live s.ids.items a false) b false ++ joined_id s a b ∷ []
ids_after s (Separation a b) = with_flag s.ids.items a b true

-- the state after a step; with no step it stays
abbrev pub redone : State → Option Step → State
redone s None = s
redone s (Some step) = record s { ids = record { items = ids_after s step }; trail = record { items = s.trail.items ++ step ∷ [] } }

-- what is asked to take a step: its two ids were made, and there is room
abbrev pub Doable : State → Step → Type 0
Doable s (Join a b) = (a < made s) × ((b < made s) × ((made s < max_ids) × (standing s < max_steps)))
Doable s (Separation a b) = (a < made s) × ((b < made s) × (standing s < max_steps))

-- the view after a step, by its rule
abbrev pub view_after : View → Step → View
view_after v (Join a b) = joined v a b
view_after v (Separation a b) = separated v a b

-- what `pop` leaves: all but the last
abbrev pub but_last : {T : Type 0} → ArrayVec T → List T
but_last v = take (array_vec_len v - 1) v.items

-- the ids before the last step, which is this one
abbrev pub ids_before : State → Step → List Id
ids_before s (Join a b) = with_live (with_live (but_last s.ids) b true) a true
ids_before s (Separation a b) = with_flag s.ids.items a b false

-- the last standing step, if any
abbrev pub last_step : State → Option Step
last_step s = slice_get s.trail.items (standing s - 1)

-- what is asked to take back the last step, which is this one: its two ids were made before it
abbrev pub Undoable : State → Option Step → Type 0
Undoable s None = Unit {0}
Undoable s (Some (Join a b)) = (a < made s - 1) × (b < made s - 1)
Undoable s (Some (Separation a b)) = (a < made s) × (b < made s)

-- the state with its last step, which is this one, taken back; with no step it stays
abbrev pub undone_by : State → Option Step → State
undone_by s None = s
undone_by s (Some step) = record s { ids = record { items = ids_before s step }; trail = record { items = but_last s.trail } }

abbrev pub undone : State → State
undone s = undone_by s (last_step s)

abbrev pub undone_times : ℕ → State → State
undone_times zero s = s
undone_times (suc k) s = undone_times k (undone s)

-- taken back to a mark: to where so many steps stood
abbrev pub taken_back : ℕ → State → State
taken_back mark s = undone_times (standing s - mark) s

-- t came from s by steps that stand: each mark at or below s's leads back to the same state
pub record Stays (s t : State) : Type 0 where
  pub grows : standing s ≤ standing t
  pub back_to : (mark : ℕ) → mark ≤ standing s → taken_back mark t ≡ taken_back mark s

-- what every board keeps, so that taking back is exact
pub record Tidy (s : State) : Type 0 where
  pub well_formed : Good (view_of s)
  pub made_next : made s ≡ next (view_of s)
  -- each id has a flag for every id
  pub rows : All (λ id. length id.apart ≡ max_ids) s.ids.items
  -- each step that stands settled a pair
  pub budget : open_count (view_of s) + standing s ≤ pair_count s.parts

-- whether a step may be taken: its pair is open
abbrev pub Legal : State → Option Step → Type 0
Legal s None = ⊥
Legal s (Some (Join a b)) = is_open (view_of s) a b ≡ true
Legal s (Some (Separation a b)) = is_open (view_of s) a b ≡ true

-- so many steps lead here, each a legal one, from a tidy state with none
abbrev pub Past : ℕ → State → Type 0
Past zero s = Tidy s × (standing s ≡ 0)
Past (suc k) s = Past k (undone s) × Legal (undone s) (last_step s) × (s ≡ redone (undone s) (last_step s))
