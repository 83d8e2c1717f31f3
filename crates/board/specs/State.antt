-- What a board's lists mean: the one place that ties them to the board's view.
use Rattle.std.specs.Prelude.{ℕ, Bool, false, ◌&&◌, [], min, max, slice_index_or}
use Rattle.arrayvec.specs.ArrayVec.{array_vec_len}
use Rattle.view.specs.View.{View}
use Rattle.board.specs.declared.state.Id.{Id}
use Rattle.board.specs.declared.state.State.{State}

-- how many ids were made, the parts among them: the next unused id
abbrev pub made : State → ℕ
made s = array_vec_len s.ids

-- how many steps stand
abbrev pub standing : State → ℕ
standing s = array_vec_len s.trail

-- what stands for an id that was not made
abbrev pub no_id : Id
no_id = record { live = false; apart = []; members = [] }

abbrev pub id_at : State → ℕ → Id
id_at s i = slice_index_or s.ids.items i no_id

abbrev pub is_live : State → ℕ → Bool
is_live s i = (id_at s i).live

-- whether the id i holds the part p
abbrev pub is_member : State → ℕ → ℕ → Bool
is_member s i p = slice_index_or (id_at s i).members p false

-- whether i and j are apart: the larger of the two has the flag
abbrev pub is_aside : State → ℕ → ℕ → Bool
is_aside s i j = slice_index_or (id_at s (max i j)).apart (min i j) false

-- what a board shows; what else an id has means nothing once it is not live
unfoldable pub view_of : State → View
view_of s = record {
  parts = s.parts;
  live = is_live s;
  holds = λ i p. is_live s i && is_member s i p;
  apart = λ i j. (is_live s i && is_live s j) && is_aside s i j;
}
