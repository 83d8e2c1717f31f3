-- What every reached view keeps: ids are in bounds, apart is between two live ids, and the live ids divide the parts.
use Rattle.std.specs.Prelude.{◌≡◌, ℕ, ◌<◌, ◌≤◌, true, false}
use Rattle.job.specs.Job.{max_parts}
use Rattle.view.specs.View.{View, width, next}

pub record Good (v : View) : Type 0 where
  pub some : 1 ≤ v.parts
  pub few : v.parts ≤ max_parts
  -- live ids are ids, and below the next unused one
  pub live_in : (i : ℕ) → v.live i ≡ true → i < width v
  pub live_below : (i : ℕ) → v.live i ≡ true → i < next v
  -- apart is symmetric, and between two live ids
  pub apart_symmetric : (i j : ℕ) → v.apart i j ≡ v.apart j i
  pub apart_live : (i j : ℕ) → v.apart i j ≡ true → v.live i ≡ true
  pub apart_other : (i : ℕ) → v.apart i i ≡ false
  -- live ids hold parts, each at least one, and each part is in exactly one
  pub holds_live : (i p : ℕ) → v.holds i p ≡ true → v.live i ≡ true
  pub holds_part : (i p : ℕ) → v.holds i p ≡ true → p < v.parts
  pub some_part : (i : ℕ) → v.live i ≡ true → (p : ℕ) × (v.holds i p ≡ true)
  pub held : (p : ℕ) → p < v.parts → (i : ℕ) × (v.holds i p ≡ true)
  pub held_once : (p i j : ℕ) → v.holds i p ≡ true → v.holds j p ≡ true → i ≡ j
