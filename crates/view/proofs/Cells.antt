-- Reading cells that were written anew.
use Rattle.std.proofs.Common.{◌≡◌, ℕ, ◌+◌, ◌*◌, ◌/◌, ◌%◌, ◌<◌, List, length, get_or, Option, unwrap_or, ◌∙◌, ap₂, arith}
use Rattle.std.proofs.lemmas.Nat.{mul-add-lt, div-mul-add, mod-mul-add}
use Rattle.std.proofs.lemmas.List.FromFn.{get_or-map-range_with_len, length-map-range_with_len}
use Rattle.amount.specs.Kind.{Kind}
use Rattle.view.specs.View.{View, width, Roomy, amount_in}
use Rattle.view.specs.Steps.{rewritten, joined_cells, loaded_cells}
use Rattle.job.specs.Job.{Job}

module _ {A : Type 0} (k : Kind A) (v : View) (cells : List A) (new : ℕ → ℕ → Option A) where
  pub amount_rewritten : Roomy v cells → (i j : ℕ) → i < width v → j < width v → amount_in k v (rewritten k v cells new) i j ≡ unwrap_or (new i j) (amount_in k v cells i j)
  amount_rewritten room i j hi hj =
      let place : i * width v + j < width v * width v = mul-add-lt i (width v) j (width v) hi hj in
      let read = get_or-map-range_with_len (λ c. unwrap_or (new (c / width v) (c % width v)) (get_or cells c k.zero)) 0 (length cells) (i * width v + j) (i * width v + j) k.zero (omega arith) (omega arith) in
      read ∙ ap₂ (λ x y. unwrap_or (new x y) (get_or cells (i * width v + j) k.zero)) (div-mul-add i (width v) j hj) (mod-mul-add i (width v) j hj)

-- a step writes no cell beyond those that are there
pub length_joined : {A : Type 0} (k : Kind A) (v : View) (cells : List A) (a b : ℕ) → length (joined_cells k v cells a b) ≡ length cells
length_joined k v cells a b = length-map-range_with_len _ 0 (length cells)

pub length_loaded : {A : Type 0} (k : Kind A) (job : Job A) (cells : List A) → length (loaded_cells k job cells) ≡ length cells
length_loaded k job cells = length-map-range_with_len _ 0 (length cells)
