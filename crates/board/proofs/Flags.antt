-- Lists of flags, one at each number: as `from_fn` makes them, and what is read of them.
use Rattle.std.proofs.Common.{◌≡◌, ℕ, zero, suc, ◌+◌, ◌<◌, ◌≤◌, Bool, true, false, ◌≢◌, ◌⊎◌, List, length, get_or, sym, ap, ◌∙◌, subst, inl, inr, arith}
use denote.Param.Members.{Mut}
use Rattle.std.specs.Array.{IsFromFnResultFrom, IsFromFnResult}
use Rattle.std.specs.Fn.{Called}
use Rattle.std.proofs.lemmas.Bool.{cases_eq, cases_lt, false_from_ne_true}
use Rattle.std.proofs.lemmas.List.{get_or_past}
use Rattle.std.proofs.lemmas.List.FromFn.{get_or-map-range_with_len, length-map-range_with_len, fill_by_all}
use Rattle.board.specs.Trail.{flags}
use Rattle.board.specs.declared.state.Id.{Id}

-- a closure that answers a test at each number, and stays as it was
module _ {F : Type 0} (g : Mut F (ℕ × Unit {0}) Bool) (test : ℕ → Bool) (f : F) (answers : (i : ℕ) (flag : Bool) (q : F) → Called g f (i, tt) flag q → (flag ≡ test i) × (q ≡ f)) where
  made_from : (xs : List Bool) (i n : ℕ) → IsFromFnResultFrom g f xs i n → (k : ℕ) → i ≤ k → k < i + n → get_or xs k false ≡ test k
  made_from xs i zero r k h l = absurd (omega arith)
  made_from xs i (suc n) r k h l =
      let first = answers i r.1 r.0 r.3 in
      let rest = subst (λ (q : F). IsFromFnResultFrom g q xs (i + 1) n) first.1 r.4 in
      go first.0 (λ d. made_from xs (i + 1) n rest k (omega arith) (omega arith)) (cases_eq k i)
    where
      go : r.1 ≡ test i → (k ≢ i → get_or xs k false ≡ test k) → (k ≡ i) ⊎ (k ≢ i) → get_or xs k false ≡ test k
      go first later (inl e) = ap (λ j. get_or xs j false) e ∙ r.2.1 false ∙ first ∙ ap test (sym e)
      go first later (inr d) = later d

  pub made_flags : (xs : List Bool) (n : ℕ) → IsFromFnResult g f xs n → xs ≡ flags n test
  unfolding flags
  made_flags xs n r = fill_by_all test xs n false r.long (λ k h. made_from xs 0 n r.each k (omega arith) (omega arith))

module _ (n : ℕ) (test : ℕ → Bool) where
  pub length-flags : length (flags n test) ≡ n
  unfolding flags
  length-flags = length-map-range_with_len test 0 n

  -- each flag is its test's answer, and so is a missing one if the test denies all beyond
  pub flag_is : (k : ℕ) → (test k ≡ true → k < n) → get_or (flags n test) k false ≡ test k
  unfolding flags
  flag_is k within = go (cases_lt k n)
    where
      go : (k < n) ⊎ (n ≤ k) → get_or (flags n test) k false ≡ test k
      go (inl h) = get_or-map-range_with_len test 0 n k k false h (omega arith)
      go (inr h) = get_or_past (flags n test) k false (omega (arith, length-flags)) ∙ sym (false_from_ne_true (test k) (λ e. let l = within e in let no : ⊥ = omega arith in no))

pub same_id : (live : Bool) (row row' members members' : List Bool) → row ≡ row' → members ≡ members' → ◌≡◌ {A = Id} (record { live = live; apart = row; members = members }) (record { live = live; apart = row'; members = members' })
same_id live row row' members members' e f = λ z. record { live = live; apart = e z; members = f z }
