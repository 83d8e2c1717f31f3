-- A loaded board: its view is the job's, and its lists are tidy.
use Rattle.std.proofs.Common.{◌≡◌, ℕ, zero, suc, ◌+◌, ◌-◌, ◌<◌, ◌≤◌, true, false, ◌&&◌, eqb, ltb, ◌⊎◌, length, get_or, min, max, filter, sym, refl, ap, ◌∙◌, subst, ap₂, inl, inr, arith}
use Rattle.std.specs.List.{range_with_len}
use Rattle.std.proofs.lemmas.List.FromFn.{get_or-map-range_with_len, length-map-range_with_len}
use Rattle.std.proofs.lemmas.List.{get_or_past}
use Rattle.std.proofs.lemmas.List.Elements.{All-from_get_or}
use Rattle.std.proofs.lemmas.Bool.{cases_lt, cases_Bool, cases_order, eqb-true, ltb-true, ltb-false, lt-ltb, le-ltb, and_parts, and_left}
use Rattle.amount.specs.Kind.{Kind, Laws}
use Rattle.job.specs.Job.{Job, max_parts, marked, Sound}
use Rattle.view.specs.Good.{Good}
use Rattle.view.specs.Law.{open_count}
use Rattle.view.specs.Steps.{start}
use Rattle.view.specs.View.{width, next}
use Rattle.view.proofs.Choose.{kept_yes, kept_no}
use Rattle.view.proofs.Count.{opens_is, opens_start}
use Rattle.view.proofs.Start.{good_start}
use Rattle.board.specs.Sizes.{max_ids}
use Rattle.board.specs.State.{made, standing, no_id, id_at, is_live, is_member, is_aside, view_of}
use Rattle.board.specs.Trail.{part_id, started, Tidy}
use Rattle.board.specs.declared.state.Id.{Id}
use Rattle.board.specs.declared.state.State.{State}
use Rattle.board.proofs.Flags.{length-flags, flag_is}
use Rattle.board.proofs.Views.{guarded, aside_symmetric}

-- as many numbers below n as n says, counted from s
all_below : (n s m : ℕ) → n ≤ s + m → length (filter (λ i. ltb i n) (range_with_len s m)) ≡ n - s
all_below n s zero h = omega arith
all_below n s (suc m) h = go (all_below n (s + 1) m (omega arith)) (cases_Bool (ltb s n))
  where
    go : length (filter (λ i. ltb i n) (range_with_len (s + 1) m)) ≡ n - (s + 1) → (ltb s n ≡ true) ⊎ (ltb s n ≡ false) → length (filter (λ i. ltb i n) (range_with_len s (suc m))) ≡ n - s
    go r (inl y) = omega (arith, ltb-true s n y, ap length (kept_yes (λ i. ltb i n) s (range_with_len (s + 1) m) y))
    go r (inr x) = omega (arith, ltb-false s n x, ap length (kept_no (λ i. ltb i n) s (range_with_len (s + 1) m) x))

module _ {A : Type 0} (k : Kind A) (job : Job A) (sound : Sound k job) where
  abbrev n : ℕ
  n = job.parts

  abbrev s : State
  s = started job

  few : n ≤ max_parts
  few = sound.within.1

  parts_made : made s ≡ n
  unfolding started
  parts_made = length-map-range_with_len (part_id job) 0 n

  part_at : (i : ℕ) → i < n → id_at s i ≡ part_id job i
  unfolding started
  part_at i h = get_or-map-range_with_len (part_id job) 0 n i i no_id h (omega arith)

  none_at : (i : ℕ) → n ≤ i → id_at s i ≡ no_id
  none_at i h = get_or_past s.ids.items i no_id (omega (arith, parts_made))

  live_at : (i : ℕ) → is_live s i ≡ ltb i n
  live_at i = go (cases_lt i n)
    where
      go : (i < n) ⊎ (n ≤ i) → is_live s i ≡ ltb i n
      go (inl h) = ap (λ (id : Id). id.live) (part_at i h) ∙ sym (lt-ltb i n h)
      go (inr h) = ap (λ (id : Id). id.live) (none_at i h) ∙ sym (le-ltb i n h)

  member_at : (i p : ℕ) → i < n → is_member s i p ≡ eqb i p
  member_at i p h =
      ap (λ (id : Id). get_or id.members p false) (part_at i h)
      ∙ flag_is max_parts (eqb i) p (λ e. omega (arith, eqb-true i p e, few))

  -- the flags of a part with those up to itself
  aside_at_or_below : (i j : ℕ) → i < n → j ≤ i → is_aside s i j ≡ (ltb j i && marked job i j)
  aside_at_or_below i j h l =
      let larger : max i j ≡ i = omega arith in
      let smaller : min i j ≡ j = omega arith in
      ap₂ (λ m k. get_or (id_at s m).apart k false) larger smaller ∙ ap (λ (id : Id). get_or id.apart j false) (part_at i h)
      ∙ flag_is max_ids (λ m. ltb m i && marked job i m) j (λ _. omega (arith, few))

  aside_at : (i j : ℕ) → i < n → j < n → is_aside s i j ≡ marked job i j
  aside_at i j p q = go (cases_order i j)
    where
      below : (i j : ℕ) → i < n → j < i → is_aside s i j ≡ marked job i j
      below i j p h = aside_at_or_below i j p (omega arith) ∙ ap (λ x. x && marked job i j) (lt-ltb j i h)

      go : (i ≡ j) ⊎ ((i < j) ⊎ (j < i)) → is_aside s i j ≡ marked job i j
      go (inl e) =
          ap (is_aside s i) (sym e) ∙ aside_at_or_below i i p (omega arith) ∙ and_left (ltb i i) _ (le-ltb i i (omega arith))
          ∙ sym (ap (marked job i) (sym e) ∙ sound.mirrored.marks_diagonal i p)
      go (inr (inl h)) = aside_symmetric s i j ∙ below j i q h ∙ sound.mirrored.marks_symmetric j i q p
      go (inr (inr h)) = below i j p h

  holds_at : (i p : ℕ) → (is_live s i && is_member s i p) ≡ (ltb i n && eqb i p)
  holds_at i p = ap (λ x. x && is_member s i p) (live_at i) ∙ guarded (ltb i n) (is_member s i p) (eqb i p) (λ e. member_at i p (ltb-true i n e))

  apart_at : (i j : ℕ) → ((is_live s i && is_live s j) && is_aside s i j) ≡ ((ltb i n && ltb j n) && marked job i j)
  apart_at i j =
      ap₂ (λ x y. (x && y) && is_aside s i j) (live_at i) (live_at j)
      ∙ guarded (ltb i n && ltb j n) (is_aside s i j) (marked job i j) (λ e. let h = and_parts (ltb i n) (ltb j n) e in aside_at i j (ltb-true i n h.0) (ltb-true j n h.1))

  pub view_started : view_of s ≡ start job
  unfolding view_of started
  view_started = λ z. record { parts = n; live = λ i. live_at i z; holds = λ i p. holds_at i p z; apart = λ i j. apart_at i j z }

  pub standing_started : standing s ≡ 0
  unfolding started
  standing_started = refl

  pub tidy_started : Laws k → Tidy s
  unfolding started
  tidy_started laws = record {
    well_formed = subst Good (sym view_started) (good_start k job sound);
    made_next = omega (arith, parts_made, ap next view_started, all_below n 0 (width (start job)) (omega (arith, sound.within.0)));
    rows = All-from_get_or (λ (id : Id). length id.apart ≡ max_ids) s.ids.items no_id (λ i h. ap (λ (id : Id). length id.apart) (part_at i (omega (arith, parts_made))) ∙ length-flags max_ids (λ j. ltb j i && marked job i j));
    budget = omega (arith, ap open_count view_started, opens_is (start job), opens_start k laws job sound);
  }
