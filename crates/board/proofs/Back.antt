-- Every board keeps its lists tidy, and taking a step back undoes it exactly.
use Rattle.std.proofs.Common.{◌≡◌, ℕ, zero, suc, ◌+◌, ◌-◌, ◌*◌, ◌<◌, ◌≤◌, Bool, true, false, ◌||◌, ◌≢◌, List, [], ◌∷◌, ◌++◌, length, get_or, set, take, min, max, Some, None, Option, sym, refl, ap, ◌∙◌, subst, subst₂, add-one, arith}
use mathlib.Core.Logic.{∥∥₁_elim, ∥∥₁_map}
use mathlib.Core.HLevel.{Unit-prop, ×_prop}
use native.Mathlib.Bridge.{le_prop}
use base.Stored.{Coded-set, coded_ℕ}
use Rattle.std.proofs.lemmas.List.{get_or-set_same, get_or-set_other, length-set, set-set, set-get_or, length-append, take-append-le, take_all}
use Rattle.std.proofs.lemmas.List.Elements.{All-get_or, All-set, All-push}
use Rattle.std.proofs.lemmas.Option.{slice_get_read}
use Rattle.std.proofs.Math.Seq.{get_or-append_seam}
use Rattle.std.specs.Prelude.{All, slice_get}
use Rattle.std.specs.List.{range_with_len}
use Rattle.std.proofs.lemmas.List.FromFn.{length-range_with_len}
use Rattle.std.proofs.lemmas.Bool.{false_from_ne_true}
use Rattle.job.specs.Job.{max_parts}
use Rattle.view.specs.View.{width, ids, next, is_open}
use Rattle.view.specs.Good.{Good}
use Rattle.view.specs.Law.{open_count}
use Rattle.view.specs.Steps.{joined, separated}
use Rattle.view.specs.declared.Step.{Step}
use Rattle.view.specs.declared.Step.TheVariants.{Join, Separation}
use Rattle.view.proofs.Good.{kept_le, good_joined, good_separated}
use Rattle.view.proofs.Count.{few_pairs, opens, opens_is, fewer_joined, fewer_separated}
use Rattle.board.specs.Sizes.{max_ids, max_steps}
use Rattle.board.specs.State.{made, standing, no_id, id_at, is_aside, view_of}
use Rattle.board.specs.Trail.{joined_id, with_live, with_flag, redone, last_step, undone_by, undone, undone_times, taken_back, Stays, Doable, Undoable, Tidy, Legal, Past, view_after}
use Rattle.board.specs.contracts.state.State.{the_row}
use Rattle.board.specs.declared.state.Id.{Id}
use Rattle.board.specs.declared.state.State.{State}
use Rattle.board.proofs.Flags.{length-flags}
use Rattle.board.proofs.Views.{view_set, few_parts, some_parts, parts_are, live_is, apart_is, open_pair, new_one, made_fits, made_joined, a_below, b_below, view_joined, view_separated}

-- a list that ends in x: its last, and the others
module _ {X : Type 0} (xs : List X) (x : X) where
  last_is : slice_get (xs ++ x ∷ []) (length (xs ++ x ∷ []) - 1) ≡ Some x
  last_is =
      let n : length (xs ++ x ∷ []) - 1 ≡ length xs = omega (arith, length-append xs (x ∷ [])) in
      slice_get_read (xs ++ x ∷ []) _ _ x refl (omega (arith, length-append xs (x ∷ []))) (sym (ap (λ i. get_or (xs ++ x ∷ []) i x) n ∙ get_or-append_seam xs x [] x))

  others_are : take (length (xs ++ x ∷ []) - 1) (xs ++ x ∷ []) ≡ xs
  others_are = take-append-le _ xs (x ∷ []) (omega (arith, length-append xs (x ∷ []))) ∙ take_all _ xs (omega (arith, length-append xs (x ∷ [])))

-- an id made not live, and live again
relit : (l : List Id) (i : ℕ) → i < length l → (get_or l i no_id).live ≡ true → with_live (with_live l i false) i true ≡ l
relit l i h e =
    let id : Id = get_or l i no_id in
    let off : Id = record id { live = false } in
    ap (λ (x : Id). set (set l i off) i (record x { live = true })) (get_or-set_same l i off no_id h)
    ∙ set-set l i off (record id { live = true })
    ∙ ap (set l i) (λ z. record id { live = sym e z })
    ∙ set-get_or l i no_id

-- a flag set, and blank again
unflagged : (l : List Id) (a b : ℕ) → max a b < length l → get_or (get_or l (max a b) no_id).apart (min a b) false ≡ false → with_flag (with_flag l a b true) a b false ≡ l
unflagged l a b h e =
    let hi = max a b in
    let lo = min a b in
    let id : Id = get_or l hi no_id in
    let on : Id = record id { apart = set id.apart lo true } in
    ap (λ (x : Id). set (set l hi on) hi (record x { apart = set x.apart lo false })) (get_or-set_same l hi on no_id h)
    ∙ set-set l hi on (record id { apart = set (set id.apart lo true) lo false })
    ∙ ap (set l hi) (λ z. record id { apart = (set-set id.apart lo true false ∙ ap (set id.apart lo) (sym e) ∙ set-get_or id.apart lo false) z })
    ∙ set-get_or l hi no_id

abbrev Wide : Id → Type 0
Wide id = length id.apart ≡ max_ids

wide_lit : (l : List Id) (i : ℕ) (live : Bool) → i < length l → All Wide l → All Wide (with_live l i live)
wide_lit l i live h all = All-set Wide l i _ (All-get_or Wide l i no_id h all) all

module _ (s : State) (t : Tidy s) (a b : ℕ) (free : is_open (view_of s) a b ≡ true) where
  -- each step that stands took an open pair, so there is room for one more
  pub room : standing s < max_steps
  room = omega (arith, t.budget, opens_is (view_of s), fewer_separated (view_of s) a b t.well_formed (open_pair s t a b free), few_pairs s.parts (few_parts s t))

  abbrev after : State
  after = redone s (Some (Join a b))

  abbrev less : List Id
  less = with_live s.ids.items a false

  length_less : length less ≡ made s
  length_less = length-set s.ids.items a _

  b_in_less : b < length less
  b_in_less = omega (arith, length_less, b_below s t a b free)

  pub undone_joined : undone after ≡ s
  undone_joined =
      let o = open_pair s t a b free in
      let other : b ≢ a = λ e. o.distinct (sym e) in
      let b_on : (get_or less b no_id).live ≡ true = ap (λ (id : Id). id.live) (get_or-set_other s.ids.items a b _ no_id other) ∙ sym (live_is s b) ∙ o.live_b in
      let ids_back = ap (λ l. with_live (with_live l b true) a true) (others_are (with_live less b false) (joined_id s a b)) ∙ ap (λ l. with_live l a true) (relit less b b_in_less b_on) ∙ relit s.ids.items a (a_below s t a b free) (sym (live_is s a) ∙ o.live_a) in
      ap (undone_by after) (last_is s.trail.items (Join a b))
      ∙ (λ z. record { parts = s.parts; ids = record { items = ids_back z }; trail = record { items = others_are s.trail.items (Join a b) z } })

  pub fewer_after : open_count (view_of after) + 1 ≤ open_count (view_of s)
  fewer_after = omega (arith, opens_is (view_of s), opens_is (view_of after), ap opens (view_joined s t a b free), fewer_joined (view_of s) a b t.well_formed (open_pair s t a b free) (new_one s t a b free))

  pub tidy_joined : Tidy after
  tidy_joined = record {
    well_formed = subst Good (sym (view_joined s t a b free)) (good_joined (view_of s) a b t.well_formed (open_pair s t a b free) (new_one s t a b free));
    made_next = omega (arith, t.made_next, made_joined s t a b free, ap next (view_joined s t a b free), (new_one s t a b free).grows);
    rows = All-push Wide (with_live less b false) (joined_id s a b) (wide_lit less b false b_in_less (wide_lit s.ids.items a false (a_below s t a b free) t.rows)) (length-flags max_ids (λ w. is_aside s a w || is_aside s b w));
    budget = omega (arith, t.budget, fewer_after, length-append s.trail.items (Join a b ∷ []));
  }

  abbrev later : State
  later = redone s (Some (Separation a b))

  larger_in : max a b < made s
  larger_in = omega (arith, a_below s t a b free, b_below s t a b free)

  pub undone_separated : undone later ≡ s
  undone_separated =
      let o = open_pair s t a b free in
      let blank : is_aside s a b ≡ false = sym (apart_is s a b o.live_a o.live_b) ∙ o.not_apart in
      ap (undone_by later) (last_is s.trail.items (Separation a b))
      ∙ (λ z. record { parts = s.parts; ids = record { items = unflagged s.ids.items a b larger_in blank z }; trail = record { items = others_are s.trail.items (Separation a b) z } })

  pub fewer_later : open_count (view_of later) + 1 ≤ open_count (view_of s)
  fewer_later = omega (arith, opens_is (view_of s), opens_is (view_of later), ap opens (view_separated s t a b free), fewer_separated (view_of s) a b t.well_formed (open_pair s t a b free))

  pub made_separated : made later ≡ made s
  made_separated = length-set s.ids.items (max a b) _

  pub tidy_separated : Tidy later
  tidy_separated = record {
    well_formed = subst Good (sym (view_separated s t a b free)) (good_separated (view_of s) a b t.well_formed (open_pair s t a b free));
    made_next = made_separated ∙ t.made_next ∙ sym (ap next (view_separated s t a b free) ∙ refl);
    rows = All-set Wide s.ids.items (max a b) _ (length-set (id_at s (max a b)).apart (min a b) true ∙ All-get_or Wide s.ids.items (max a b) no_id larger_in t.rows) t.rows;
    budget = omega (arith, t.budget, fewer_later, length-append s.trail.items (Separation a b ∷ []));
  }

-- A legal step of either kind.
module _ (s : State) (t : Tidy s) where
  tidy_redone : (x : Option Step) → Legal s x → Tidy (redone s x)
  tidy_redone None l = absurd l
  tidy_redone (Some (Join a b)) l = tidy_joined s t a b l
  tidy_redone (Some (Separation a b)) l = tidy_separated s t a b l

  last_redone : (x : Option Step) → Legal s x → last_step (redone s x) ≡ x
  last_redone None l = absurd l
  last_redone (Some step) l = last_is s.trail.items step

  pub undone_redone : (x : Option Step) → Legal s x → undone (redone s x) ≡ s
  undone_redone None l = absurd l
  undone_redone (Some (Join a b)) l = undone_joined s t a b l
  undone_redone (Some (Separation a b)) l = undone_separated s t a b l

  pub fewer_redone : (x : Option Step) → Legal s x → open_count (view_of (redone s x)) < open_count (view_of s)
  fewer_redone None l = absurd l
  fewer_redone (Some (Join a b)) l = omega (arith, fewer_after s t a b l)
  fewer_redone (Some (Separation a b)) l = omega (arith, fewer_later s t a b l)

  pub room_for : (x : Option Step) → Legal s x → standing s < max_steps
  room_for None l = absurd l
  room_for (Some (Join a b)) l = room s t a b l
  room_for (Some (Separation a b)) l = room s t a b l

pub standing_redone : (s : State) (x : Option Step) → Legal s x → standing (redone s x) ≡ standing s + 1
standing_redone s None l = absurd l
standing_redone s (Some step) l = length-append s.trail.items (step ∷ [])

-- every state with a past is tidy
pub past_tidy : (k : ℕ) (s : State) → Past k s → Tidy s
past_tidy zero s p = p.0
past_tidy (suc k) s p = subst Tidy (sym p.2) (tidy_redone (undone s) (past_tidy k (undone s) p.0) (last_step s) p.1)

pub past_standing : (k : ℕ) (s : State) → Past k s → standing s ≡ k
past_standing zero s p = p.1
past_standing (suc k) s p = ap standing p.2 ∙ standing_redone (undone s) (last_step s) p.1 ∙ ap (λ n. n + 1) (past_standing k (undone s) p.0) ∙ add-one k

past_more : (k : ℕ) (s : State) (x : Option Step) → Past k s → Legal s x → Past (suc k) (redone s x)
past_more k s x p l =
    let t = past_tidy k s p in
    let P : State → Option Step → Type 0 = λ u y. Past k u × Legal u y × (redone s x ≡ redone u y) in
    subst₂ P (sym (undone_redone s t x l)) (sym (last_redone s t x l)) (p, l, refl)

undoable_redone : (u : State) (x : Option Step) → Tidy u → Legal u x → Undoable (redone u x) x
undoable_redone u None t l = absurd l
undoable_redone u (Some (Join a b)) t l =
    let la = a_below u t a b l in
    let lb = b_below u t a b l in
    let n = made_joined u t a b l in
    (omega arith, omega arith)
undoable_redone u (Some (Separation a b)) t l =
    let la = a_below u t a b l in
    let lb = b_below u t a b l in
    let n = made_separated u t a b l in
    (omega arith, omega arith)

record Undoes (s : State) : Type 0 where
  pub able : Undoable s (last_step s)
  pub fewer : standing (undone s) + 1 ≡ standing s
  pub past : Past (standing (undone s)) (undone s)

undoes : (s : State) → 0 < standing s → Past (standing s) s → Undoes s
undoes s h q =
    let n : standing s ≡ suc (standing s - 1) = omega arith in
    let p : Past (suc (standing s - 1)) s = subst (λ k. Past k s) n q in
    let t = past_tidy (standing s - 1) (undone s) p.0 in
    let st = past_standing (standing s - 1) (undone s) p.0 in
    record {
      able = subst (λ u. Undoable u (last_step s)) (sym p.2) (undoable_redone (undone s) (last_step s) t p.1);
      fewer = omega (arith, st);
      past = subst (λ k. Past k (undone s)) (sym st) p.0;
    }

undoable_prop : (s : State) (x : Option Step) → IsProp (Undoable s x)
undoable_prop s None = Unit-prop
undoable_prop s (Some (Join a b)) = ×_prop le_prop le_prop
undoable_prop s (Some (Separation a b)) = ×_prop le_prop le_prop

-- What a step adds is taken back on the way to any earlier mark.
pub back_one : (mark : ℕ) (s t : State) → undone t ≡ s → standing t ≡ standing s + 1 → mark ≤ standing s → taken_back mark t ≡ taken_back mark s
back_one mark s t e f h =
    let n : standing t - mark ≡ suc (standing s - mark) = omega (arith, f) in
    ap (λ k. undone_times k t) n ∙ ap (undone_times (standing s - mark)) e

pub back_none : (mark : ℕ) (s : State) → standing s ≤ mark → taken_back mark s ≡ s
back_none mark s h = let n : standing s - mark ≡ 0 = omega arith in ap (λ k. undone_times k s) n

pub stays_step : (s t : State) → undone t ≡ s → standing t ≡ standing s + 1 → Stays s t
stays_step s t e f = record { grows = omega (arith, f); back_to = λ mark h. back_one mark s t e f h }

pub stays_same : (s t : State) → t ≡ s → Stays s t
stays_same s t e = subst (Stays s) (sym e) (record { grows = omega arith; back_to = λ mark h. refl })

pub stays_on : (s t u : State) → Stays s t → Stays t u → Stays s u
stays_on s t u x y = record { grows = omega (arith, x.grows, y.grows); back_to = λ mark h. y.back_to mark (omega (arith, x.grows)) ∙ x.back_to mark h }

-- For a caller: a trial opened on s stood at t, came back as u, and was let go as v.
pub let_go : (mark : ℕ) (s t u v : State) → Stays s t → mark ≡ standing s → Stays t u → v ≡ taken_back mark u → v ≡ s
let_go mark s t u v x e y g = let z = stays_on s t u x y in g ∙ z.back_to mark (omega (arith, e)) ∙ back_none mark s (omega (arith, e))

-- The same of a state whose past is known to be there, and not which.
module _ (s : State) (p : ∥ Past (standing s) s ∥₁) where
  pub undo_able : 0 < standing s → Undoable s (last_step s)
  undo_able h = ∥∥₁_elim p (undoable_prop s (last_step s)) (λ q. (undoes s h q).able)

  -- t is s with its last step taken back
  module _ (h : 0 < standing s) (t : State) (is : t ≡ undone s) where
    pub undo_past : ∥ Past (standing t) t ∥₁
    undo_past = subst (λ (u : State). ∥ Past (standing u) u ∥₁) (sym is) (∥∥₁_map p (λ q. (undoes s h q).past))

  pub some_by_past : 1 ≤ s.parts
  some_by_past = ∥∥₁_elim p le_prop (λ q. some_parts s (past_tidy (standing s) s q))

  pub few_by_past : s.parts ≤ max_parts
  few_by_past = ∥∥₁_elim p le_prop (λ q. few_parts s (past_tidy (standing s) s q))

  module _ (x : Option Step) (l : Legal s x) where
    pub step_room : standing s < max_steps
    step_room = ∥∥₁_elim p le_prop (λ q. room_for s (past_tidy (standing s) s q) x l)

    -- t is s after that step
    module _ (t : State) (is : t ≡ redone s x) where
      pub step_past : ∥ Past (standing t) t ∥₁
      step_past = subst (λ (u : State). ∥ Past (standing u) u ∥₁) (sym is) (∥∥₁_map p (λ q. subst (λ k. Past k (redone s x)) (sym (standing_redone s x l ∙ add-one (standing s))) (past_more (standing s) s x q l)))

      pub step_fewer : open_count (view_of t) < open_count (view_of s)
      step_fewer = ∥∥₁_elim p le_prop (λ q. subst (λ (u : State). open_count (view_of u) < open_count (view_of s)) (sym is) (fewer_redone s (past_tidy (standing s) s q) x l))

      pub step_stays : Stays s t
      step_stays = subst (Stays s) (sym is) (stays_step s (redone s x) (∥∥₁_elim p (Coded-set the_row.coded _ _) (λ q. undone_redone s (past_tidy (standing s) s q) x l)) (standing_redone s x l))

  module _ (a b : ℕ) (free : is_open (view_of s) a b ≡ true) where
    pub a_in : a < made s
    a_in = ∥∥₁_elim p le_prop (λ q. a_below s (past_tidy (standing s) s q) a b free)

    pub b_in : b < made s
    b_in = ∥∥₁_elim p le_prop (λ q. b_below s (past_tidy (standing s) s q) a b free)

    pub next_fits : next (view_of s) < width (view_of s)
    next_fits = ∥∥₁_elim p le_prop (λ q. (new_one s (past_tidy (standing s) s q) a b free).fits)

    pub made_in : made s < max_ids
    made_in = ∥∥₁_elim p le_prop (λ q. made_fits s (past_tidy (standing s) s q) a b free)

    pub step_joined : view_of (redone s (Some (Join a b))) ≡ joined (view_of s) a b
    step_joined = ∥∥₁_elim p (view_set _ _) (λ q. view_joined s (past_tidy (standing s) s q) a b free)

    pub step_separated : view_of (redone s (Some (Separation a b))) ≡ separated (view_of s) a b
    step_separated = ∥∥₁_elim p (view_set _ _) (λ q. view_separated s (past_tidy (standing s) s q) a b free)

  pub step_able : (x : Step) → Legal s (Some x) → Doable s x
  step_able (Join a b) free = (a_in a b free, (b_in a b free, (made_in a b free, step_room (Some (Join a b)) free)))
  step_able (Separation a b) free = (a_in a b free, (b_in a b free, step_room (Some (Separation a b)) free))

  pub step_view : (x : Step) → Legal s (Some x) → view_of (redone s (Some x)) ≡ view_after (view_of s) x
  step_view (Join a b) free = step_joined a b free
  step_view (Separation a b) free = step_separated a b free

  -- what the view says of live ids, and of how many they are
  pub live_width : (i : ℕ) → (view_of s).live i ≡ true → i < width (view_of s)
  live_width i e = ∥∥₁_elim p le_prop (λ q. (past_tidy (standing s) s q).well_formed.live_in i e)

  pub next_unused : (view_of s).live (next (view_of s)) ≡ false
  next_unused = false_from_ne_true ((view_of s).live (next (view_of s))) (λ e. ∥∥₁_elim p (λ x. absurd x) (λ q. let l = (past_tidy (standing s) s q).well_formed.live_below (next (view_of s)) e in let no : ⊥ = omega arith in no))

  pub live_counted : (made s ≤ 2 * s.parts) × (2 * s.parts - made s ≡ length (ids (view_of s)))
  live_counted = ∥∥₁_elim p (×_prop le_prop (Coded-set coded_ℕ _ _)) (λ q.
      let t = past_tidy (standing s) s q in
      let n = kept_le (view_of s).live (range_with_len 0 (width (view_of s))) in
      let c = length-range_with_len 0 (width (view_of s)) in
      let m = t.made_next in
      let e = parts_are s in
      (omega arith, omega arith))

  pub made_is : made s ≡ next (view_of s)
  made_is = ∥∥₁_elim p (Coded-set coded_ℕ _ _) (λ q. (past_tidy (standing s) s q).made_next)
