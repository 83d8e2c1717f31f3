-- A step on what a board holds is that step on the view.
use Rattle.std.proofs.Common.{◌≡◌, ℕ, ◌+◌, ◌<◌, ◌≤◌, Bool, true, false, cond, not, ◌&&◌, ◌||◌, eqb, ◌≢◌, ◌⊎◌, List, [], ◌∷◌, ◌++◌, length, get_or, set, min, max, Some, sym, refl, ap, ◌∙◌, ap₂, inl, inr, arith}
use mathlib.Core.Bool.{Bool-set}
use mathlib.Core.HLevel.{→_set}
use base.Stored.{Coded-set, coded_ℕ}
use Rattle.std.proofs.Math.Bool.{or-false, and-true}
use Rattle.std.proofs.Math.Nat.{max_comm, min_comm}
use Rattle.std.proofs.Math.Seq.{get_or-append_seam}
use Rattle.std.proofs.lemmas.List.{get_or-set_same, get_or-set_other, length-set, set_past, get_or_past, length-append}
use Rattle.std.proofs.lemmas.Grind.{common_steps}
use Rattle.std.proofs.lemmas.List.Elements.{All-get_or}
use Rattle.std.proofs.lemmas.Bool.{cases_eq, cond-true, cond-false, eq-eqb, ne_eqb, and_from, and_parts, and_left, and_right, or_cases, or_right}
use Rattle.job.specs.Job.{max_parts}
use Rattle.view.specs.View.{View, next, is_open}
use Rattle.view.specs.Steps.{is_other, joined_apart, joined, separated}
use Rattle.view.specs.declared.Step.TheVariants.{Join, Separation}
use Rattle.view.proofs.Good.{Open, open_is, New, new_id, other_facts}
use Rattle.board.specs.Sizes.{max_ids}
use Rattle.board.specs.State.{made, no_id, id_at, is_live, is_member, is_aside, view_of}
use Rattle.board.specs.Trail.{joined_id, with_live, redone, Tidy}
use Rattle.board.specs.declared.state.Id.{Id}
use Rattle.board.specs.declared.state.State.{State}
use Rattle.board.proofs.Flags.{flag_is}

-- two proofs that views are equal are one
pub view_set : IsSet View
view_set v w p q = λ k i. record {
  parts = Coded-set coded_ℕ v.parts w.parts (λ z. (p z).parts) (λ z. (q z).parts) k i;
  live = →_set Bool-set v.live w.live (λ z. (p z).live) (λ z. (q z).live) k i;
  holds = →_set (→_set Bool-set) v.holds w.holds (λ z. (p z).holds) (λ z. (q z).holds) k i;
  apart = →_set (→_set Bool-set) v.apart w.apart (λ z. (p z).apart) (λ z. (q z).apart) k i;
}

-- one id written anew: what it has as before, every id has as before
pub kept : {X : Type 0} (f : Id → X) (ids : List Id) (i : ℕ) (id : Id) → f id ≡ f (get_or ids i no_id) → (k : ℕ) → f (get_or (set ids i id) k no_id) ≡ f (get_or ids k no_id)
kept f ids i id same k = grind (arith, common_steps, set_past)

live_written : (ids : List Id) (i : ℕ) (live : Bool) (k : ℕ) → i < length ids → (get_or (with_live ids i live) k no_id).live ≡ cond (eqb k i) live (get_or ids k no_id).live
live_written ids i live k h = grind (arith, common_steps)

flag_written : (row : List Bool) (i k : ℕ) → i < length row → get_or (set row i true) k false ≡ (get_or row k false || eqb k i)
flag_written row i k h = grind (arith, common_steps)

before_last : {X : Type 0} (xs : List X) (x d : X) (i : ℕ) → i ≢ length xs → get_or (xs ++ x ∷ []) i d ≡ get_or xs i d
before_last xs x d i other = grind (arith, common_steps)

-- two tests under a third need be equal only where that one passes
pub guarded : (guard x y : Bool) → (guard ≡ true → x ≡ y) → (guard && x) ≡ (guard && y)
guarded true x y e = e refl
guarded false x y e = refl

-- a test made wider by one that passes only where the guard does
widened : (guard x more : Bool) → (more ≡ true → guard ≡ true) → (guard && (x || more)) ≡ ((guard && x) || more)
widened guard x more h = grind arith

-- off where either was turned off
off_both : (x p q : Bool) → cond q false (cond p false x) ≡ (x && (not p && not q))
off_both x p q = grind arith

same_pair : (i j a b : ℕ) → (eqb (max i j) (max a b) && eqb (min i j) (min a b)) ≡ ((eqb i a && eqb j b) || (eqb i b && eqb j a))
same_pair i j a b = grind arith

-- what the view says of live ids, as the lists have it
module _ (s : State) where
  pub live_is : (i : ℕ) → (view_of s).live i ≡ is_live s i
  unfolding view_of
  live_is i = refl

  pub apart_is : (i j : ℕ) → (view_of s).live i ≡ true → (view_of s).live j ≡ true → (view_of s).apart i j ≡ is_aside s i j
  unfolding view_of
  apart_is i j p q = ap (λ t. t && is_aside s i j) (and_from (is_live s i) (is_live s j) p q)

  pub holds_is : (i p : ℕ) → (view_of s).live i ≡ true → (view_of s).holds i p ≡ is_member s i p
  unfolding view_of
  holds_is i p e = ap (λ t. t && is_member s i p) e

  pub parts_are : (view_of s).parts ≡ s.parts
  unfolding view_of
  parts_are = refl

  pub aside_symmetric : (i j : ℕ) → is_aside s i j ≡ is_aside s j i
  aside_symmetric i j = ap₂ (λ n k. get_or (id_at s n).apart k false) (max_comm i j) (min_comm i j)

  -- nothing is apart from an id that was not made
  aside_none : (i : ℕ) → is_aside s i (made s) ≡ false
  aside_none i = ap (λ id. get_or id.apart (min i (made s)) false) (get_or_past s.ids.items (max i (made s)) no_id (omega arith))

  module _ (t : Tidy s) where
    pub live_below : (i : ℕ) → (view_of s).live i ≡ true → i < made s
    live_below i e = omega (arith, t.well_formed.live_below i e, t.made_next)

    pub few_parts : s.parts ≤ max_parts
    unfolding view_of
    few_parts = t.well_formed.few

    pub some_parts : 1 ≤ s.parts
    unfolding view_of
    some_parts = t.well_formed.some

module _ (s : State) (t : Tidy s) (a b : ℕ) (free : is_open (view_of s) a b ≡ true) where
  abbrev v : View
  v = view_of s

  pub open_pair : Open v a b
  open_pair = open_is v a b free

  pub new_one : New v a b
  new_one = new_id v a b t.well_formed open_pair

  pub made_fits : made s < max_ids
  made_fits = omega (arith, new_one.fits, t.made_next, few_parts s t, parts_are s)

  pub a_below : a < made s
  a_below = live_below s t a open_pair.live_a

  pub b_below : b < made s
  b_below = live_below s t b open_pair.live_b

  abbrev after : State
  after = redone s (Some (Join a b))

  other_below : (i : ℕ) → is_other v a b i ≡ true → i < made s
  other_below i q = live_below s t i (other_facts v a b i q).0

  -- the ids before the new one
  abbrev rest : List Id
  rest = with_live (with_live s.ids.items a false) b false

  length_rest : length rest ≡ made s
  length_rest = length-set (with_live s.ids.items a false) b _ ∙ length-set s.ids.items a _

  pub made_joined : made after ≡ made s + 1
  made_joined = omega (arith, length-append rest (joined_id s a b ∷ []), length_rest)

  at_new : id_at after (made s) ≡ joined_id s a b
  at_new = ap (λ n. get_or (rest ++ joined_id s a b ∷ []) n no_id) (sym length_rest) ∙ get_or-append_seam rest (joined_id s a b) [] no_id

  elsewhere : (i : ℕ) → i ≢ made s → id_at after i ≡ get_or rest i no_id
  elsewhere i d = before_last rest (joined_id s a b) no_id i (λ e. d (e ∙ length_rest))

  stays : {X : Type 0} (f : Id → X) → ((id : Id) → f (record id { live = false }) ≡ f id) → (i : ℕ) → i ≢ made s → f (id_at after i) ≡ f (id_at s i)
  stays f same i d = ap f (elsewhere i d) ∙ kept f (with_live s.ids.items a false) b _ (same _) i ∙ kept f s.ids.items a _ (same _) i

  live_at_new : is_live after (made s) ≡ true
  live_at_new = ap (λ id. id.live) at_new

  live_elsewhere : (i : ℕ) → i ≢ made s → is_live after i ≡ is_other v a b i
  live_elsewhere i d =
      ap (λ id. id.live) (elsewhere i d)
      ∙ live_written (with_live s.ids.items a false) b false i (omega (arith, length-set s.ids.items a (record (id_at s a) { live = false }), b_below))
      ∙ ap (cond (eqb i b) false) (live_written s.ids.items a false i a_below)
      ∙ off_both (is_live s i) (eqb i a) (eqb i b)
      ∙ ap (λ x. x && (not (eqb i a) && not (eqb i b))) (sym (live_is s i))

  member_new : (p : ℕ) → is_member after (made s) p ≡ (v.holds a p || v.holds b p)
  member_new p =
      ap (λ id. get_or id.members p false) at_new ∙ flag_is max_parts (λ q. is_member s a q || is_member s b q) p (λ e. go (or_cases _ _ e))
      ∙ sym (ap₂ ◌||◌ (holds_is s a p open_pair.live_a) (holds_is s b p open_pair.live_b))
    where
      below : (i : ℕ) → v.live i ≡ true → is_member s i p ≡ true → p < max_parts
      below i l e = omega (arith, t.well_formed.holds_part i p (holds_is s i p l ∙ e), few_parts s t, parts_are s)

      go : (is_member s a p ≡ true) ⊎ (is_member s b p ≡ true) → p < max_parts
      go (inl e) = below a open_pair.live_a e
      go (inr e) = below b open_pair.live_b e

  aside_new : (i : ℕ) → i ≤ made s → is_aside after i (made s) ≡ (is_aside s a i || is_aside s b i)
  aside_new i h =
      let larger : max i (made s) ≡ made s = omega arith in
      let smaller : min i (made s) ≡ i = omega arith in
      ap₂ (λ n k. get_or (id_at after n).apart k false) larger smaller ∙ ap (λ id. get_or id.apart i false) at_new
      ∙ flag_is max_ids (λ w. is_aside s a w || is_aside s b w) i (λ _. omega (arith, made_fits))

  aside_self : is_aside after (made s) (made s) ≡ false
  aside_self = aside_new (made s) (omega arith) ∙ ap₂ ◌||◌ (aside_none s a) (aside_none s b)

  aside_kept : (i j : ℕ) → i < made s → j < made s → is_aside after i j ≡ is_aside s i j
  aside_kept i j h m = let d : max i j ≢ made s = omega arith in ap (λ (l : List Bool). get_or l (min i j) false) (stays (λ id. id.apart) (λ _. refl) (max i j) d)

  live_after : (i : ℕ) → is_live after i ≡ (joined v a b).live i
  live_after i = go (cases_eq i (made s))
    where
      go : (i ≡ made s) ⊎ (i ≢ made s) → is_live after i ≡ (joined v a b).live i
      go (inl e) = ap (is_live after) e ∙ live_at_new ∙ sym (or_right (is_other v a b i) (eqb i (next v)) (eq-eqb i (next v) (e ∙ t.made_next)))
      go (inr d) = live_elsewhere i d ∙ sym (ap (λ x. is_other v a b i || x) (ne_eqb i (next v) (λ e. d (e ∙ sym t.made_next))) ∙ or-false (is_other v a b i))

  holds_after : (i p : ℕ) → (is_live after i && is_member after i p) ≡ (joined v a b).holds i p
  holds_after i p = go (cases_eq i (made s))
    where
      go : (i ≡ made s) ⊎ (i ≢ made s) → (is_live after i && is_member after i p) ≡ (joined v a b).holds i p
      go (inl e) =
          ap₂ (λ x y. x && y) (ap (is_live after) e ∙ live_at_new) (ap (λ j. is_member after j p) e ∙ member_new p)
          ∙ sym (cond-true (eqb i (next v)) _ _ (eq-eqb i (next v) (e ∙ t.made_next)))
      go (inr d) =
          ap₂ (λ x y. x && y) (live_elsewhere i d) (ap (λ (l : List Bool). get_or l p false) (stays (λ id. id.members) (λ _. refl) i d))
          ∙ guarded (is_other v a b i) (is_member s i p) (v.holds i p) (λ q. sym (holds_is s i p (other_facts v a b i q).0))
          ∙ sym (cond-false (eqb i (next v)) _ _ (ne_eqb i (next v) (λ e. d (e ∙ sym t.made_next))))

  -- the new id and another one
  beside : (j : ℕ) (x : Bool) → (is_other v a b j ≡ true → x ≡ (is_aside s a j || is_aside s b j)) → (is_other v a b j && x) ≡ (is_other v a b j && joined_apart v a b j)
  beside j x h = guarded (is_other v a b j) x (joined_apart v a b j) (λ q. h q ∙ sym (ap₂ ◌||◌ (apart_is s a j open_pair.live_a (other_facts v a b j q).0) (apart_is s b j open_pair.live_b (other_facts v a b j q).0)))

  apart_after : (i j : ℕ) → ((is_live after i && is_live after j) && is_aside after i j) ≡ (joined v a b).apart i j
  apart_after i j = go (cases_eq i (made s)) (cases_eq j (made s))
    where
      at_next : (k : ℕ) → k ≡ made s → eqb k (next v) ≡ true
      at_next k e = eq-eqb k (next v) (e ∙ t.made_next)

      off_next : (k : ℕ) → k ≢ made s → eqb k (next v) ≡ false
      off_next k d = ne_eqb k (next v) (λ e. d (e ∙ sym t.made_next))

      both : ((is_other v a b i && is_other v a b j) && is_aside after i j) ≡ ((is_other v a b i && is_other v a b j) && v.apart i j)
      both = guarded (is_other v a b i && is_other v a b j) (is_aside after i j) (v.apart i j) (λ q.
          let o = and_parts (is_other v a b i) (is_other v a b j) q in
          aside_kept i j (other_below i o.0) (other_below j o.1) ∙ sym (apart_is s i j (other_facts v a b i o.0).0 (other_facts v a b j o.1).0))

      go : (i ≡ made s) ⊎ (i ≢ made s) → (j ≡ made s) ⊎ (j ≢ made s) → ((is_live after i && is_live after j) && is_aside after i j) ≡ (joined v a b).apart i j
      go (inl e) (inl f) =
          and_right (is_live after i && is_live after j) (is_aside after i j) (ap₂ (is_aside after) e f ∙ aside_self)
          ∙ sym (cond-true (eqb i (next v)) _ _ (at_next i e) ∙ and_left (is_other v a b j) _ (ap (is_other v a b) (f ∙ t.made_next) ∙ new_one.no_other))
      go (inl e) (inr d) =
          ap (λ x. (x && is_live after j) && is_aside after i j) (ap (is_live after) e ∙ live_at_new)
          ∙ ap (λ x. x && is_aside after i j) (live_elsewhere j d)
          ∙ beside j (is_aside after i j) (λ q. ap (λ k. is_aside after k j) e ∙ aside_symmetric after (made s) j ∙ aside_new j (let h = other_below j q in omega arith))
          ∙ sym (cond-true (eqb i (next v)) _ _ (at_next i e))
      go (inr d) (inl f) =
          ap (λ x. (is_live after i && x) && is_aside after i j) (ap (is_live after) f ∙ live_at_new)
          ∙ ap (λ x. x && is_aside after i j) (and-true (is_live after i) ∙ live_elsewhere i d)
          ∙ beside i (is_aside after i j) (λ q. ap (is_aside after i) f ∙ aside_new i (let h = other_below i q in omega arith))
          ∙ sym (cond-false (eqb i (next v)) _ _ (off_next i d) ∙ cond-true (eqb j (next v)) _ _ (at_next j f))
      go (inr d) (inr f) =
          ap₂ (λ x y. (x && y) && is_aside after i j) (live_elsewhere i d) (live_elsewhere j f)
          ∙ both
          ∙ sym (cond-false (eqb i (next v)) _ _ (off_next i d) ∙ cond-false (eqb j (next v)) _ _ (off_next j f))

  pub view_joined : view_of after ≡ joined v a b
  unfolding view_of
  view_joined = λ z. record { parts = s.parts; live = λ i. live_after i z; holds = λ i p. holds_after i p z; apart = λ i j. apart_after i j z }

  abbrev later : State
  later = redone s (Some (Separation a b))

  abbrev is_pair : ℕ → ℕ → Bool
  is_pair i j = (eqb i a && eqb j b) || (eqb i b && eqb j a)

  keeps : {X : Type 0} (f : Id → X) → ((id : Id) (row : List Bool) → f (record id { apart = row }) ≡ f id) → (i : ℕ) → f (id_at later i) ≡ f (id_at s i)
  keeps f same = kept f s.ids.items (max a b) _ (same _ _)

  flag_later : (i j : ℕ) → get_or (id_at later i).apart j false ≡ (get_or (id_at s i).apart j false || (eqb i (max a b) && eqb j (min a b)))
  flag_later i j = go (cases_eq i (max a b))
    where
      below : max a b < made s
      below = omega (arith, a_below, b_below)

      room : min a b < length (id_at s (max a b)).apart
      room = omega (arith, All-get_or (λ id. length id.apart ≡ max_ids) s.ids.items (max a b) no_id below t.rows, a_below, made_fits)

      go : (i ≡ max a b) ⊎ (i ≢ max a b) → get_or (id_at later i).apart j false ≡ (get_or (id_at s i).apart j false || (eqb i (max a b) && eqb j (min a b)))
      go (inl e) =
          ap (λ n. get_or (id_at later n).apart j false) e
          ∙ ap (λ id. get_or id.apart j false) (get_or-set_same s.ids.items (max a b) _ no_id below)
          ∙ flag_written (id_at s (max a b)).apart (min a b) j room
          ∙ ap₂ (λ n x. get_or (id_at s n).apart j false || (x && eqb j (min a b))) (sym e) (sym (eq-eqb i (max a b) e))
      go (inr d) =
          ap (λ id. get_or id.apart j false) (get_or-set_other s.ids.items (max a b) i _ no_id d)
          ∙ sym (ap (λ x. get_or (id_at s i).apart j false || x) (and_left (eqb i (max a b)) _ (ne_eqb i (max a b) d)) ∙ or-false _)

  aside_later : (i j : ℕ) → is_aside later i j ≡ (is_aside s i j || is_pair i j)
  aside_later i j = flag_later (max i j) (min i j) ∙ ap (λ x. is_aside s i j || x) (same_pair i j a b)

  live_later : (i : ℕ) → is_live later i ≡ is_live s i
  live_later = keeps (λ id. id.live) (λ _ _. refl)

  holds_later : (i p : ℕ) → (is_live later i && is_member later i p) ≡ (is_live s i && is_member s i p)
  holds_later i p = ap₂ ◌&&◌ (live_later i) (ap (λ (l : List Bool). get_or l p false) (keeps (λ id. id.members) (λ _ _. refl) i))

  pair_live : (i j : ℕ) → is_pair i j ≡ true → (is_live s i && is_live s j) ≡ true
  pair_live i j e = let la = sym (live_is s a) ∙ open_pair.live_a in let lb = sym (live_is s b) ∙ open_pair.live_b in grind arith

  apart_later : (i j : ℕ) → ((is_live later i && is_live later j) && is_aside later i j) ≡ (separated v a b).apart i j
  unfolding view_of
  apart_later i j =
      ap₂ ◌&&◌ (ap₂ ◌&&◌ (live_later i) (live_later j)) (aside_later i j)
      ∙ widened (is_live s i && is_live s j) (is_aside s i j) (is_pair i j) (pair_live i j)

  pub view_separated : view_of later ≡ separated v a b
  unfolding view_of
  view_separated = λ z. record { parts = s.parts; live = λ i. live_later i z; holds = λ i p. holds_later i p z; apart = λ i j. apart_later i j z }
