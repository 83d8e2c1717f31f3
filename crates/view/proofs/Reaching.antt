-- What every reached board keeps, by the steps that lead to it.
use Rattle.std.proofs.Common.{◌≡◌, ℕ, ◌+◌, ◌*◌, ◌<◌, ◌≤◌, true, false, cond, ◌&&◌, eqb, ltb, ◌⊎◌, List, ◌++◌, map, length, sym, refl, ap, ◌∙◌, subst, ap₂, inl, inr, mul-le-mul_right, add-mul, arith}
use Rattle.std.proofs.ByRecursion.{All-weaker}
use Rattle.std.proofs.lemmas.Bool.{cond-true, cond-false, cases_Bool, cases_eq, and_parts, and_from, ltb-true, lt-ltb, eq-eqb}
use Rattle.amount.specs.Kind.{Kind, Laws, span_limit}
use Rattle.amount.specs.Totals.{total, spans}
use Rattle.amount.proofs.Totals.{span_total, spans_map_le}
use Rattle.amount.proofs.Signs.{span_positive_part}
use Rattle.job.specs.Grouping.{Respects}
use Rattle.job.specs.Job.{Job, marked, max_span, Sound}
use Rattle.job.specs.Cost.{separating_term, joining_term, cost}
use Rattle.job.specs.Tests.{pairs}
use Rattle.job.proofs.Exact.{narrow_at}
use Rattle.view.specs.View.{View, width, is_open, Roomy, amount_in}
use Rattle.view.specs.Steps.{start, others, loaded_cells, load_booked, joined, joined_cells, join_booked, separated, separation_booked}
use Rattle.view.specs.Reached.{Agree, Reached, by_load, by_join, by_separation, by_agreement}
use Rattle.view.specs.Remaining.{RespectsBoard, share, remaining}
use Rattle.view.specs.Law.{pair_count, most_spans, BookedAndRemaining, ReachedKeeps}
use Rattle.view.proofs.Like.{vals, spans_like}
use Rattle.view.proofs.Split.{split_before}
use Rattle.view.specs.Good.{Good}
use Rattle.view.proofs.Good.{Open, open_is, New, new_id, good_joined, good_separated}
use Rattle.view.proofs.Start.{good_start, amount_loaded, pairs_rise}
use Rattle.view.specs.View.{live_amount}
use Rattle.view.proofs.Due.{live_none, live_swap, open_due, due_under, spans_map_under, map_same, map_alike, remaining_due}
use Rattle.view.proofs.Joining.{symmetric_joined}
use Rattle.view.proofs.JoinLaw.{narrower, booked_under, remaining_joined}
use Rattle.view.proofs.SeparationLaw.{remaining_separated}
use Rattle.view.proofs.LoadLaw.{spans_near, cost_start}
use Rattle.view.proofs.Count.{length_pairs, few_pairs, opens, opens_is, opens_start, fewer_joined, fewer_separated}
use Rattle.view.proofs.Respect.{unjoined, unseparated, either_step}

module _ {A : Type 0} (k : Kind A) (laws : Laws k) where
  abbrev all_live : View → List A → ℕ
  all_live v cells = spans k (map (λ p. live_amount k v cells p.0 p.1) (pairs (width v)))

  -- the most that the amounts of a job's pairs span together
  abbrev most : Job A → ℕ
  most = most_spans

  record Inside (job : Job A) (v : View) (cells : List A) (booked : A) : Type 0 where
    pub good : Good v
    pub sound : Sound k job
    pub parts_same : v.parts ≡ job.parts
    pub symmetric : (i j : ℕ) → v.live i ≡ true → v.live j ≡ true → amount_in k v cells i j ≡ amount_in k v cells j i
    pub narrow : all_live v cells ≤ most job
    -- each open pair may still book as much as all
    pub booked_narrow : k.span booked + opens v * most job ≤ pair_count job.parts * most job
    pub marks : (labels : List ℕ) → RespectsBoard v labels → Respects job labels
    pub law : (labels : List ℕ) → RespectsBoard v labels → cost k job labels ≡ k.sum booked (remaining k v cells labels)

  record Small (job : Job A) : Type 0 where
    pub few : pair_count job.parts ≤ 496
    pub all : pair_count job.parts * most job ≤ 246016000000

  small : (job : Job A) → Sound k job → Small job
  small job s =
      let few : pair_count job.parts ≤ 496 = few_pairs job.parts s.within.1 in
      let b : most job ≤ 496000000 = omega arith in
      let c : pair_count job.parts * most job ≤ 496 * most job = mul-le-mul_right (most job) few in
      record { few = few; all = omega arith }

  remaining_span : (v : View) (cells : List A) (labels : List ℕ) → 2 * all_live v cells ≤ span_limit → k.span (remaining k v cells labels) ≤ all_live v cells
  remaining_span v cells labels h =
      let under : spans k (map (λ p. open_due k v cells labels p.0 p.1) (pairs (width v))) ≤ all_live v cells = spans_map_under k laws (λ p. open_due k v cells labels p.0 p.1) (λ p. live_amount k v cells p.0 p.1) (pairs (width v)) (λ p. due_under k laws v cells labels p.0 p.1) in
      omega (arith, ap k.span (remaining_due k laws v cells labels h), span_total k laws (map (λ p. open_due k v cells labels p.0 p.1) (pairs (width v))) (omega arith))

  -- a step: what it books moves from what remains to what is booked
  stepped : (c b s r r' : A) → k.span b + k.span s + k.span r' ≤ span_limit → c ≡ k.sum b r → r ≡ k.sum s r' → c ≡ k.sum (k.sum b s) r'
  stepped c b s r r' h e f = e ∙ ap (k.sum b) f ∙ sym (laws.associates b s r' h)

  one_less : (m n c : ℕ) → m + 1 ≤ n → m * c + c ≤ n * c
  one_less m n c h = omega (arith, mul-le-mul_right c h, add-mul m 1 c)

  loads : (job : Job A) (cells : List A) → Sound k job → Roomy (start job) cells → Inside job (start job) (loaded_cells k job cells) (load_booked k job)
  loads job cells s room = record {
    good = good_start k job s;
    sound = s;
    parts_same = refl;
    symmetric = λ i j p q. amount_loaded k job s cells room i j (ltb-true i job.parts p) (ltb-true j job.parts q) ∙ s.mirrored.square_symmetric i j (ltb-true i job.parts p) (ltb-true j job.parts q) ∙ sym (amount_loaded k job s cells room j i (ltb-true j job.parts q) (ltb-true i job.parts p));
    narrow =
        let each : spans k (map (λ p. live_amount k (start job) (loaded_cells k job cells) p.0 p.1) (pairs job.parts)) ≤ length (pairs job.parts) * max_span = spans_map_le k laws (λ p. live_amount k (start job) (loaded_cells k job cells) p.0 p.1) max_span (pairs job.parts) (λ p. one p.0 p.1) in
        omega (arith, spans_near k laws job s (live_amount k (start job) (loaded_cells k job cells)) (live_none k laws (start job) (loaded_cells k job cells)), length_pairs job.parts);
    booked_narrow = omega (arith, laws.span_zero, mul-le-mul_right (most job) (opens_start k laws job s));
    marks = λ labels r i j p q m. r.across_apart i j i j (and_from (ltb i job.parts && ltb j job.parts) (marked job i j) (and_from (ltb i job.parts) (ltb j job.parts) (lt-ltb i job.parts p) (lt-ltb j job.parts q)) m) (and_from (ltb i job.parts) (eqb i i) (lt-ltb i job.parts p) (eq-eqb i i refl)) (and_from (ltb j job.parts) (eqb j j) (lt-ltb j job.parts q) (eq-eqb j j refl));
    law = λ labels _. cost_start k laws job s cells room labels;
  }
    where
      one : (i j : ℕ) → k.span (live_amount k (start job) (loaded_cells k job cells) i j) ≤ max_span
      one i j = go (cases_Bool (ltb i job.parts && ltb j job.parts))
        where
          go : ((ltb i job.parts && ltb j job.parts) ≡ true) ⊎ ((ltb i job.parts && ltb j job.parts) ≡ false) → k.span (live_amount k (start job) (loaded_cells k job cells) i j) ≤ max_span
          go (inl e) =
              let h = and_parts (ltb i job.parts) (ltb j job.parts) e in
              omega (arith, ap k.span (cond-true (ltb i job.parts && ltb j job.parts) (amount_in k (start job) (loaded_cells k job cells) i j) k.zero e), ap k.span (amount_loaded k job s cells room i j (ltb-true i job.parts h.0) (ltb-true j job.parts h.1)), narrow_at k laws job s.narrow i j)
          go (inr e) = omega (arith, ap k.span (live_none k laws (start job) (loaded_cells k job cells) i j e), laws.span_zero)

  joins : (job : Job A) (v : View) (cells : List A) (booked : A) (a b : ℕ) → Inside job v cells booked → Roomy v cells → is_open v a b ≡ true → Inside job (joined v a b) (joined_cells k v cells a b) (k.sum booked (join_booked k v cells a b))
  joins job v cells booked a b h room e =
      let g = h.good in
      let o : Open v a b = open_is v a b e in
      let n : New v a b = new_id v a b g o in
      let t = small job h.sound in
      let tf = t.few in
      let ta = t.all in
      let hn = h.narrow in
      let hb = h.booked_narrow in
      let less : all_live (joined v a b) (joined_cells k v cells a b) ≤ all_live v cells = narrower k laws v cells a b g o n room h.symmetric (omega arith) in
      let books : k.span (join_booked k v cells a b) ≤ all_live v cells = booked_under k laws v cells a b g o n room h.symmetric (omega arith) in
      let count = one_less (opens (joined v a b)) (opens v) (most job) (fewer_joined v a b g o n) in
      let sum : k.span (k.sum booked (join_booked k v cells a b)) ≤ k.span booked + k.span (join_booked k v cells a b) = laws.span_sum booked (join_booked k v cells a b) (omega arith) in
      record {
        good = good_joined v a b g o n;
        sound = h.sound;
        parts_same = h.parts_same;
        symmetric = symmetric_joined v a b g o n k laws cells room h.symmetric;
        narrow = omega arith;
        booked_narrow = omega arith;
        marks = λ labels r. h.marks labels (unjoined v a b g o n labels r);
        law = λ labels r. stepped (cost k job labels) booked (join_booked k v cells a b) (remaining k v cells labels) (remaining k (joined v a b) (joined_cells k v cells a b) labels) (omega (arith, remaining_span (joined v a b) (joined_cells k v cells a b) labels (omega arith))) (h.law labels (unjoined v a b g o n labels r)) (remaining_joined k laws v cells a b g o n room h.symmetric labels r (omega arith));
      }

  separates : (job : Job A) (v : View) (cells : List A) (booked : A) (a b : ℕ) → Inside job v cells booked → is_open v a b ≡ true → Inside job (separated v a b) cells (k.sum booked (separation_booked k v cells a b))
  separates job v cells booked a b h e =
      let g = h.good in
      let o : Open v a b = open_is v a b e in
      let t = small job h.sound in
      let tf = t.few in
      let ta = t.all in
      let hn = h.narrow in
      let hb = h.booked_narrow in
      let X : ℕ → ℕ → A = live_amount k v cells in
      let split : all_live v cells ≡ k.span (X a b) + spans k (map (X a) (others v a b) ++ (map (X b) (others v a b) ++ vals X (others v a b))) = spans_like k laws (split_before v a b X (live_swap k laws v cells h.symmetric) (live_none k laws v cells) o.live_a o.live_b o.distinct (g.live_in a o.live_a) (g.live_in b o.live_b)) in
      let pair : X a b ≡ amount_in k v cells a b = cond-true (v.live a && v.live b) (amount_in k v cells a b) k.zero (and_from (v.live a) (v.live b) o.live_a o.live_b) in
      let books : k.span (separation_booked k v cells a b) ≤ all_live v cells = omega (arith, span_positive_part k laws (amount_in k v cells a b), ap k.span pair) in
      let count = one_less (opens (separated v a b)) (opens v) (most job) (fewer_separated v a b g o) in
      let sum : k.span (k.sum booked (separation_booked k v cells a b)) ≤ k.span booked + k.span (separation_booked k v cells a b) = laws.span_sum booked (separation_booked k v cells a b) (omega arith) in
      record {
        good = good_separated v a b g o;
        sound = h.sound;
        parts_same = h.parts_same;
        symmetric = h.symmetric;
        narrow = hn;
        booked_narrow = omega arith;
        marks = λ labels r. h.marks labels (unseparated v a b labels r);
        law = λ labels r. stepped (cost k job labels) booked (separation_booked k v cells a b) (remaining k v cells labels) (remaining k (separated v a b) cells labels) (omega (arith, remaining_span (separated v a b) cells labels (omega arith))) (h.law labels (unseparated v a b labels r)) (remaining_separated v a b g o k laws cells h.symmetric labels r (omega arith));
      }

  -- a term of open pairs reads the same over cells that agree
  same_term : (v : View) (cells others : List A) → Agree k v cells others → (term : A → A) (i j : ℕ) → cond (is_open v i j) (term (amount_in k v cells i j)) k.zero ≡ cond (is_open v i j) (term (amount_in k v others i j)) k.zero
  same_term v cells others agree term i j = go (cases_Bool (is_open v i j))
    where
      go : (is_open v i j ≡ true) ⊎ (is_open v i j ≡ false) → cond (is_open v i j) (term (amount_in k v cells i j)) k.zero ≡ cond (is_open v i j) (term (amount_in k v others i j)) k.zero
      go (inl e) = let o = open_is v i j e in ap (λ x. cond (is_open v i j) (term x) k.zero) (agree i j o.live_a o.live_b o.distinct)
      go (inr e) = cond-false (is_open v i j) _ k.zero e ∙ sym (cond-false (is_open v i j) _ k.zero e)

  pub remaining_agrees : (v : View) (cells others : List A) (labels : List ℕ) → Agree k v cells others → remaining k v cells labels ≡ remaining k v others labels
  remaining_agrees v cells others labels agree = ap₂ k.sum
      (ap (total k) (map_alike _ _ (pairs (width v)) (λ p. same_term v cells others agree (separating_term k (share v labels p.0 p.1)) p.0 p.1)))
      (ap (total k) (map_alike _ _ (pairs (width v)) (λ p. same_term v cells others agree (joining_term k (share v labels p.0 p.1)) p.0 p.1)))

  agrees : (job : Job A) (v : View) (cells others : List A) (booked : A) → Inside job v cells booked → Agree k v cells others → Inside job v others booked
  agrees job v cells others booked h agree = record {
    good = h.good;
    sound = h.sound;
    parts_same = h.parts_same;
    symmetric = λ i j p q. turned i j p q (cases_eq i j);
    narrow = subst (λ l. spans k l ≤ most job) (map_same _ _ (pairs (width v)) (All-weaker (λ p. (p.0 < p.1) × (p.1 < width v)) (λ p. live_amount k v cells p.0 p.1 ≡ live_amount k v others p.0 p.1) (λ p m. live_same p.0 p.1 (λ e. let no : ⊥ = omega arith in no)) (pairs (width v)) (pairs_rise (width v)))) h.narrow;
    booked_narrow = h.booked_narrow;
    marks = h.marks;
    law = λ labels r. h.law labels r ∙ ap (k.sum booked) (remaining_agrees v cells others labels agree);
  }
    where
      turned : (i j : ℕ) → v.live i ≡ true → v.live j ≡ true → (i ≡ j) ⊎ (i ≡ j → ⊥) → amount_in k v others i j ≡ amount_in k v others j i
      turned i j p q (inl e) = ap (λ m. amount_in k v others m j) e ∙ ap (amount_in k v others j) (sym e)
      turned i j p q (inr d) = sym (agree i j p q d) ∙ h.symmetric i j p q ∙ agree j i q p (λ e. d (sym e))

      live_same : (i j : ℕ) → (i ≡ j → ⊥) → live_amount k v cells i j ≡ live_amount k v others i j
      live_same i j d = go (cases_Bool (v.live i && v.live j))
        where
          go : ((v.live i && v.live j) ≡ true) ⊎ ((v.live i && v.live j) ≡ false) → live_amount k v cells i j ≡ live_amount k v others i j
          go (inl e) = let m = and_parts (v.live i) (v.live j) e in ap (λ x. cond (v.live i && v.live j) x k.zero) (agree i j m.0 m.1 d)
          go (inr e) = live_none k laws v cells i j e ∙ sym (live_none k laws v others i j e)

  inside : (job : Job A) (v : View) (cells : List A) (booked : A) → Reached k job v cells booked → Inside job v cells booked
  inside job _ _ _ (by_load cells s room) = loads job cells s room
  inside job _ _ _ (by_join v cells booked a b r room e) = joins job v cells booked a b (inside job v cells booked r) room e
  inside job _ _ _ (by_separation v cells booked a b r e) = separates job v cells booked a b (inside job v cells booked r) e
  inside job _ _ _ (by_agreement v cells others booked r agree) = agrees job v cells others booked (inside job v cells booked r) agree

  pub booked_and_remaining : BookedAndRemaining k
  booked_and_remaining job v cells booked r labels _ respects = (inside job v cells booked r).law labels respects

  pub reached_keeps : ReachedKeeps k
  reached_keeps job v cells booked r =
      let h = inside job v cells booked r in
      let t = small job h.sound in
      record {
        well_formed = h.good;
        same_parts = h.parts_same;
        symmetric = h.symmetric;
        live_spans = h.narrow;
        booked_bound = subst (λ m. k.span booked + m * most job ≤ pair_count job.parts * most job) (sym (opens_is v)) h.booked_narrow;
        booked_span = omega (arith, h.booked_narrow, t.all);
        settles = λ a b e. let o = open_is v a b e in (omega (arith, opens_is v, opens_is (joined v a b), fewer_joined v a b h.good o (new_id v a b h.good o)), omega (arith, opens_is v, opens_is (separated v a b), fewer_separated v a b h.good o));
        respects_marks = h.marks;
        branches = λ a b e labels _ s. let o = open_is v a b e in either_step v a b h.good o (new_id v a b h.good o) labels s;
      }
