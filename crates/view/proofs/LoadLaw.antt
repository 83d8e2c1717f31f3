-- The cost of a grouping is what remains on the loaded board.
use Rattle.std.proofs.Common.{◌≡◌, ℕ, zero, suc, ◌+◌, ◌-◌, ◌<◌, ◌≤◌, Bool, false, cond, not, ◌&&◌, eqb, ltb, List, [], ◌∷◌, ◌++◌, map, filter, sym, ap, ◌∙◌, ap₂, append-nil, arith}
use Rattle.std.specs.List.{range_with_len}
use Rattle.std.proofs.lemmas.List.Elements.{filter-append}
use Rattle.std.proofs.ByRecursion.{All-weaker}
use Rattle.std.proofs.lemmas.Bool.{cond-false, and_from, lt-ltb, le-ltb, eqb-true, and_parts}
use Rattle.amount.specs.Kind.{Kind, Laws, span_limit}
use Rattle.amount.specs.Totals.{total, spans}
use Rattle.job.specs.Job.{Job, amount_at, marked, Sound}
use Rattle.job.specs.Grouping.{label, together}
use Rattle.job.specs.Cost.{separating_term, joining_term, cost, ExactCost}
use Rattle.job.specs.Tests.{pairs}
use Rattle.job.proofs.Rows.{counting_more}
use Rattle.job.proofs.Exact.{exact_cost}
use Rattle.view.specs.View.{width, is_open, Roomy, amount_in}
use Rattle.view.specs.Steps.{start, loaded_cells, load_booked}
use Rattle.view.specs.Remaining.{first_part, share, remaining}
use Rattle.view.proofs.Like.{Like, like_trans, like_same, vals, spans_like, total_like}
use Rattle.view.proofs.Choose.{kept_no, pairs_vals}
use Rattle.view.proofs.Start.{good_start, amount_loaded, pairs_rise}
use Rattle.view.proofs.Joining.{first_held, open_at}
use Rattle.view.proofs.Due.{map_same, open_none}

kept_far : (live : ℕ → Bool) (n r : ℕ) → ((i : ℕ) → n ≤ i → live i ≡ false) → filter live (range_with_len 0 (n + r)) ≡ filter live (range_with_len 0 n)
kept_far live n zero h = ap (λ m. filter live (range_with_len 0 m)) (omega arith)
kept_far live n (suc r) h =
    let e : n + suc r ≡ n + r + 1 = omega arith in
    ap (λ m. filter live (range_with_len 0 m)) e ∙ ap (filter live) (counting_more (n + r)) ∙ filter-append live (range_with_len 0 (n + r)) ((n + r) ∷ [])
    ∙ ap (λ l. filter live (range_with_len 0 (n + r)) ++ l) (kept_no live (n + r) [] (h (n + r) (omega arith))) ∙ append-nil (filter live (range_with_len 0 (n + r))) ∙ kept_far live n r h

cond_not : {X : Type 0} (m : Bool) (x y : X) → cond (not m) x y ≡ cond m y x
cond_not m x y = grind arith

module _ {A : Type 0} (k : Kind A) (laws : Laws k) (job : Job A) (sound : Sound k job) where
  same_kept : filter (λ i. ltb i job.parts) (range_with_len 0 (width (start job))) ≡ filter (λ i. ltb i job.parts) (range_with_len 0 job.parts)
  same_kept =
      let e : width (start job) ≡ job.parts + (job.parts - 1) = omega (arith, sound.within.0) in
      ap (λ m. filter (λ i. ltb i job.parts) (range_with_len 0 m)) e ∙ kept_far (λ i. ltb i job.parts) job.parts (job.parts - 1) (λ i l. le-ltb i job.parts l)

  -- values of live pairs only: those of the parts are all
  module _ {X : Type 0} {z : X} (f : ℕ → ℕ → X) (blank : (i j : ℕ) → (ltb i job.parts && ltb j job.parts) ≡ false → f i j ≡ z) where
    pub wide : Like z (map (λ p. f p.0 p.1) (pairs (width (start job)))) (vals f (filter (λ i. ltb i job.parts) (range_with_len 0 job.parts)))
    wide = like_trans (pairs_vals (λ i. ltb i job.parts) f blank (width (start job))) (like_same (ap (vals f) same_kept))

    pub near : Like z (map (λ p. f p.0 p.1) (pairs job.parts)) (vals f (filter (λ i. ltb i job.parts) (range_with_len 0 job.parts)))
    near = pairs_vals (λ i. ltb i job.parts) f blank job.parts

  module _ (f : ℕ → ℕ → A) (blank : (i j : ℕ) → (ltb i job.parts && ltb j job.parts) ≡ false → f i j ≡ k.zero) where
    pub spans_near : spans k (map (λ p. f p.0 p.1) (pairs (width (start job)))) ≡ spans k (map (λ p. f p.0 p.1) (pairs job.parts))
    spans_near = spans_like k laws (wide f blank) ∙ sym (spans_like k laws (near f blank))

    pub total_near : spans k (map (λ p. f p.0 p.1) (pairs job.parts)) ≤ span_limit → total k (map (λ p. f p.0 p.1) (pairs (width (start job)))) ≡ total k (map (λ p. f p.0 p.1) (pairs job.parts))
    total_near h = total_like k laws (wide f blank) (omega (arith, spans_near)) ∙ sym (total_like k laws (near f blank) h)

  open_start : (i j : ℕ) → i < job.parts → j < job.parts → (i ≡ j → ⊥) → is_open (start job) i j ≡ not (marked job i j)
  open_start i j p q d = open_at (start job) i j (lt-ltb i job.parts p) (lt-ltb j job.parts q) d ∙ ap (λ t. not (t && marked job i j)) (and_from (ltb i job.parts) (ltb j job.parts) (lt-ltb i job.parts p) (lt-ltb j job.parts q))

  first_start : (i : ℕ) → i < job.parts → first_part (start job) i ≡ i
  first_start i h = sym (eqb-true i (first_part (start job) i) (and_parts (ltb i job.parts) (eqb i (first_part (start job) i)) (first_held (start job) (good_start k job sound) i (lt-ltb i job.parts h))).1)

  module _ (cells : List A) (room : Roomy (start job) cells) (labels : List ℕ) where
    -- a term of open pairs, on the parts: the charge
    term_start : (term : Bool → A → A) (p : ℕ × ℕ) → (p.0 < p.1) × (p.1 < job.parts) → cond (is_open (start job) p.0 p.1) (term (share (start job) labels p.0 p.1) (amount_in k (start job) (loaded_cells k job cells) p.0 p.1)) k.zero ≡ cond (marked job p.0 p.1) k.zero (term (together labels p.0 p.1) (amount_at k job p.0 p.1))
    term_start term p h =
        let lo : p.0 < job.parts = omega arith in
        ap₂ (λ t u. cond t u k.zero) (open_start p.0 p.1 lo h.1 (λ e. let no : ⊥ = omega arith in no))
        (ap₂ term (ap₂ (λ x y. eqb (label labels x) (label labels y)) (first_start p.0 lo) (first_start p.1 h.1)) (amount_loaded k job sound cells room p.0 p.1 lo h.1))
        ∙ cond_not (marked job p.0 p.1) _ k.zero

    total_start : (term : Bool → A → A) → spans k (map (λ p. cond (marked job p.0 p.1) k.zero (term (together labels p.0 p.1) (amount_at k job p.0 p.1))) (pairs job.parts)) ≤ span_limit → total k (map (λ p. cond (is_open (start job) p.0 p.1) (term (share (start job) labels p.0 p.1) (amount_in k (start job) (loaded_cells k job cells) p.0 p.1)) k.zero) (pairs (width (start job)))) ≡ total k (map (λ p. cond (marked job p.0 p.1) k.zero (term (together labels p.0 p.1) (amount_at k job p.0 p.1))) (pairs job.parts))
    total_start term h =
        let f : ℕ → ℕ → A = λ i j. cond (is_open (start job) i j) (term (share (start job) labels i j) (amount_in k (start job) (loaded_cells k job cells) i j)) k.zero in
        let blank : (i j : ℕ) → (ltb i job.parts && ltb j job.parts) ≡ false → f i j ≡ k.zero = λ i j e. cond-false (is_open (start job) i j) _ k.zero (open_none (start job) i j e) in
        let same = map_same (λ p. f p.0 p.1) (λ p. cond (marked job p.0 p.1) k.zero (term (together labels p.0 p.1) (amount_at k job p.0 p.1))) (pairs job.parts) (All-weaker (λ p. (p.0 < p.1) × (p.1 < job.parts)) (λ p. f p.0 p.1 ≡ cond (marked job p.0 p.1) k.zero (term (together labels p.0 p.1) (amount_at k job p.0 p.1))) (term_start term) (pairs job.parts) (pairs_rise job.parts)) in
        total_near f blank (omega (arith, ap (spans k) same)) ∙ ap (total k) same

    pub cost_start : cost k job labels ≡ k.sum (load_booked k job) (remaining k (start job) (loaded_cells k job cells) labels)
    cost_start =
        let h : ExactCost k job labels = exact_cost k laws job labels sound.within.1 sound.narrow in
        sym (ap₂ k.sum (total_start (separating_term k) (omega arith)) (total_start (joining_term k) (omega arith))) ∙ sym (laws.neutral _)
