-- What remains before a join is what the join books and what remains after it.
use Rattle.std.proofs.Common.{◌≡◌, ℕ, ◌+◌, ◌*◌, ◌≤◌, Bool, true, false, cond, not, ◌&&◌, ◌⊎◌, List, [], ◌∷◌, ◌++◌, map, sym, refl, ap, ◌∙◌, ap₂, inl, inr, arith}
use Rattle.std.specs.List.{AllByRecursion}
use Rattle.std.proofs.ByRecursion.{All-weaker}
use Rattle.std.proofs.lemmas.Bool.{cond-true, cases_Bool, and_from}
use Rattle.amount.specs.Kind.{Kind, Laws, span_limit}
use Rattle.amount.specs.Signs.{positive_part, overlap}
use Rattle.amount.specs.Totals.{total, spans}
use Rattle.amount.proofs.Totals.{span_total, total_cons, total_append, spans_append, spans_map_sum, total_map_sum}
use Rattle.amount.proofs.Signs.{span_positive_part, span_negative_part, span_overlap}
use Rattle.job.specs.Tests.{pairs}
use Rattle.view.specs.View.{View, width, next, is_open, Roomy, amount_in}
use Rattle.view.specs.Steps.{is_other, others, joined, joined_cells, join_own, join_other, join_others, join_booked}
use Rattle.view.specs.Remaining.{RespectsBoard, share, remaining}
use Rattle.view.proofs.Like.{vals, vals_same, spans_like, total_like}
use Rattle.view.proofs.Split.{split_before, split_after, others_pass}
use Rattle.view.specs.Good.{Good}
use Rattle.view.proofs.Good.{Open, New, good_joined, other_facts, live_other, live_new}
use Rattle.view.specs.View.{live_amount}
use Rattle.view.proofs.Due.{due, open_due, live_none, live_swap, due_none, due_swap, due_under, spans_map_under, map_same, remaining_due}
use Rattle.view.proofs.Joining.{open_same, share_same, share_ab, amount_same, amount_new, symmetric_joined, due_other, open_at}

module _ {A : Type 0} (k : Kind A) (laws : Laws k) where
  -- one amount for the pair, and for the rows of both and the rest: what is booked moves to the front
  regroup : (own da db t oth dc : A) → k.span own + k.span da + k.span db + k.span t + k.span oth + k.span dc ≤ span_limit → k.sum da db ≡ k.sum oth dc → k.sum own (k.sum da (k.sum db t)) ≡ k.sum (k.sum own oth) (k.sum dc t)
  regroup own da db t oth dc h e =
      let s : k.span (k.sum dc t) ≤ k.span dc + k.span t = laws.span_sum dc t (omega arith) in
      cc (laws.associates da db t (omega arith), laws.associates oth dc t (omega arith), laws.associates own oth (k.sum dc t) (omega arith))

  vals_under : (f g : ℕ → ℕ → A) → ((i j : ℕ) → k.span (f i j) ≤ k.span (g i j)) → (xs : List ℕ) → spans k (vals f xs) ≤ spans k (vals g xs)
  vals_under f g h [] = omega arith
  vals_under f g h (x ∷ xs) = omega (arith, spans_append k laws (map (f x) xs) (vals f xs), spans_append k laws (map (g x) xs) (vals g xs), spans_map_under k laws (f x) (g x) xs (h x), vals_under f g h xs)

  module _ (v : View) (cells : List A) (a b : ℕ) (g : Good v) (o : Open v a b) (n : New v a b) (room : Roomy v cells) (symmetric : (i j : ℕ) → v.live i ≡ true → v.live j ≡ true → amount_in k v cells i j ≡ amount_in k v cells j i) where
    abbrev X : ℕ → ℕ → A
    X = live_amount k v cells

    abbrev Y : ℕ → ℕ → A
    Y = live_amount k (joined v a b) (joined_cells k v cells a b)

    abbrev rest : List ℕ
    rest = others v a b

    all_spans : spans k (map (λ p. X p.0 p.1) (pairs (width v))) ≡ k.span (X a b) + (spans k (map (X a) rest) + (spans k (map (X b) rest) + spans k (vals X rest)))
    all_spans =
        spans_like k laws (split_before v a b X (live_swap k laws v cells symmetric) (live_none k laws v cells) o.live_a o.live_b o.distinct (g.live_in a o.live_a) (g.live_in b o.live_b))
        ∙ ap (λ m. k.span (X a b) + m) (spans_append k laws (map (X a) rest) (map (X b) rest ++ vals X rest) ∙ ap (λ m. spans k (map (X a) rest) + m) (spans_append k laws (map (X b) rest) (vals X rest)))

    live_is : (i j : ℕ) → v.live i ≡ true → v.live j ≡ true → X i j ≡ amount_in k v cells i j
    live_is i j p q = cond-true (v.live i && v.live j) (amount_in k v cells i j) k.zero (and_from (v.live i) (v.live j) p q)

    new_is : (w : ℕ) → is_other v a b w ≡ true → Y (next v) w ≡ k.sum (X a w) (X b w)
    new_is w q =
        cond-true ((joined v a b).live (next v) && (joined v a b).live w) _ k.zero (and_from ((joined v a b).live (next v)) ((joined v a b).live w) (live_new v a b) (live_other v a b w q))
        ∙ amount_new v a b g o n k laws cells room w q
        ∙ sym (ap₂ k.sum (live_is a w o.live_a (other_facts v a b w q).0) (live_is b w o.live_b (other_facts v a b w q).0))

    same_is : (x y : ℕ) → is_other v a b x ≡ true → is_other v a b y ≡ true → Y x y ≡ X x y
    same_is x y p q =
        cond-true ((joined v a b).live x && (joined v a b).live y) _ k.zero (and_from ((joined v a b).live x) ((joined v a b).live y) (live_other v a b x p) (live_other v a b y q))
        ∙ amount_same v a b g o n k laws cells room x y p q ∙ sym (live_is x y (other_facts v a b x p).0 (other_facts v a b y q).0)

    -- the amounts of live pairs span no more after the join
    pub narrower : spans k (map (λ p. X p.0 p.1) (pairs (width v))) ≤ span_limit → spans k (map (λ p. Y p.0 p.1) (pairs (width v))) ≤ spans k (map (λ p. X p.0 p.1) (pairs (width v)))
    narrower h =
        let split : spans k (map (λ p. Y p.0 p.1) (pairs (width v))) ≡ spans k (map (Y (next v)) rest ++ vals Y rest) = spans_like k laws (split_after v a b Y (live_swap k laws (joined v a b) (joined_cells k v cells a b) (symmetric_joined v a b g o n k laws cells room symmetric)) (live_none k laws (joined v a b) (joined_cells k v cells a b)) n.no_other n.fits) in
        let row : map (Y (next v)) rest ≡ map (λ w. k.sum (X a w) (X b w)) rest = map_same (Y (next v)) (λ w. k.sum (X a w) (X b w)) rest (All-weaker (λ i. is_other v a b i ≡ true) (λ w. Y (next v) w ≡ k.sum (X a w) (X b w)) new_is rest (others_pass v a b)) in
        let inner : vals Y rest ≡ vals X rest = vals_same Y X (λ i. is_other v a b i ≡ true) same_is rest (others_pass v a b) in
        omega (arith, all_spans, spans_append k laws (map (Y (next v)) rest) (vals Y rest), ap (spans k) row, ap (spans k) inner, spans_map_sum k laws (X a) (X b) rest (omega (arith, all_spans)))

    under_sum : (w : ℕ) → k.span (join_other k v cells a b w) ≤ k.span (X a w) + k.span (X b w)
    under_sum w = go (cases_Bool (is_open v a w)) (cases_Bool (is_open v b w))
      where
        use_live : (i : ℕ) → is_open v i w ≡ true → k.span (X i w) ≡ k.span (amount_in k v cells i w)
        use_live i e = ap k.span (cond-true (v.live i && v.live w) (amount_in k v cells i w) k.zero (and_open (v.live i && v.live w) _ e))
          where
            and_open : (x y : Bool) → (x && y) ≡ true → x ≡ true
            and_open true y f = refl
            and_open false y f = f

        x : A
        x = amount_in k v cells a w

        y : A
        y = amount_in k v cells b w

        go : (is_open v a w ≡ true) ⊎ (is_open v a w ≡ false) → (is_open v b w ≡ true) ⊎ (is_open v b w ≡ false) → k.span (join_other k v cells a b w) ≤ k.span (X a w) + k.span (X b w)
        go (inl p) (inl q) = omega (arith, ap₂ (λ s t. k.span (cond s (cond t (overlap k (amount_in k v cells a w) (amount_in k v cells b w)) (positive_part k (amount_in k v cells a w))) (cond t (positive_part k (amount_in k v cells b w)) k.zero))) p q, span_overlap k laws (amount_in k v cells a w) (amount_in k v cells b w), use_live a p, use_live b q)
        go (inl p) (inr q) = omega (arith, ap₂ (λ s t. k.span (cond s (cond t (overlap k (amount_in k v cells a w) (amount_in k v cells b w)) (positive_part k (amount_in k v cells a w))) (cond t (positive_part k (amount_in k v cells b w)) k.zero))) p q, span_positive_part k laws (amount_in k v cells a w), use_live a p)
        go (inr p) (inl q) = omega (arith, ap₂ (λ s t. k.span (cond s (cond t (overlap k (amount_in k v cells a w) (amount_in k v cells b w)) (positive_part k (amount_in k v cells a w))) (cond t (positive_part k (amount_in k v cells b w)) k.zero))) p q, span_positive_part k laws (amount_in k v cells b w), use_live b q)
        go (inr p) (inr q) = omega (arith, ap₂ (λ s t. k.span (cond s (cond t (overlap k (amount_in k v cells a w) (amount_in k v cells b w)) (positive_part k (amount_in k v cells a w))) (cond t (positive_part k (amount_in k v cells b w)) k.zero))) p q, laws.span_zero)

    others_spans : (xs : List ℕ) → spans k (map (join_other k v cells a b) xs) ≤ spans k (map (X a) xs) + spans k (map (X b) xs)
    others_spans [] = omega arith
    others_spans (x ∷ xs) = omega (arith, under_sum x, others_spans xs)

    -- what the join books spans no more than the amounts of live pairs
    pub booked_under : spans k (map (λ p. X p.0 p.1) (pairs (width v))) ≤ span_limit → k.span (join_booked k v cells a b) ≤ spans k (map (λ p. X p.0 p.1) (pairs (width v)))
    booked_under h =
        let own : k.span (join_own k v cells a b) ≤ k.span (X a b) = omega (arith, span_negative_part k laws (amount_in k v cells a b), ap k.span (live_is a b o.live_a o.live_b)) in
        let oth : k.span (join_others k v cells a b) ≤ spans k (map (join_other k v cells a b) rest) = span_total k laws (map (join_other k v cells a b) rest) (omega (arith, all_spans, others_spans rest)) in
        omega (arith, all_spans, others_spans rest, laws.span_sum (join_own k v cells a b) (join_others k v cells a b) (omega (arith, all_spans, others_spans rest)))

    module _ (labels : List ℕ) (r : RespectsBoard (joined v a b) labels) (h : 8 * spans k (map (λ p. X p.0 p.1) (pairs (width v))) ≤ span_limit) where
      abbrev D : ℕ → ℕ → A
      D = open_due k v cells labels

      abbrev E : ℕ → ℕ → A
      E = open_due k (joined v a b) (joined_cells k v cells a b) labels

      due_same : (x y : ℕ) → is_other v a b x ≡ true → is_other v a b y ≡ true → E x y ≡ D x y
      due_same x y p q =
          ap₂ (λ t u. cond t (due k u (amount_in k (joined v a b) (joined_cells k v cells a b) x y)) k.zero) (open_same v a b g o n x y p q) (share_same v a b g o n labels x y p q)
          ∙ ap (λ u. cond (is_open v x y) (due k (share v labels x y) u) k.zero) (amount_same v a b g o n k laws cells room x y p q)

      -- one amount of the row is a part of all
      in_row : (f : ℕ → A) (xs : List ℕ) → AllByRecursion (λ w. k.span (f w) ≤ spans k (map f xs)) xs
      in_row f [] = tt
      in_row f (x ∷ xs) = (omega arith, All-weaker (λ w. k.span (f w) ≤ spans k (map f xs)) (λ w. k.span (f w) ≤ spans k (map f (x ∷ xs))) (λ w m. omega arith) xs (in_row f xs))

      all_both : (P Q R : ℕ → Type 0) (xs : List ℕ) → AllByRecursion P xs → AllByRecursion Q xs → AllByRecursion R xs → AllByRecursion (λ w. P w × Q w × R w) xs
      all_both P Q R [] p q s = tt
      all_both P Q R (x ∷ xs) p q s = ((p.0, q.0, s.0), all_both P Q R xs p.1 q.1 s.1)

      rows : map (λ w. k.sum (D a w) (D b w)) rest ≡ map (λ w. k.sum (join_other k v cells a b w) (E (next v) w)) rest
      rows = map_same _ _ rest (All-weaker (λ w. (is_other v a b w ≡ true) × (k.span (X a w) ≤ spans k (map (X a) rest)) × (k.span (X b w) ≤ spans k (map (X b) rest))) (λ w. k.sum (D a w) (D b w) ≡ k.sum (join_other k v cells a b w) (E (next v) w))
          (λ w m. due_other v a b g o n k laws cells room labels r w m.0 (omega (arith, all_spans, ap k.span (live_is a w o.live_a (other_facts v a b w m.0).0), ap k.span (live_is b w o.live_b (other_facts v a b w m.0).0))))
          rest (all_both (λ w. is_other v a b w ≡ true) (λ w. k.span (X a w) ≤ spans k (map (X a) rest)) (λ w. k.span (X b w) ≤ spans k (map (X b) rest)) rest (others_pass v a b) (in_row (X a) rest) (in_row (X b) rest)))

      own_is : D a b ≡ join_own k v cells a b
      own_is = ap₂ (λ t u. cond t (due k u (amount_in k v cells a b)) k.zero) (open_at v a b o.live_a o.live_b o.distinct ∙ ap not o.not_apart) (share_ab v a b g o n labels r)

      new_spans : spans k (map (E (next v)) rest) ≤ spans k (map (X a) rest) + spans k (map (X b) rest)
      new_spans =
          let row : map (Y (next v)) rest ≡ map (λ w. k.sum (X a w) (X b w)) rest = map_same (Y (next v)) (λ w. k.sum (X a w) (X b w)) rest (All-weaker (λ i. is_other v a b i ≡ true) (λ w. Y (next v) w ≡ k.sum (X a w) (X b w)) new_is rest (others_pass v a b)) in
          omega (arith, spans_map_under k laws (E (next v)) (Y (next v)) rest (due_under k laws (joined v a b) (joined_cells k v cells a b) labels (next v)), ap (spans k) row, spans_map_sum k laws (X a) (X b) rest (omega (arith, all_spans)))

      before_join : total k (map (λ p. D p.0 p.1) (pairs (width v))) ≡ k.sum (D a b) (k.sum (total k (map (D a) rest)) (k.sum (total k (map (D b) rest)) (total k (vals D rest))))
      before_join =
          let all : spans k (map (λ p. D p.0 p.1) (pairs (width v))) ≤ spans k (map (λ p. X p.0 p.1) (pairs (width v))) = spans_map_under k laws (λ p. D p.0 p.1) (λ p. X p.0 p.1) (pairs (width v)) (λ p. due_under k laws v cells labels p.0 p.1) in
          let like = split_before v a b D (due_swap k laws v cells labels g symmetric) (due_none k laws v cells labels) o.live_a o.live_b o.distinct (g.live_in a o.live_a) (g.live_in b o.live_b) in
          let sp : spans k (map (λ p. D p.0 p.1) (pairs (width v))) ≡ k.span (D a b) + spans k (map (D a) rest ++ (map (D b) rest ++ vals D rest)) = spans_like k laws like in
          let sq = spans_append k laws (map (D a) rest) (map (D b) rest ++ vals D rest) in
          let sr = spans_append k laws (map (D b) rest) (vals D rest) in
          total_like k laws like (omega arith)
          ∙ total_cons k laws (D a b) (map (D a) rest ++ (map (D b) rest ++ vals D rest)) (omega arith)
          ∙ ap (k.sum (D a b)) (total_append k laws (map (D a) rest) (map (D b) rest ++ vals D rest) (omega arith) ∙ ap (k.sum (total k (map (D a) rest))) (total_append k laws (map (D b) rest) (vals D rest) (omega arith)))

      after_join : total k (map (λ p. E p.0 p.1) (pairs (width v))) ≡ k.sum (total k (map (E (next v)) rest)) (total k (vals D rest))
      after_join =
          let all : spans k (map (λ p. E p.0 p.1) (pairs (width v))) ≤ spans k (map (λ p. Y p.0 p.1) (pairs (width v))) = spans_map_under k laws (λ p. E p.0 p.1) (λ p. Y p.0 p.1) (pairs (width v)) (λ p. due_under k laws (joined v a b) (joined_cells k v cells a b) labels p.0 p.1) in
          let less = narrower (omega arith) in
          let like = split_after v a b E (due_swap k laws (joined v a b) (joined_cells k v cells a b) labels (good_joined v a b g o n) (symmetric_joined v a b g o n k laws cells room symmetric)) (due_none k laws (joined v a b) (joined_cells k v cells a b) labels) n.no_other n.fits in
          let sp : spans k (map (λ p. E p.0 p.1) (pairs (width v))) ≡ spans k (map (E (next v)) rest ++ vals E rest) = spans_like k laws like in
          let sq = spans_append k laws (map (E (next v)) rest) (vals E rest) in
          total_like k laws like (omega arith)
          ∙ total_append k laws (map (E (next v)) rest) (vals E rest) (omega arith)
          ∙ ap (λ l. k.sum (total k (map (E (next v)) rest)) (total k l)) (vals_same E D (λ i. is_other v a b i ≡ true) due_same rest (others_pass v a b))

      pub remaining_joined : remaining k v cells labels ≡ k.sum (join_booked k v cells a b) (remaining k (joined v a b) (joined_cells k v cells a b) labels)
      remaining_joined =
          let less = narrower (omega arith) in
          let sa : spans k (map (D a) rest) ≤ spans k (map (X a) rest) = spans_map_under k laws (D a) (X a) rest (due_under k laws v cells labels a) in
          let sb : spans k (map (D b) rest) ≤ spans k (map (X b) rest) = spans_map_under k laws (D b) (X b) rest (due_under k laws v cells labels b) in
          let st : spans k (vals D rest) ≤ spans k (vals X rest) = vals_under D X (due_under k laws v cells labels) rest in
          let so = others_spans rest in
          let sn = new_spans in
          let sown : k.span (D a b) ≤ k.span (X a b) = due_under k laws v cells labels a b in
          let eq = all_spans in
          let ta : k.span (total k (map (D a) rest)) ≤ spans k (map (D a) rest) = span_total k laws (map (D a) rest) (omega arith) in
          let tb : k.span (total k (map (D b) rest)) ≤ spans k (map (D b) rest) = span_total k laws (map (D b) rest) (omega arith) in
          let tt' : k.span (total k (vals D rest)) ≤ spans k (vals D rest) = span_total k laws (vals D rest) (omega arith) in
          let to : k.span (total k (map (join_other k v cells a b) rest)) ≤ spans k (map (join_other k v cells a b) rest) = span_total k laws (map (join_other k v cells a b) rest) (omega arith) in
          let tn : k.span (total k (map (E (next v)) rest)) ≤ spans k (map (E (next v)) rest) = span_total k laws (map (E (next v)) rest) (omega arith) in
          let both : k.sum (total k (map (D a) rest)) (total k (map (D b) rest)) ≡ k.sum (total k (map (join_other k v cells a b) rest)) (total k (map (E (next v)) rest)) =
          sym (total_map_sum k laws (D a) (D b) rest (omega arith)) ∙ ap (total k) rows ∙ total_map_sum k laws (join_other k v cells a b) (E (next v)) rest (omega arith) in
          remaining_due k laws v cells labels (omega arith)
          ∙ before_join
          ∙ regroup (D a b) (total k (map (D a) rest)) (total k (map (D b) rest)) (total k (vals D rest)) (total k (map (join_other k v cells a b) rest)) (total k (map (E (next v)) rest)) (omega arith) both
          ∙ ap₂ k.sum (ap (λ x. k.sum x (join_others k v cells a b)) own_is) (sym after_join ∙ sym (remaining_due k laws (joined v a b) (joined_cells k v cells a b) labels (omega arith)))
