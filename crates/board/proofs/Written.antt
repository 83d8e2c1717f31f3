-- Cells written one by one: what a loop has written so far.
use Rattle.std.proofs.Common.{◌≡◌, ℕ, ◌+◌, ◌*◌, ◌/◌, ◌%◌, ◌<◌, ◌≤◌, Bool, true, false, cond, ◌&&◌, eqb, ltb, ◌⊎◌, List, length, get_or, set, Some, None, Option, unwrap_or, sym, refl, ap, ◌∙◌, ap₂, inl, inr, mul-le-mul_right, arith}
use Rattle.std.proofs.lemmas.Nat.{mul-add-lt, div-mul-add, mod-mul-add, div-add-mod', mod_below}
use Rattle.std.proofs.lemmas.List.FromFn.{get_or-map-range_with_len, length-map-range_with_len, fill_by_all}
use Rattle.std.proofs.lemmas.List.{get_or-set_same, get_or-set_other, length-set}
use Rattle.std.proofs.lemmas.Bool.{cases_eq, cases_lt, cases_Bool, both_ways, cond-true, cond-false, eq-eqb, ne_eqb, lt-ltb, le-ltb, and_from, and_left, and_right}
use Rattle.amount.specs.Kind.{Kind}
use Rattle.job.specs.Job.{Job, amount_at}
use Rattle.view.specs.View.{View, width, next, Roomy, amount_in}
use Rattle.view.specs.Steps.{rewritten, is_other, start, loaded_cells, joined_amount, joined_cells}
use Rattle.view.proofs.Cells.{amount_rewritten}
use Rattle.view.proofs.Good.{other_facts}

-- the cell in row i and column j is there
pub place : (w i j n : ℕ) → w * w ≤ n → i < w → j < w → i * w + j < n
place w i j n e p q = omega (arith, mul-add-lt i w j w p q)

module _ {A : Type 0} (k : Kind A) (v : View) (cells : List A) where
  abbrev reads : (ℕ → ℕ → Option A) → ℕ → A
  reads f c = unwrap_or (f (c / width v) (c % width v)) (get_or cells c k.zero)

  -- one cell more
  pub rewrite_one : (f g : ℕ → ℕ → Option A) (i j : ℕ) (x : A) → j < width v → i * width v + j < length cells → g i j ≡ Some x → ((p q : ℕ) → (p ≡ i → q ≡ j → ⊥) → g p q ≡ f p q) → set (rewritten k v cells f) (i * width v + j) x ≡ rewritten k v cells g
  rewrite_one f g i j x hj room e same =
      fill_by_all (reads g) (set (rewritten k v cells f) (i * width v + j) x) (length cells) k.zero (length-set (rewritten k v cells f) (i * width v + j) x ∙ long) (λ c h. go c h (cases_eq c (i * width v + j)))
    where
      long : length (rewritten k v cells f) ≡ length cells
      long = length-map-range_with_len (reads f) 0 (length cells)

      go : (c : ℕ) → c < length cells → (c ≡ i * width v + j) ⊎ (c ≡ i * width v + j → ⊥) → get_or (set (rewritten k v cells f) (i * width v + j) x) c k.zero ≡ reads g c
      go c h (inl s) =
          ap (λ n. get_or (set (rewritten k v cells f) (i * width v + j) x) n k.zero) s
          ∙ get_or-set_same (rewritten k v cells f) (i * width v + j) x k.zero (omega (arith, long))
          ∙ sym (ap (λ o. unwrap_or o (get_or cells c k.zero)) (ap₂ g (ap (λ n. n / width v) s ∙ div-mul-add i (width v) j hj) (ap (λ n. n % width v) s ∙ mod-mul-add i (width v) j hj) ∙ e))
      go c h (inr d) =
          get_or-set_other (rewritten k v cells f) (i * width v + j) c x k.zero d
          ∙ get_or-map-range_with_len (reads f) 0 (length cells) c c k.zero h (omega arith)
          ∙ ap (λ o. unwrap_or o (get_or cells c k.zero)) (sym (same (c / width v) (c % width v) (λ p q. d (sym (div-add-mod' c (width v)) ∙ ap₂ (λ m n. m * width v + n) p q))))

  pub rewrite_none : (f : ℕ → ℕ → Option A) → ((p q : ℕ) → f p q ≡ None) → cells ≡ rewritten k v cells f
  rewrite_none f none = fill_by_all (reads f) cells (length cells) k.zero refl (λ c h. sym (ap (λ o. unwrap_or o (get_or cells c k.zero)) (none (c / width v) (c % width v))))

  pub rewrite_same : (f g : ℕ → ℕ → Option A) → ((p q : ℕ) → f p q ≡ g p q) → rewritten k v cells f ≡ rewritten k v cells g
  rewrite_same f g e = ap (rewritten k v cells) (λ z p q. e p q z)

-- one number more is below, but for the number itself
ltb_more : (q m : ℕ) → (q ≡ m → ⊥) → ltb q (m + 1) ≡ ltb q m
ltb_more q m d = go (cases_lt q m)
  where
    go : (q < m) ⊎ (m ≤ q) → ltb q (m + 1) ≡ ltb q m
    go (inl h) = lt-ltb q (m + 1) (omega arith) ∙ sym (lt-ltb q m h)
    go (inr h) = le-ltb q (m + 1) (omega arith) ∙ sym (le-ltb q m h)

none_below : (q : ℕ) → ltb q 0 ≡ false
none_below q = le-ltb q 0 (omega arith)

-- What a join has written: the row up to m, the column up to n.
module _ {A : Type 0} (k : Kind A) (v : View) (cells : List A) (a b : ℕ) where
  abbrev below : ℕ → ℕ → Bool
  below m w = is_other v a b w && ltb w m

  abbrev pub so_far : ℕ → ℕ → ℕ → ℕ → Option A
  so_far m n i j =
      cond (eqb i (next v) && below m j) (Some (joined_amount k v cells a b j))
      (cond (eqb j (next v) && below n i) (Some (joined_amount k v cells a b i))
      None)

  so_far_none : (m n p q : ℕ) → (eqb p (next v) && below m q) ≡ false → (eqb q (next v) && below n p) ≡ false → so_far m n p q ≡ None
  so_far_none m n p q x y = cond-false (eqb p (next v) && below m q) _ _ x ∙ cond-false (eqb q (next v) && below n p) _ _ y

  pub starts : cells ≡ rewritten k v cells (so_far 0 0)
  starts = rewrite_none k v cells (so_far 0 0) (λ p q. so_far_none 0 0 p q (none p q) (none q p))
    where
      none : (p q : ℕ) → (eqb p (next v) && below 0 q) ≡ false
      none p q = and_right (eqb p (next v)) (below 0 q) (and_right (is_other v a b q) (ltb q 0) (none_below q))

  module _ (live_in : (i : ℕ) → v.live i ≡ true → i < width v) (unused : v.live (next v) ≡ false) (fits : next v < width v) (room : Roomy v cells) where
    pub ends : rewritten k v cells (so_far (width v) (width v)) ≡ joined_cells k v cells a b
    ends = rewrite_same k v cells (so_far (width v) (width v)) _ (λ p q. ap₂ (λ x y. cond (eqb p (next v) && x) (Some (joined_amount k v cells a b q)) (cond (eqb q (next v) && y) (Some (joined_amount k v cells a b p)) None)) (all q (cases_Bool (is_other v a b q))) (all p (cases_Bool (is_other v a b p))))
      where
        all : (w : ℕ) → (is_other v a b w ≡ true) ⊎ (is_other v a b w ≡ false) → below (width v) w ≡ is_other v a b w
        all w (inl e) = and_from (is_other v a b w) (ltb w (width v)) e (lt-ltb w (width v) (live_in w (other_facts v a b w e).0)) ∙ sym e
        all w (inr e) = and_left (is_other v a b w) _ e ∙ sym e

    -- an id that is not another one: nothing is written
    pub passes : (w : ℕ) → is_other v a b w ≡ false → rewritten k v cells (so_far w w) ≡ rewritten k v cells (so_far (w + 1) (w + 1))
    passes w e = rewrite_same k v cells (so_far w w) (so_far (w + 1) (w + 1)) (λ p q. ap₂ (λ x y. cond (eqb p (next v) && x) (Some (joined_amount k v cells a b q)) (cond (eqb q (next v) && y) (Some (joined_amount k v cells a b p)) None)) (same q (cases_eq q w)) (same p (cases_eq p w)))
      where
        same : (q : ℕ) → (q ≡ w) ⊎ (q ≡ w → ⊥) → below w q ≡ below (w + 1) q
        same q (inl s) = let none = ap (is_other v a b) s ∙ e in and_left (is_other v a b q) (ltb q w) none ∙ sym (and_left (is_other v a b q) (ltb q (w + 1)) none)
        same q (inr d) = ap (λ t. is_other v a b q && t) (sym (ltb_more q w d))

    module _ (w : ℕ) (e : is_other v a b w ≡ true) where
      old : (i : ℕ) → v.live i ≡ true → i ≡ next v → ⊥
      old i l s = both_ways (v.live (next v)) unused (ap v.live (sym s) ∙ l)

      w_old : w ≡ next v → ⊥
      w_old = old w (other_facts v a b w e).0

      w_in : w < width v
      w_in = live_in w (other_facts v a b w e).0

      -- what is read on the way is not written
      unwritten : (m i : ℕ) → v.live i ≡ true → amount_in k v (rewritten k v cells (so_far m m)) i w ≡ amount_in k v cells i w
      unwritten m i l =
          amount_rewritten k v cells (so_far m m) room i w (live_in i l) w_in
          ∙ ap (λ t. unwrap_or t (amount_in k v cells i w)) (so_far_none m m i w (and_left (eqb i (next v)) _ (ne_eqb i (next v) (old i l))) (and_left (eqb w (next v)) _ (ne_eqb w (next v) w_old)))

      here : below (w + 1) w ≡ true
      here = and_from (is_other v a b w) (ltb w (w + 1)) e (lt-ltb w (w + 1) (omega arith))

      kept : (p q : ℕ) → (p ≡ next v → q ≡ w → ⊥) → (p ≡ next v) ⊎ (p ≡ next v → ⊥) → (eqb p (next v) && below (w + 1) q) ≡ (eqb p (next v) && below w q)
      kept p q d (inl s) = ap (λ t. eqb p (next v) && (is_other v a b q && t)) (ltb_more q w (d s))
      kept p q d (inr s) = let none = ne_eqb p (next v) s in and_left (eqb p (next v)) (below (w + 1) q) none ∙ sym (and_left (eqb p (next v)) (below w q) none)

      both_written : set (set (rewritten k v cells (so_far w w)) (next v * width v + w) (joined_amount k v cells a b w)) (w * width v + next v) (joined_amount k v cells a b w) ≡ rewritten k v cells (so_far (w + 1) (w + 1))
      both_written =
          ap (λ c. set c (w * width v + next v) (joined_amount k v cells a b w))
          (rewrite_one k v cells (so_far w w) (so_far (w + 1) w) (next v) w (joined_amount k v cells a b w) w_in (place (width v) (next v) w (length cells) room fits w_in)
          (cond-true (eqb (next v) (next v) && below (w + 1) w) _ _ (and_from (eqb (next v) (next v)) (below (w + 1) w) (eq-eqb (next v) (next v) refl) here))
          (λ p q d. ap (λ t. cond t (Some (joined_amount k v cells a b q)) (cond (eqb q (next v) && below w p) (Some (joined_amount k v cells a b p)) None)) (kept p q d (cases_eq p (next v)))))
          ∙ rewrite_one k v cells (so_far (w + 1) w) (so_far (w + 1) (w + 1)) w (next v) (joined_amount k v cells a b w) fits (place (width v) w (next v) (length cells) room w_in fits)
          (cond-false (eqb w (next v) && below (w + 1) (next v)) _ _ (and_left (eqb w (next v)) _ (ne_eqb w (next v) w_old))
          ∙ cond-true (eqb (next v) (next v) && below (w + 1) w) _ _ (and_from (eqb (next v) (next v)) (below (w + 1) w) (eq-eqb (next v) (next v) refl) here))
          (λ p q d. ap (λ t. cond (eqb p (next v) && below (w + 1) q) (Some (joined_amount k v cells a b q)) (cond t (Some (joined_amount k v cells a b p)) None)) (kept q p (λ x y. d y x) (cases_eq q (next v))))

      -- a turn of the loop: the two amounts are read, and their sum is put twice
      pub written : v.live a ≡ true → v.live b ≡ true → (id wide : ℕ) (before between after : List A) (x y sum : A) → id ≡ next v → wide ≡ width v → before ≡ rewritten k v cells (so_far w w) → x ≡ amount_in k v before a w → y ≡ amount_in k v before b w → sum ≡ k.sum x y → between ≡ set before (id * wide + w) sum → after ≡ set between (w * wide + id) sum → after ≡ rewritten k v cells (so_far (w + 1) (w + 1))
      written la lb id wide before between after x y sum e1 e2 e3 e4 e5 e6 e7 e8 =
          let is_x : x ≡ amount_in k v cells a w = e4 ∙ ap (λ l. amount_in k v l a w) e3 ∙ unwritten w a la in
          let is_y : y ≡ amount_in k v cells b w = e5 ∙ ap (λ l. amount_in k v l b w) e3 ∙ unwritten w b lb in
          let is_sum : sum ≡ joined_amount k v cells a b w = e6 ∙ ap₂ k.sum is_x is_y in
          let end = both_written in
          cc

-- What loading has written: the first m amounts of the square.
module _ {A : Type 0} (k : Kind A) (job : Job A) (cells : List A) where
  abbrev n : ℕ
  n = job.parts

  abbrev is_loaded : ℕ → ℕ → ℕ → Bool
  is_loaded m p q = ltb (p * n + q) m && ltb q n

  abbrev pub loaded_so_far : ℕ → ℕ → ℕ → Option A
  loaded_so_far m p q = cond (is_loaded m p q) (Some (amount_at k job p q)) None

  pub load_starts : cells ≡ rewritten k (start job) cells (loaded_so_far 0)
  load_starts = rewrite_none k (start job) cells (loaded_so_far 0) (λ p q. cond-false (is_loaded 0 p q) _ _ (and_left (ltb (p * n + q) 0) (ltb q n) (none_below (p * n + q))))

  pub load_ends : rewritten k (start job) cells (loaded_so_far (n * n)) ≡ loaded_cells k job cells
  load_ends = rewrite_same k (start job) cells (loaded_so_far (n * n)) _ (λ p q. ap (λ x. cond x (Some (amount_at k job p q)) None) (go p q (cases_lt q n) (cases_lt p n)))
    where
      go : (p q : ℕ) → (q < n) ⊎ (n ≤ q) → (p < n) ⊎ (n ≤ p) → is_loaded (n * n) p q ≡ (ltb p n && ltb q n)
      go p q (inr h) y = and_right (ltb (p * n + q) (n * n)) (ltb q n) (le-ltb q n h) ∙ sym (and_right (ltb p n) (ltb q n) (le-ltb q n h))
      go p q (inl h) (inl l) = ap (λ x. x && ltb q n) (lt-ltb (p * n + q) (n * n) (mul-add-lt p n q n l h) ∙ sym (lt-ltb p n l))
      go p q (inl h) (inr l) = ap (λ x. x && ltb q n) (le-ltb (p * n + q) (n * n) (omega (arith, mul-le-mul_right n l)) ∙ sym (le-ltb p n l))

  pub load_written : (m : ℕ) → 0 < n → n ≤ width (start job) → m / n * width (start job) + m % n < length cells → set (rewritten k (start job) cells (loaded_so_far m)) (m / n * width (start job) + m % n) (get_or job.square m k.zero) ≡ rewritten k (start job) cells (loaded_so_far (m + 1))
  load_written m some wide there = rewrite_one k (start job) cells (loaded_so_far m) (loaded_so_far (m + 1)) (m / n) (m % n) (get_or job.square m k.zero) (omega (arith, inside)) there
      (cond-true (is_loaded (m + 1) (m / n) (m % n)) _ _ (and_from (ltb (m / n * n + m % n) (m + 1)) (ltb (m % n) n) (lt-ltb (m / n * n + m % n) (m + 1) (omega (arith, is))) (lt-ltb (m % n) n inside)) ∙ ap (λ c. Some (get_or job.square c k.zero)) is)
      (λ p q d. ap (λ x. cond x (Some (amount_at k job p q)) None) (kept p q d (cases_lt q n)))
    where
      is : m / n * n + m % n ≡ m
      is = div-add-mod' m n

      inside : m % n < n
      inside = mod_below m n some

      kept : (p q : ℕ) → (p ≡ m / n → q ≡ m % n → ⊥) → (q < n) ⊎ (n ≤ q) → is_loaded (m + 1) p q ≡ is_loaded m p q
      kept p q d (inr h) = and_right (ltb (p * n + q) (m + 1)) (ltb q n) (le-ltb q n h) ∙ sym (and_right (ltb (p * n + q) m) (ltb q n) (le-ltb q n h))
      kept p q d (inl h) = ap (λ x. x && ltb q n) (ltb_more (p * n + q) m (λ e. d (sym (div-mul-add p n q h) ∙ ap (λ c. c / n) e) (sym (mod-mul-add p n q h) ∙ ap (λ c. c % n) e)))
