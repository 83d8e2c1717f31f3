-- What remains before a separation is what it books and what remains after it.
use Rattle.std.proofs.Common.{◌≡◌, ℕ, ◌+◌, ◌*◌, ◌≤◌, true, cond, not, ◌&&◌, eqb, List, ◌++◌, map, sym, ap, ◌∙◌, ap₂, arith}
use Rattle.std.proofs.ByRecursion.{All-weaker}
use Rattle.std.proofs.lemmas.Bool.Decides.{nat_tests}
use Rattle.std.proofs.lemmas.Bool.{cond-false, ne_eqb}
use Rattle.amount.specs.Kind.{Kind, Laws, span_limit}
use Rattle.amount.specs.Totals.{total, spans}
use Rattle.amount.proofs.Totals.{total_cons}
use Rattle.job.specs.Tests.{pairs}
use Rattle.view.specs.View.{View, width, is_open, amount_in}
use Rattle.view.specs.Steps.{is_other, others, separated, separation_booked}
use Rattle.view.specs.Remaining.{RespectsBoard, first_part, share, remaining}
use Rattle.view.proofs.Like.{vals, vals_same, spans_like, total_like}
use Rattle.view.proofs.Split.{split_before, others_pass}
use Rattle.view.specs.Good.{Good}
use Rattle.view.proofs.Good.{Open, good_separated, other_facts}
use Rattle.view.specs.View.{live_amount}
use Rattle.view.proofs.Due.{due, open_due, due_none, due_swap, due_under, spans_map_under, map_same, remaining_due}
use Rattle.view.proofs.Joining.{first_held, open_at}

module _ (v : View) (a b : ℕ) (g : Good v) (o : Open v a b) where
  -- but for the pair itself nothing changes
  apart_same : (i j : ℕ) → (i ≡ a → j ≡ b → ⊥) → (i ≡ b → j ≡ a → ⊥) → (separated v a b).apart i j ≡ v.apart i j
  apart_same i j p q = grind (arith, nat_tests)

  pub apart_pair : (separated v a b).apart a b ≡ true
  apart_pair = grind (arith, nat_tests)

  pub open_same : (i j : ℕ) → (i ≡ a → j ≡ b → ⊥) → (i ≡ b → j ≡ a → ⊥) → is_open (separated v a b) i j ≡ is_open v i j
  open_same i j p q = ap (λ t. (v.live i && v.live j) && (not (eqb i j) && not t)) (apart_same i j p q)

  module _ {A : Type 0} (k : Kind A) (laws : Laws k) (cells : List A) (symmetric : (i j : ℕ) → v.live i ≡ true → v.live j ≡ true → amount_in k v cells i j ≡ amount_in k v cells j i) (labels : List ℕ) (r : RespectsBoard (separated v a b) labels) (h : 8 * spans k (map (λ p. live_amount k v cells p.0 p.1) (pairs (width v))) ≤ span_limit) where
    abbrev D : ℕ → ℕ → A
    D = open_due k v cells labels

    abbrev E : ℕ → ℕ → A
    E = open_due k (separated v a b) cells labels

    abbrev rest : List ℕ
    rest = others v a b

    due_same : (i j : ℕ) → (i ≡ a → j ≡ b → ⊥) → (i ≡ b → j ≡ a → ⊥) → E i j ≡ D i j
    due_same i j p q = ap (λ t. cond t (due k (share v labels i j) (amount_in k v cells i j)) k.zero) (open_same i j p q)

    after_pair : E a b ≡ k.zero
    after_pair = cond-false (is_open (separated v a b) a b) _ k.zero (open_at (separated v a b) a b o.live_a o.live_b o.distinct ∙ ap not apart_pair)

    before_pair : D a b ≡ separation_booked k v cells a b
    before_pair = ap₂ (λ t u. cond t (due k u (amount_in k v cells a b)) k.zero) (open_at v a b o.live_a o.live_b o.distinct ∙ ap not o.not_apart) (ne_eqb _ _ (r.across_apart a b (first_part v a) (first_part v b) apart_pair (first_held v g a o.live_a) (first_held v g b o.live_b)))

    row_a : map (E a) rest ≡ map (D a) rest
    row_a = map_same (E a) (D a) rest (All-weaker (λ i. is_other v a b i ≡ true) (λ w. E a w ≡ D a w) (λ w q. due_same a w (λ _ e. (other_facts v a b w q).2 e) (λ e _. o.distinct e)) rest (others_pass v a b))

    row_b : map (E b) rest ≡ map (D b) rest
    row_b = map_same (E b) (D b) rest (All-weaker (λ i. is_other v a b i ≡ true) (λ w. E b w ≡ D b w) (λ w q. due_same b w (λ e _. o.distinct (sym e)) (λ _ e. (other_facts v a b w q).1 e)) rest (others_pass v a b))

    inner : vals E rest ≡ vals D rest
    inner = vals_same E D (λ i. is_other v a b i ≡ true) (λ x y p q. due_same x y (λ e _. (other_facts v a b x p).1 e) (λ e _. (other_facts v a b x p).2 e)) rest (others_pass v a b)

    others_same : map (E a) rest ++ (map (E b) rest ++ vals E rest) ≡ map (D a) rest ++ (map (D b) rest ++ vals D rest)
    others_same = ap₂ (λ x y. x ++ y) row_a (ap₂ (λ x y. x ++ y) row_b inner)

    pub remaining_separated : remaining k v cells labels ≡ k.sum (separation_booked k v cells a b) (remaining k (separated v a b) cells labels)
    remaining_separated =
        let all : spans k (map (λ p. D p.0 p.1) (pairs (width v))) ≤ spans k (map (λ p. live_amount k v cells p.0 p.1) (pairs (width v))) = spans_map_under k laws (λ p. D p.0 p.1) (λ p. live_amount k v cells p.0 p.1) (pairs (width v)) (λ p. due_under k laws v cells labels p.0 p.1) in
        let also : spans k (map (λ p. E p.0 p.1) (pairs (width v))) ≤ spans k (map (λ p. live_amount k v cells p.0 p.1) (pairs (width v))) = spans_map_under k laws (λ p. E p.0 p.1) (λ p. live_amount k v cells p.0 p.1) (pairs (width v)) (λ p. due_under k laws (separated v a b) cells labels p.0 p.1) in
        let one = split_before v a b D (due_swap k laws v cells labels g symmetric) (due_none k laws v cells labels) o.live_a o.live_b o.distinct (g.live_in a o.live_a) (g.live_in b o.live_b) in
        let two = split_before (separated v a b) a b E (due_swap k laws (separated v a b) cells labels (good_separated v a b g o) symmetric) (due_none k laws (separated v a b) cells labels) o.live_a o.live_b o.distinct (g.live_in a o.live_a) (g.live_in b o.live_b) in
        let sp : spans k (map (λ p. D p.0 p.1) (pairs (width v))) ≡ k.span (D a b) + spans k (map (D a) rest ++ (map (D b) rest ++ vals D rest)) = spans_like k laws one in
        let sq : spans k (map (λ p. E p.0 p.1) (pairs (width v))) ≡ k.span (E a b) + spans k (map (E a) rest ++ (map (E b) rest ++ vals E rest)) = spans_like k laws two in
        let left : total k (map (λ p. D p.0 p.1) (pairs (width v))) ≡ k.sum (D a b) (total k (map (D a) rest ++ (map (D b) rest ++ vals D rest))) = total_like k laws one (omega arith) ∙ total_cons k laws (D a b) (map (D a) rest ++ (map (D b) rest ++ vals D rest)) (omega arith) in
        let right : total k (map (λ p. E p.0 p.1) (pairs (width v))) ≡ k.sum (E a b) (total k (map (E a) rest ++ (map (E b) rest ++ vals E rest))) = total_like k laws two (omega arith) ∙ total_cons k laws (E a b) (map (E a) rest ++ (map (E b) rest ++ vals E rest)) (omega arith) in
        remaining_due k laws v cells labels (omega arith)
        ∙ left
        ∙ ap₂ k.sum before_pair (sym (laws.neutral _) ∙ ap₂ k.sum (sym after_pair) (ap (total k) (sym others_same)) ∙ sym right ∙ sym (remaining_due k laws (separated v a b) cells labels (omega arith)))
