-- Zero is lawful, and the layers are over lawful meanings.
use Rattle.std.specs.Prelude.{◌≡◌, ℕ, ◌≤◌, Bool, cond, List, length, nat_le, refl}
use Rattle.std.proofs.Common.{ap, ap₂, ◌∙◌, arith}
use Rattle.std.proofs.lemmas.Bool.{cond_both}
use Rattle.amount.specs.Kind.{Kind, Laws, AtMost}
use Rattle.amount.proofs.Order.{at_most_itself}
use Rattle.view.specs.Remaining.{remaining}
use Rattle.view.specs.View.{View, ids}
use Rattle.bound.specs.Lawful.{Meaning, max_bound_span, Lawful}
use Rattle.bound.specs.Layers.{zero_meaning, greater_meaning, from_size_meaning}
use Rattle.bound.specs.Least.{remaining_at_least}

module _ {A : Type 0} (k : Kind A) (laws : Laws k) where
  pub zero_lawful : Lawful k (zero_meaning k)
  zero_lawful = record {
    at_least_zero = λ job v cells booked r. at_most_itself k laws k.zero;
    at_most_remaining = λ job v cells booked r labels g p. remaining_at_least k laws job v cells booked r labels;
    narrow = λ job v cells booked r. omega (arith, laws.span_zero);
    unswayed = λ job v cells again booked r a. refl;
  }

  -- a choice between two lawful meanings that no cell but those of pairs of live ids sways
  chosen : (p q : Meaning A) (test : View → List A → Bool) → Lawful k p → Lawful k q → ((v : View) (cells again : List A) → p v cells ≡ p v again → q v cells ≡ q v again → test v cells ≡ test v again) → Lawful k (λ v cells. cond (test v cells) (p v cells) (q v cells))
  chosen p q test lp lq same = record {
    at_least_zero = λ job v cells booked r. cond_both (test v cells) (p v cells) (q v cells) (λ x. AtMost k k.zero x) (λ _. lp.at_least_zero job v cells booked r) (λ _. lq.at_least_zero job v cells booked r);
    at_most_remaining = λ job v cells booked r labels g s. cond_both (test v cells) (p v cells) (q v cells) (λ x. AtMost k x (remaining k v cells labels)) (λ _. lp.at_most_remaining job v cells booked r labels g s) (λ _. lq.at_most_remaining job v cells booked r labels g s);
    narrow = λ job v cells booked r. cond_both (test v cells) (p v cells) (q v cells) (λ x. k.span x ≤ max_bound_span) (λ _. lp.narrow job v cells booked r) (λ _. lq.narrow job v cells booked r);
    unswayed = λ job v cells again booked r a.
        let e = lp.unswayed job v cells again booked r a in
        let f = lq.unswayed job v cells again booked r a in
        ap (λ t. cond t (p v cells) (q v cells)) (same v cells again e f) ∙ ap₂ (cond (test v again)) e f;
  }

  pub greater_lawful : (p q : Meaning A) → Lawful k p → Lawful k q → Lawful k (greater_meaning k p q)
  greater_lawful p q lp lq = chosen q p (λ v cells. k.below (p v cells) (q v cells)) lq lp (λ v cells again f e. ap₂ k.below e f)

  pub from_size_lawful : (m : ℕ) (p : Meaning A) → Lawful k p → Lawful k (from_size_meaning k m p)
  from_size_lawful m p lp = chosen p (zero_meaning k) (λ v cells. nat_le m (length (ids v))) lp zero_lawful (λ v cells again e f. refl)
