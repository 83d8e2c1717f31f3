-- What the tests of a job and of a grouping tell, and so what each answer tells.
use Rattle.std.proofs.Common.{◌≡◌, ℕ, ◌*◌, ◌<◌, ◌≤◌, Bool, true, false, not, ◌&&◌, ◌||◌, eqb, leb, ◌⊎◌, List, length, Some, None, Ok, Err, Decides, Option, Result, sym, refl, ap, ◌∙◌, subst, inl, inr, arith}
use Rattle.std.proofs.lemmas.Bool.{leb-true, le-leb, cases_eq, cases_order, both_ways, true≢false, false≢true}
use Rattle.std.specs.List.{All}
use Rattle.std.proofs.lemmas.List.Elements.{All-get_or, All-from_get_or}
use Rattle.std.proofs.lemmas.Bool.Decides.{Decides-by_and, Decides-and, Decides-or, Decides-not, Decides-eqb, Decides-like, not_from_Decides}
use Rattle.amount.specs.Kind.{Kind, Laws}
use Rattle.amount.proofs.Order.{same_is}
use Rattle.job.specs.Tests.{alike, refuse_unless, refuse_or}
use Rattle.job.specs.Job.{Job, amount_at, marked, max_span, max_parts, Within, Sized, Mirrored, Narrow, Sound, is_within, is_sized, is_mirrored_at, is_mirrored, is_narrow}
use Rattle.job.specs.Grouping.{Grouping, Respects, label, together, is_label, is_grouping, is_respectful}
use Rattle.job.specs.Cost.{cost}
use Rattle.job.specs.Answers.{checked, priced, refused_with, FirstBroken, job_rules, cost_rules}
use Rattle.job.specs.Refusals.{job_number, cost_number}
use Rattle.job.specs.declared.JobRefusal.{JobRefusal}
use Rattle.job.specs.declared.JobRefusal.TheVariants.{PartCount, WrongSize, Lopsided, TooWide}
use Rattle.job.specs.declared.CostRefusal.{CostRefusal}
use Rattle.job.specs.declared.CostRefusal.TheVariants as pricing
use Rattle.job.proofs.Every.{every_tells, every_pair_tells}

pub leb_tells : (a b : ℕ) → Decides (leb a b) (a ≤ b)
leb_tells a b = (leb-true a b, le-leb a b)

alike_tells : (a b : Bool) → Decides (alike a b) (a ≡ b)
alike_tells true true = (λ _. refl, λ _. refl)
alike_tells true false = (λ e. absurd (false≢true e), λ e. absurd (true≢false e))
alike_tells false true = (λ e. absurd (false≢true e), λ e. absurd (false≢true e))
alike_tells false false = (λ _. refl, λ _. refl)

pub not_tells : (m : Bool) → Decides (not m) (m ≡ false)
not_tells true = (λ e. absurd (false≢true e), λ e. absurd (true≢false e))
not_tells false = (λ _. refl, λ _. refl)

-- a test that denies two at once
pub not_both_tells : {P Q : Type 0} (a b : Bool) → Decides a P → Decides b Q → Decides (not (a && b)) (P → Q → ⊥)
not_both_tells a b d e = Decides-like (not (a && b)) (λ n p q. n (p, q)) (λ n h. n h.0 h.1) (Decides-not (a && b) (Decides-and a b d e))

-- a test that is asked only where i is j
where_same : {P : Type 0} (i j : ℕ) (t : Bool) → Decides t P → Decides (not (eqb i j) || t) (i ≡ j → P)
where_same {P} i j t d = Decides-like (not (eqb i j) || t) to from (Decides-or (not (eqb i j)) t (Decides-not (eqb i j) (Decides-eqb i j)) d)
  where
    to : (i ≡ j → ⊥) ⊎ P → i ≡ j → P
    to (inl n) e = absurd (n e)
    to (inr p) e = p

    pick : (i ≡ j → P) → (i ≡ j) ⊎ (i ≡ j → ⊥) → (i ≡ j → ⊥) ⊎ P
    pick h (inl e) = inr (h e)
    pick h (inr n) = inl n

    from : (i ≡ j → P) → (i ≡ j → ⊥) ⊎ P
    from h = pick h (cases_eq i j)

-- n labels are a grouping exactly if the test says so
pub grouping_tells : (n : ℕ) (labels : List ℕ) → length labels ≡ n → Decides (is_grouping n labels) (Grouping n labels)
grouping_tells n labels counted = Decides-like (is_grouping n labels) to from (every_tells (is_label labels) (λ p. (label labels p ≤ p) × (label labels (label labels p) ≡ label labels p)) (λ p. Decides-and _ _ (leb_tells (label labels p) p) (Decides-eqb _ _)) n)
  where
    to : ((p : ℕ) → p < n → (label labels p ≤ p) × (label labels (label labels p) ≡ label labels p)) → Grouping n labels
    to h = record { counted = counted; inside = λ p l. (h p l).1; smallest = λ p q l m e. omega (arith, e, (h q m).0) }

    from : Grouping n labels → (p : ℕ) → p < n → (label labels p ≤ p) × (label labels (label labels p) ≡ label labels p)
    from g p l = (g.smallest p p l l refl, g.inside p l)

-- with marks on both sides of the diagonal and none on it, pairs with i below j are all
pub respect_tells : {A : Type 0} (k : Kind A) (job : Job A) (labels : List ℕ) → Mirrored k job → Decides (is_respectful job labels) (Respects job labels)
respect_tells {A} k job labels mirrored = Decides-like (is_respectful job labels) to from (every_pair_tells _ _ (λ i j. not_both_tells (marked job i j) (together labels i j) ((λ e. e), (λ e. e)) (Decides-eqb (label labels i) (label labels j))) job.parts)
  where
    pick : ((j : ℕ) → j < job.parts → (i : ℕ) → i < j → marked job i j ≡ true → label labels i ≡ label labels j → ⊥) → (i j : ℕ) → i < job.parts → j < job.parts → marked job i j ≡ true → label labels i ≡ label labels j → (i ≡ j) ⊎ ((i < j) ⊎ (j < i)) → ⊥
    pick h i j p q m s (inl e) = both_ways (marked job i i) (mirrored.marks_diagonal i p) (ap (marked job i) e ∙ m)
    pick h i j p q m s (inr (inl l)) = h j q i l m s
    pick h i j p q m s (inr (inr l)) = h i p j l (mirrored.marks_symmetric j i q p ∙ m) (sym s)

    to : ((j : ℕ) → j < job.parts → (i : ℕ) → i < j → marked job i j ≡ true → label labels i ≡ label labels j → ⊥) → Respects job labels
    to h i j p q m s = pick h i j p q m s (cases_order i j)

    from : Respects job labels → (j : ℕ) → j < job.parts → (i : ℕ) → i < j → marked job i j ≡ true → label labels i ≡ label labels j → ⊥
    from h j q i l = h i j (omega arith) q

module _ {A : Type 0} (k : Kind A) (laws : Laws k) (job : Job A) where
  pub within_tells : Decides (is_within job) (Within job)
  within_tells = Decides-and (leb 1 job.parts) (leb job.parts max_parts) (leb_tells 1 job.parts) (leb_tells job.parts max_parts)

  pub sized_tells : Decides (is_sized job) (Sized job)
  sized_tells = Decides-and (eqb (length job.square) (job.parts * job.parts)) (eqb (length job.marks) (job.parts * job.parts)) (Decides-eqb _ _) (Decides-eqb _ _)

  abbrev MirroredAt : ℕ → ℕ → Type 0
  MirroredAt i j = ((amount_at k job i j ≡ amount_at k job j i) × (marked job i j ≡ marked job j i)) × (i ≡ j → (amount_at k job i i ≡ k.zero) × (marked job i i ≡ false))

  mirrored_at_tells : (i j : ℕ) → Decides (is_mirrored_at k job i j) (MirroredAt i j)
  mirrored_at_tells i j =
      let a = same_is k laws (amount_at k job i j) (amount_at k job j i) in
      let b = alike_tells (marked job i j) (marked job j i) in
      let c = same_is k laws (amount_at k job i i) k.zero in
      let d = not_tells (marked job i i) in
      Decides-and _ _ (Decides-and _ _ a b) (where_same i j _ (Decides-and _ _ c d))

  pub mirrored_tells : Decides (is_mirrored k job) (Mirrored k job)
  mirrored_tells = Decides-like (is_mirrored k job) to from (every_tells _ _ (λ i. every_tells _ _ (mirrored_at_tells i) job.parts) job.parts)
    where
      to : ((i : ℕ) → i < job.parts → (j : ℕ) → j < job.parts → MirroredAt i j) → Mirrored k job
      to h = record {
        square_symmetric = λ i j p q. (h i p j q).0.0;
        square_diagonal = λ i p. ((h i p i p).1 refl).0;
        marks_symmetric = λ i j p q. (h i p j q).0.1;
        marks_diagonal = λ i p. ((h i p i p).1 refl).1;
      }

      from : Mirrored k job → (i : ℕ) → i < job.parts → (j : ℕ) → j < job.parts → MirroredAt i j
      from e i p j q = ((e.square_symmetric i j p q, e.marks_symmetric i j p q), λ _. (e.square_diagonal i p, e.marks_diagonal i p))

  pub mirrored_told : is_mirrored k job ≡ true → Mirrored k job
  mirrored_told = mirrored_tells.0

  pub narrow_tells : Decides (is_narrow k job.square) (Narrow k job.square)
  narrow_tells = Decides-like (is_narrow k job.square) to from (Decides-by_and (λ x. leb (k.span x) max_span) (λ x. k.span x ≤ max_span) (is_narrow k) (λ x. leb_tells (k.span x) max_span) refl (λ _ _. refl) job.square)
    where
      to : All (λ x. k.span x ≤ max_span) job.square → Narrow k job.square
      to h c l = All-get_or (λ x. k.span x ≤ max_span) job.square c k.zero l h

      from : Narrow k job.square → All (λ x. k.span x ≤ max_span) job.square
      from h = All-from_get_or (λ x. k.span x ≤ max_span) job.square k.zero h

  -- every rule kept makes a sound job
  pub sound_from : FirstBroken (job_rules k job) None → Sound k job
  sound_from h = record { within = h.0; sized = h.1.0; mirrored = h.1.1.0; narrow = h.1.1.1.0 }

  check_tells : FirstBroken (job_rules k job) (refused_with job_number (checked k job))
  check_tells = go (is_within job) (is_sized job) (is_mirrored k job) (is_narrow k job.square) within_tells sized_tells mirrored_tells narrow_tells
    where
      go : (a b c d : Bool) → Decides a (Within job) → Decides b (Sized job) → Decides c (Mirrored k job) → Decides d (Narrow k job.square) → FirstBroken (job_rules k job) (refused_with {T = Unit {0}} job_number (refuse_unless a PartCount (refuse_unless b WrongSize (refuse_unless c Lopsided (refuse_unless d TooWide (Ok tt))))))
      go false b c d p q r s = inl (not_from_Decides false p refl, refl)
      go true false c d p q r s = inr (p.0 refl, inl (not_from_Decides false q refl, refl))
      go true true false d p q r s = inr (p.0 refl, inr (q.0 refl, inl (not_from_Decides false r refl, refl)))
      go true true true false p q r s = inr (p.0 refl, inr (q.0 refl, inr (r.0 refl, inl (not_from_Decides false s refl, refl))))
      go true true true true p q r s = (p.0 refl, (q.0 refl, (r.0 refl, (s.0 refl, tt))))

  -- an answer that is the check's tells what the check's does
  pub check_told : (r : Result (Unit {0}) JobRefusal) → r ≡ checked k job → FirstBroken (job_rules k job) (refused_with job_number r)
  check_told r e = subst (λ x. FirstBroken (job_rules k job) (refused_with job_number x)) (sym e) check_tells

  -- with more rules behind those of the job
  module _ (labels : List ℕ) where
    abbrev Told : Option ℕ → Type 0
    Told = FirstBroken (cost_rules k job labels)

    broken_first : (n : ℕ) → FirstBroken (job_rules k job) (Some n) → Told (Some n)
    broken_first n (inl h) = inl h
    broken_first n (inr (a, inl h)) = inr (a, inl h)
    broken_first n (inr (a, inr (b, inl h))) = inr (a, inr (b, inl h))
    broken_first n (inr (a, inr (b, inr (c, inl h)))) = inr (a, inr (b, inr (c, inl h)))
    broken_first n (inr (a, inr (b, inr (c, inr (d, h))))) = absurd h

    price_tells : Told (refused_with cost_number (priced k job labels))
    price_tells = first (checked k job) check_tells
      where
        rest : FirstBroken (job_rules k job) None → (a b c : Bool) → Decides a (length labels ≡ job.parts) → (length labels ≡ job.parts → Decides b (Grouping job.parts labels)) → Decides c (Respects job labels) → Told (refused_with cost_number (refuse_unless a pricing.LabelCount (refuse_unless b pricing.NotGrouping (refuse_unless c pricing.Marked (Ok (cost k job labels))))))
        rest h false b c p q r = inr (h.0, inr (h.1.0, inr (h.1.1.0, inr (h.1.1.1.0, inl (not_from_Decides false p refl, refl)))))
        rest h true false c p q r = inr (h.0, inr (h.1.0, inr (h.1.1.0, inr (h.1.1.1.0, inr (p.0 refl, inl (not_from_Decides false (q (p.0 refl)) refl, refl))))))
        rest h true true false p q r = inr (h.0, inr (h.1.0, inr (h.1.1.0, inr (h.1.1.1.0, inr (p.0 refl, inr ((q (p.0 refl)).0 refl, inl (not_from_Decides false r refl, refl)))))))
        rest h true true true p q r = (h.0, (h.1.0, (h.1.1.0, (h.1.1.1.0, (p.0 refl, ((q (p.0 refl)).0 refl, (r.0 refl, tt)))))))

        first : (r : Result (Unit {0}) JobRefusal) → FirstBroken (job_rules k job) (refused_with job_number r) → Told (refused_with cost_number (refuse_or pricing.Job r (refuse_unless (eqb (length labels) job.parts) pricing.LabelCount (refuse_unless (is_grouping job.parts labels) pricing.NotGrouping (refuse_unless (is_respectful job labels) pricing.Marked (Ok (cost k job labels)))))))
        first (Ok _) h = rest h (eqb (length labels) job.parts) (is_grouping job.parts labels) (is_respectful job labels) (Decides-eqb _ _) (grouping_tells job.parts labels) (respect_tells k job labels h.1.1.0)
        first (Err refusal) h = broken_first (job_number refusal) h

    pub price_told : (r : Result A CostRefusal) → r ≡ priced k job labels → Told (refused_with cost_number r)
    price_told r e = subst (λ x. Told (refused_with cost_number x)) (sym e) price_tells
