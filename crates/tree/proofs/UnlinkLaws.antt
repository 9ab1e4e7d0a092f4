-- Laws: if the pages of a level name their neighbours, they do so again after one of them is unlinked; and so do the pages of levels that have no page in
-- common, after pages of any of them are unlinked. Cited by the laws of links after a removal. Assumes nothing.
use Rattle.std.specs.Prelude.{◌≡◌, refl, List, [], ◌∷◌, ◌++◌, ℕ, ◌+◌, ◌≤◌, ◌<◌, eqb}
use Rattle.std.proofs.Common.{sym, ap, ◌∙◌, arith, eqb-true, eq-eqb, ne_eqb}
use Rattle.std.proofs.lemmas.Bool.{eqb-false}
use Rattle.basis.specs.Tests.{either}
use Rattle.tree.specs.Lists.{occ}
use Rattle.tree.proofs.ListLaws.{occ-head, occ-here, occ-behind, occ_differ, occ_not_head}
use Rattle.tree.specs.Clauses.{Links, head_or, Linked}
use Rattle.tree.proofs.Insertion.Pages.{Distinct}
use Rattle.tree.proofs.LinkLaws.{SameLinks, linked-same, head_or_differ}
use Rattle.tree.specs.Unlinking.{unlink, unlink_all, without, without_all}

-- a list of pages without page p
without-absent : (p : ℕ) (l : List ℕ) → occ p l ≡ 0 → without p l ≡ l
without-absent p [] o = refl
without-absent p (x ∷ xs) o = rw (ne_eqb x p (λ e. occ_not_head p x xs o (sym e))) (ap (λ l. x ∷ l) (without-absent p xs (omega arith)))

without_append : (p : ℕ) (xs ys : List ℕ) → without p (xs ++ ys) ≡ without p xs ++ without p ys
without_append p [] ys = refl
without_append p (x ∷ xs) ys = either (eqb x p)
    (λ e. rw e (without_append p xs ys))
    (λ e. rw e (ap (λ l. x ∷ l) (without_append p xs ys)))

pub without-occ : (z p : ℕ) (l : List ℕ) → occ z (without p l) ≤ occ z l
without-occ z p [] = omega arith
without-occ z p (x ∷ xs) = either (eqb x p)
    (λ e. rw e (omega (arith, without-occ z p xs)))
    (λ e. rw e (omega (arith, without-occ z p xs)))

pub without_other : (z p : ℕ) (l : List ℕ) → (z ≡ p → ⊥) → occ z (without p l) ≡ occ z l
without_other z p [] n = refl
without_other z p (x ∷ xs) n = either (eqb x p)
    (λ e. rw (e, ne_eqb z x (λ q. n (q ∙ eqb-true x p e))) (omega (arith, without_other z p xs n)))
    (λ e. rw e (omega (arith, without_other z p xs n)))

pub without-none : (z p : ℕ) (l : List ℕ) → z ≡ p → 0 < occ z (without p l) → ⊥
without-none z p [] n i = omega arith
without-none z p (x ∷ xs) n i = either (eqb x p)
    (λ e. without-none z p xs n (rw e at i))
    (λ e. without-none z p xs n (occ-behind z x (without p xs) (λ q. eqb-false x p e (sym q ∙ n)) (rw e at i)))

-- a list of pages without the pages ps
pub without_all-absent : (ps l : List ℕ) → ((z : ℕ) → 0 < occ z ps → occ z l ≡ 0) → without_all ps l ≡ l
without_all-absent [] l a = refl
without_all-absent (p ∷ ps) l a =
    rw (without-absent p l (a p (occ-here p ps))) (without_all-absent ps l (λ z i. a z (omega arith)))

pub without_all_append : (ps xs ys : List ℕ) → without_all ps (xs ++ ys) ≡ without_all ps xs ++ without_all ps ys
without_all_append [] xs ys = refl
without_all_append (p ∷ ps) xs ys = rw (without_append p xs ys) (without_all_append ps (without p xs) (without p ys))

pub without_all-both : (ps qs l : List ℕ) → without_all (ps ++ qs) l ≡ without_all qs (without_all ps l)
without_all-both [] qs l = refl
without_all-both (p ∷ ps) qs l = without_all-both ps qs (without p l)

module _ (none : ℕ) (l : Links) (p : ℕ) where
  -- a page that is not on p's level is not p's right neighbour, nor its left one
  pub not_right : (z prev : ℕ) (ps : List ℕ) → (z ≡ none → ⊥) → occ z ps ≡ 0 → 0 < occ p ps → Linked none l prev ps → z ≡ l.right p → ⊥
  not_right z prev [] n o i c e = omega arith
  not_right z prev (x ∷ xs) n o i c e = either (eqb p x)
      (λ u. head_or_differ none z xs (omega arith) n (e ∙ (ap l.right (eqb-true p x u) ∙ c.1)))
      (λ u. not_right z x xs n (omega arith) (occ-behind p x xs (eqb-false p x u) i) c.2 e)

  pub not_left : (z prev : ℕ) (ps : List ℕ) → (z ≡ prev → ⊥) → occ z ps ≡ 0 → 0 < occ p ps → Linked none l prev ps → z ≡ l.left p → ⊥
  not_left z prev [] n o i c e = omega arith
  not_left z prev (x ∷ xs) n o i c e = either (eqb p x)
      (λ u. n (e ∙ (ap l.left (eqb-true p x u) ∙ c.0)))
      (λ u. not_left z x xs (occ_not_head z x xs o) (omega arith) (occ-behind p x xs (eqb-false p x u) i) c.2 e)

  -- a page that is neither neighbour of p keeps its links
  unlink-keeps : (z : ℕ) → (z ≡ l.right p → ⊥) → (z ≡ l.left p → ⊥) → SameLinks l (unlink p l) z
  unlink-keeps z u v = (rw (ne_eqb z (l.right p) u), rw (ne_eqb z (l.left p) v))

  -- the pages behind p, of which the first gets p's left neighbour
  linked-behind : (prev : ℕ) (ps : List ℕ) → Distinct ps → occ prev ps ≡ 0 → l.left p ≡ prev → l.right p ≡ head_or none ps →
      Linked none l p ps → Linked none (unlink p l) prev ps
  linked-behind prev [] d o e f c = tt
  linked-behind prev (y ∷ ys) d o e f c =
      let far : (z : ℕ) → 0 < occ z (y ∷ ys) → z ≡ l.left p → ⊥ = λ z i q. occ_differ prev z (y ∷ ys) o i (sym (q ∙ e)) in (
        rw (eq-eqb y (l.right p) (sym f)) e,
        rw (ne_eqb y (l.left p) (far y (occ-here y ys))) c.1,
        linked-same none l (unlink p l) y ys
            (λ z i. unlink-keeps z
            (λ q. occ_differ y z ys (omega (arith, d y, occ-head y ys)) i (sym (q ∙ f)))
            (far z (omega arith)))
            c.2,
      )

  -- the right link of a page x that stands before p on the level: p's right neighbour if p is the next page, else as before
  right-again : (x : ℕ) (xs : List ℕ) → Distinct (x ∷ xs) → 0 < occ p xs → l.right x ≡ head_or none xs → Linked none l x xs →
      (unlink p l).right x ≡ head_or none (without p xs)
  right-again x [] d i e c = absurd (omega arith)
  right-again x (y ∷ ys) d i e c = either (eqb y p)
      (λ u. let v : y ≡ p = eqb-true y p u in
      let o : occ p ys ≡ 0 = rw v at (let w : occ y ys ≡ 0 = omega (arith, d y, occ-head y ys) in w) in
      rw (u, without-absent p ys o, eq-eqb x (l.left p) (sym c.0 ∙ ap l.left v)) (ap l.right (sym v) ∙ c.1))
      (λ u. rw (
        u,
        ne_eqb x (l.left p)
            (not_left x y ys (λ q. occ_differ x y (y ∷ ys) (omega (arith, d x, occ-head x (y ∷ ys))) (occ-here y ys) q)
            (omega (arith, d x, occ-head x (y ∷ ys)))
            (occ-behind p y ys (λ q. eqb-false y p u (sym q)) i) c.2),
      ) e)

  -- Theorem: a level is linked again without the page p that is unlinked
  linked-without : (prev : ℕ) (ps : List ℕ) → Distinct ps → occ none ps ≡ 0 → occ prev ps ≡ 0 → 0 < occ p ps →
      Linked none l prev ps → Linked none (unlink p l) prev (without p ps)
  linked-without prev [] d n o i c = tt
  linked-without prev (x ∷ xs) d n o i c =
      let apart : occ x xs ≡ 0 = omega (arith, d x, occ-head x xs) in
      let rest : Distinct xs = λ z. omega (arith, d z) in
      either (eqb x p)
      (λ u. let v : x ≡ p = eqb-true x p u in
      rw (u, without-absent p xs (rw v at apart))
      (linked-behind prev xs rest (omega arith) (ap l.left (sym v) ∙ c.0) (ap l.right (sym v) ∙ c.1) (rw v at c.2)))
      (λ u. let there : 0 < occ p xs = occ-behind p x xs (λ q. eqb-false x p u (sym q)) i in
      let real : x ≡ none → ⊥ = λ q. occ_not_head none x xs n (sym q) in
      rw u (
        rw (ne_eqb x (l.right p) (not_right x x xs real apart there c.2)) c.0,
        right-again x xs d there c.1 c.2,
        linked-without x xs rest (omega arith) apart there c.2,
      ))

  -- Theorem: a level that has no page in common with the level of p stays linked
  linked-apart : (ps qs : List ℕ) → occ none ps ≡ 0 → 0 < occ p qs → Linked none l none qs →
      ((z : ℕ) → 0 < occ z ps → occ z qs ≡ 0) → Linked none l none ps → Linked none (unlink p l) none ps
  linked-apart ps qs n i q a c =
      linked-same none l (unlink p l) none ps
      (λ z o. let real : z ≡ none → ⊥ = λ e. occ_differ none z ps n o (sym e) in
      unlink-keeps z (not_right z none qs real (a z o) i q) (not_left z none qs real (a z o) i q)) c

-- rows of pages, by number up to h, each of which is linked; no page stands in a row twice, or in two rows
pub record Rows (none h : ℕ) (l : Links) (row : ℕ → List ℕ) : Type 0 where
  pub linked : (j : ℕ) → j ≤ h → Linked none l none (row j)
  pub distinct : (j : ℕ) → Distinct (row j)
  pub disjoint : (z i j : ℕ) → (i ≡ j → ⊥) → occ z (row i) + occ z (row j) ≤ 1
  pub proper : (j : ℕ) → occ none (row j) ≡ 0

-- page z is on one of the rows
abbrev pub OnRow : ℕ → (ℕ → List ℕ) → ℕ → Type 0
OnRow h row z = (m : ℕ) × (m ≤ h) × (0 < occ z (row m))

module _ (none h : ℕ) where
  -- the rows without one page
  pub rows-unlink : (l : Links) (row : ℕ → List ℕ) (p : ℕ) → OnRow h row p → Rows none h l row →
      Rows none h (unlink p l) (λ j. without p (row j))
  rows-unlink l row p on r = record {
    linked = λ j lj. either (eqb j on.0)
        (λ e. rw (eqb-true j on.0 e)
        (linked-without none l p none (row on.0) (r.distinct on.0) (r.proper on.0) (r.proper on.0) on.2
        (r.linked on.0 on.1)))
        (λ e. let ne : j ≡ on.0 → ⊥ = eqb-false j on.0 e in
        rw (without-absent p (row j) (omega (arith, on.2, r.disjoint p j on.0 ne)))
        (linked-apart none l p (row j) (row on.0) (r.proper j) on.2 (r.linked on.0 on.1)
        (λ z i. omega (arith, r.disjoint z j on.0 ne)) (r.linked j lj)));
    distinct = λ j z. omega (arith, r.distinct j z, without-occ z p (row j));
    disjoint = λ z i j ne. omega (arith, r.disjoint z i j ne, without-occ z p (row i), without-occ z p (row j));
    proper = λ j. omega (arith, r.proper j, without-occ none p (row j));
  }

  -- Theorem: after the pages ps, each on one of the rows, are unlinked, all rows are linked without them
  pub rows-unlink_all : (ps : List ℕ) (l : Links) (row : ℕ → List ℕ) → Distinct ps → ((z : ℕ) → 0 < occ z ps → OnRow h row z) →
      Rows none h l row → Rows none h (unlink_all ps l) (λ j. without_all ps (row j))
  rows-unlink_all [] l row d on r = r
  rows-unlink_all (p ∷ ps) l row d on r =
      rows-unlink_all ps (unlink p l) (λ j. without p (row j)) (λ z. omega (arith, d z))
      (λ z i. let w : OnRow h row z = on z (omega arith) in
      (w.0, w.1, rw (without_other z p (row w.0) (λ q. occ_differ p z ps (omega (arith, d p, occ-head p ps)) i (sym q))) w.2))
      (rows-unlink l row p (on p (occ-here p ps)) r)
