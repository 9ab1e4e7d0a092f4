-- Laws: which pages are left alone if pages are unlinked one after another: those that are no neighbour of any at its time; on linked levels these are all
-- pages of other lists, and each page unlinked before. Cited by the laws of the free list. Assumes nothing.
use Rattle.std.specs.Prelude.{◌≡◌, refl, List, [], ◌∷◌, ◌++◌, ℕ, ◌<◌, eqb, ltb}
use Rattle.std.proofs.Common.{sym, arith, eqb-true, ltb-true, ltb-false}
use Rattle.std.proofs.lemmas.Bool.{eqb-false}
use Rattle.basis.specs.Tests.{either}
use Rattle.tree.specs.Clauses.{Links}
use Rattle.tree.specs.Lists.{occ}
use Rattle.tree.proofs.ListLaws.{occ-behind, occ_differ, occ-head, occ-here}
use Rattle.tree.proofs.Insertion.Pages.{Distinct}
use Rattle.tree.specs.Unlinking.{unlink, unlink_all, without}
use Rattle.tree.proofs.UnlinkLaws.{without-occ, without_other, without-none, not_right, not_left, Rows, OnRow, rows-unlink}

-- z is no neighbour of any of the pages ps at the time that it is unlinked, one after another
abbrev pub Away : ℕ → Links → List ℕ → Type 0
Away z l [] = Unit {0}
Away z l (p ∷ ps) = (z ≡ l.left p → ⊥) × (z ≡ l.right p → ⊥) × Away z (unlink p l) ps

-- each of the pages ps is away from those that are unlinked after it
abbrev pub Clear : Links → List ℕ → Type 0
Clear l [] = Unit {0}
Clear l (p ∷ ps) = Away p (unlink p l) ps × Clear (unlink p l) ps

-- z is no neighbour of c
abbrev pub Apart : ℕ → Links → ℕ → Type 0
Apart z l c = (z ≡ l.left c → ⊥) × (z ≡ l.right c → ⊥)

-- the pages before the last, and the last
pub away_first : (z : ℕ) (l : Links) (ps : List ℕ) (c : ℕ) → Away z l (ps ++ (c ∷ [])) → Away z l ps
away_first z l [] c a = tt
away_first z l (p ∷ ps) c a = (a.0, a.1, away_first z (unlink p l) ps c a.2)

pub away_last : (z : ℕ) (l : Links) (ps : List ℕ) (c : ℕ) → Away z l (ps ++ (c ∷ [])) → Apart z (unlink_all ps l) c
away_last z l [] c a = (a.0, a.1)
away_last z l (p ∷ ps) c a = away_last z (unlink p l) ps c a.2

pub clear_first : (l : Links) (ps : List ℕ) (c : ℕ) → Clear l (ps ++ (c ∷ [])) → Clear l ps
clear_first l [] c a = tt
clear_first l (p ∷ ps) c a = (away_first p (unlink p l) ps c a.0, clear_first (unlink p l) ps c a.1)

pub clear-last : (l : Links) (ps : List ℕ) (c : ℕ) → Clear l (ps ++ (c ∷ [])) → (z : ℕ) → 0 < occ z ps → Apart z (unlink_all ps l) c
clear-last l [] c a z o = absurd (omega arith)
clear-last l (p ∷ ps) c a z o = either (eqb z p)
    (λ e. rw (eqb-true z p e) (away_last p (unlink p l) ps c a.0))
    (λ e. clear-last (unlink p l) ps c a.1 z (occ-behind z p ps (eqb-false z p e) o))

module _ (none h : ℕ) where
  -- the pages after the first are on the rows without it
  rest-on : (p : ℕ) (ps : List ℕ) (row : ℕ → List ℕ) → Distinct (p ∷ ps) → ((z : ℕ) → 0 < occ z (p ∷ ps) → OnRow h row z) → (z : ℕ) → 0 < occ z ps
      → OnRow h (λ j. without p (row j)) z
  rest-on p ps row d on z i =
      let w : OnRow h row z = on z (omega arith) in
      (w.0, w.1, rw (without_other z p (row w.0) (λ q. occ_differ p z ps (omega (arith, d p, occ-head p ps)) i (sym q))) w.2)

  -- Theorem: a page on none of the rows is away from pages that are
  pub away_rows : (z : ℕ) → (z ≡ none → ⊥) → (ps : List ℕ) (l : Links) (row : ℕ → List ℕ) → Distinct ps → ((x : ℕ) → 0 < occ x ps → OnRow h row x)
      → Rows none h l row → ((j : ℕ) → occ z (row j) ≡ 0) → Away z l ps
  away_rows z n [] l row d on r o = tt
  away_rows z n (p ∷ ps) l row d on r o =
      let w : OnRow h row p = on p (occ-here p ps) in
      let c = r.linked w.0 w.1 in (
        not_left none l p z none (row w.0) n (o w.0) w.2 c,
        not_right none l p z none (row w.0) n (o w.0) w.2 c,
        away_rows z n ps (unlink p l) (λ j. without p (row j)) (λ x. omega (arith, d x)) (rest-on p ps row d on) (rows-unlink none h l row p w r)
            (λ j. omega (arith, o j, without-occ z p (row j))),
      )

  -- Theorem: each of the pages on the rows is away from those that are unlinked after it
  pub clear-rows : (ps : List ℕ) (l : Links) (row : ℕ → List ℕ) → Distinct ps → ((x : ℕ) → 0 < occ x ps → OnRow h row x) → Rows none h l row → Clear l ps
  clear-rows [] l row d on r = tt
  clear-rows (p ∷ ps) l row d on r =
      let w : OnRow h row p = on p (occ-here p ps) in
      let less : Rows none h (unlink p l) (λ j. without p (row j)) = rows-unlink none h l row p w r in
      let real : p ≡ none → ⊥ = λ e. occ_differ none p (row w.0) (r.proper w.0) w.2 (sym e) in
      let off : (j : ℕ) → occ p (without p (row j)) ≡ 0 = λ j. either (ltb 0 (occ p (without p (row j))))
      (λ u. absurd (without-none p p (row j) refl (ltb-true 0 (occ p (without p (row j))) u)))
      (λ u. omega (arith, ltb-false 0 (occ p (without p (row j))) u)) in (
        away_rows p real ps (unlink p l) (λ j. without p (row j)) (λ x. omega (arith, d x)) (rest-on p ps row d on) less off,
        clear-rows ps (unlink p l) (λ j. without p (row j)) (λ x. omega (arith, d x)) (rest-on p ps row d on) less,
      )
