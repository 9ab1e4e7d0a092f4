-- Laws: no page is met twice. None is on two levels, since its height is one: the pages of all levels differ if those of each level do. Where leaf keys ascend
-- strictly, no two entries of a level name one page, since the leaf keys under it would stand twice among them. So pages need no marks: counting them is
-- enough. Cited by the laws of sound indexes. Assumes nothing.
use Rattle.std.specs.Prelude.{ℕ, zero, suc, ◌+◌, ◌-◌, ◌≤◌, ◌<◌, ◌≡◌, false, List, [], ◌∷◌, ◌++◌, eqb, ltb}
use Rattle.std.proofs.Common.{sym, ap, subst, arith, eqb-true, ltb-true, ltb-false}
use Rattle.basis.specs.Lists.{All, all_left, all_right, all_map}
use Rattle.basis.specs.Tests.{either, contra}
use Rattle.tree.specs.Lists.{NonEmpty, occ}
use Rattle.tree.proofs.ListLaws.{occ_append, occ-here, occ-all}
use Rattle.tree.specs.Order.{Order}
use Rattle.tree.proofs.OrderLaws.{le_refl}
use Rattle.tree.specs.Pairs.{by_key, Ascending}
use Rattle.tree.proofs.PairLaws.{ascending-right}
use Rattle.tree.proofs.Insertion.Pages.{Distinct}
use Rattle.tree.specs.Store.{Store}
use Rattle.tree.proofs.Levels.{map-append, all-to_map, numbers, below, generation, reached, generations_reached}

module _ {K : Type 0} (S : Store K) where
  -- every page of the levels from the entries es on, h levels in all, has an entry
  abbrev pub Filled : ℕ → List (K × ℕ) → Type 0
  Filled h es = (i : ℕ) → i < h → All (λ e. NonEmpty (S e.1)) (generation S i es)

  module _ (height : ℕ → ℕ) where
    -- the pages that the entries es name have h levels under them, and so on down
    abbrev pub Heights : ℕ → List (K × ℕ) → Type 0
    Heights h es = (i : ℕ) → i ≤ h → All (λ e. height e.1 ≡ h - i) (generation S i es)

    heights-below : (h : ℕ) (es : List (K × ℕ)) → Heights (suc h) es → Heights h (below S es)
    heights-below h es a i l = let d : suc h - suc i ≡ h - i = omega arith in rw d at (a (suc i) (omega arith))

    lower-pages : (h : ℕ) (es : List (K × ℕ)) → Heights h es → All (λ p. height p ≤ h) (reached S (suc h) es)
    lower-pages h es a = generations_reached S (λ p. height p ≤ h) (suc h) es (λ i l.
        all-to_map (λ p. height p ≤ h) (λ e. e.1) (generation S i es)
        (all_map (λ e. height e.1 ≡ h - i) (λ e. height e.1 ≤ h) (λ e q. omega arith) (generation S i es) (a i (omega arith))))

    -- Theorem: the pages of the levels from the entries es on differ, if those of each level do and every page has one height
    pub levels-distinct : (h : ℕ) (es : List (K × ℕ)) → Heights h es → ((i : ℕ) → i ≤ h → Distinct (numbers (generation S i es)))
        → Distinct (reached S (suc h) es)
    levels-distinct zero es high d z = omega (arith, occ_append z (numbers es) [], d 0 (omega arith) z)
    levels-distinct (suc h) es high d z =
        let rest = reached S (suc h) (below S es) in
        let under = heights-below h es high in
        let lower = levels-distinct h (below S es) under (λ i o. d (suc i) (omega arith)) z in
        let here = d 0 (omega arith) z in
        let sum = occ_append z (numbers es) rest in
        either (ltb 0 (occ z (numbers es)))
        (λ t. either (ltb 0 (occ z rest))
        (λ u.
        let top = occ-all (λ p. height p ≡ suc h - 0) z (numbers es)
        (all-to_map (λ p. height p ≡ suc h - 0) (λ e. e.1) es (high 0 (omega arith))) (ltb-true 0 (occ z (numbers es)) t) in
        absurd (omega (arith, occ-all (λ p. height p ≤ h) z rest (lower-pages h (below S es) under) (ltb-true 0 (occ z rest) u))))
        (λ u. omega (arith, ltb-false 0 (occ z rest) u)))
        (λ t. omega (arith, ltb-false 0 (occ z (numbers es)) t))

  -- entries that are not empty name a page
  some-page : (es : List (K × ℕ)) → NonEmpty es → (c : ℕ) × (0 < occ c (numbers es))
  some-page [] s = absurd s
  some-page (e ∷ es) s = (e.1, occ-here e.1 (numbers es))

  -- what holds of all entries of a level holds of those of each page above it
  page-all : (P : K × ℕ → Type 0) (z : ℕ) (es : List (K × ℕ)) → 0 < occ z (numbers es) → All P (below S es) → All P (S z)
  page-all P z [] i a = absurd (omega arith)
  page-all P z (e ∷ es) i a = either (eqb z e.1)
      (λ q. subst (λ p. All P (S p)) (sym (eqb-true z e.1 q)) (all_left P (S e.1) (below S es) a))
      (λ q. let l : 0 < 0 + occ z (numbers es) = rw q at i in page-all P z es (omega arith) (all_right P (S e.1) (below S es) a))

  -- a page is named at most as often as a child of it on the level below
  child_often : (z c : ℕ) (es : List (K × ℕ)) → 0 < occ c (numbers (S z)) → occ z (numbers es) ≤ occ c (numbers (below S es))
  child_often z c [] i = omega arith
  child_often z c (e ∷ es) i =
      let later = child_often z c es i in
      let split = ap (occ c) (map-append (λ x. x.1) (S e.1) (below S es)) in
      let sum = occ_append c (numbers (S e.1)) (numbers (below S es)) in
      either (eqb z e.1)
      (λ q. let here : 0 < occ c (numbers (S e.1)) = subst (λ p. 0 < occ c (numbers (S p))) (eqb-true z e.1 q) i in rw q (omega arith))
      (λ q. rw q (omega arith))

  module _ (O : Order K) where
    -- keys that ascend do not stand twice among them
    not_twice : (xs ys : List (K × ℕ)) → NonEmpty xs → Ascending (by_key O) (xs ++ ys) → ((P : K × ℕ → Type 0) → All P ys → All P xs) → ⊥
    not_twice [] ys s a f = s
    not_twice (x ∷ xs) ys s a f =
        let above = f (λ y. O.le y.0 x.0 ≡ false) (all_right (λ y. O.le y.0 x.0 ≡ false) xs ys a.0) in
        contra (le_refl O x.0) above.0

    -- leaves, each with an entry, differ if their keys ascend
    leaves-distinct : (es : List (K × ℕ)) → All (λ e. NonEmpty (S e.1)) es → Ascending (by_key O) (below S es) → Distinct (numbers es)
    leaves-distinct [] s a z = omega arith
    leaves-distinct (e ∷ es) s a z =
        let later = leaves-distinct es s.1 (ascending-right (by_key O) (S e.1) (below S es) a) z in
        either (eqb z e.1)
        (λ q. either (ltb 0 (occ z (numbers es)))
        (λ t.
        let i = ltb-true 0 (occ z (numbers es)) t in
        let d = eqb-true z e.1 q in
        absurd (not_twice (S e.1) (below S es) s.0 a (λ P c. subst (λ p. All P (S p)) d (page-all P z es i c))))
        (λ t. rw q (omega (arith, ltb-false 0 (occ z (numbers es)) t))))
        (λ q. rw q (omega arith))

    -- Theorem: the pages of each level from the entries es on differ, if every page has an entry and leaf keys ascend
    pub ascending-distinct : (h : ℕ) (es : List (K × ℕ)) → Filled (suc h) es → Ascending (by_key O) (generation S (suc h) es)
        → (i : ℕ) → i ≤ h → Distinct (numbers (generation S i es))
    ascending-distinct zero es full a zero l z = leaves-distinct es (full 0 (omega arith)) a z
    ascending-distinct zero es full a (suc i) l z = absurd (omega arith)
    ascending-distinct (suc h) es full a zero l z =
        let under = ascending-distinct h (below S es) (λ i o. full (suc i) (omega arith)) a 0 (omega arith) in
        either (ltb 0 (occ z (numbers es)))
        (λ t.
        let filled = occ-all (λ p. NonEmpty (S p)) z (numbers es) (all-to_map (λ p. NonEmpty (S p)) (λ e. e.1) es (full 0 (omega arith)))
        (ltb-true 0 (occ z (numbers es)) t) in
        let c = some-page (S z) filled in
        omega (arith, child_often z c.0 es c.1, under c.0))
        (λ t. omega (arith, ltb-false 0 (occ z (numbers es)) t))
    ascending-distinct (suc h) es full a (suc i) l z =
        ascending-distinct h (below S es) (λ i o. full (suc i) (omega arith)) a i (omega arith) z
