-- Laws: what a visit says of the page, and a visit by its tests. Cited by the laws of insertion and of removal. Assumes nothing.
use Rattle.std.specs.Prelude.{ℕ, ◌≡◌, true, false, List, length}
use Rattle.std.proofs.Common.{sym}
use Rattle.std.proofs.Math.Path.{ap}
use Rattle.basis.specs.Tests.{either, impossible}
use Rattle.idx_page.specs.Header.{is_page}
use Rattle.idx_page.specs.Page.{attribute_at, leaf_bit}
use Rattle.idx_page.specs.Reading.{Item}
use Rattle.idx_page.specs.declared.PageOffset.{PageOffset}
use Rattle.idx_leaf.specs.Leaf.{items_in}
use Rattle.idx_route.specs.Route.{chosen_at, child_of}
use Rattle.idx_route.specs.Visits.{visit_of}
use Rattle.idx_route.specs.declared.Visit.TheVariants as visit

-- the three kinds of a visit differ
bad-leaf : {X : Type 0} → visit.Bad ≡ visit.Leaf → X
bad-leaf e = impossible cc

bad-child : {X : Type 0} {i : ℕ} {c : PageOffset} → visit.Bad ≡ visit.Child i c → X
bad-child e = impossible cc

leaf-child : {X : Type 0} {i : ℕ} {c : PageOffset} → visit.Leaf ≡ visit.Child i c → X
leaf-child e = impossible cc

same-child : {i j : ℕ} {c d : PageOffset} → visit.Child i c ≡ visit.Child j d → (i ≡ j) × (c ≡ d)
same-child e = (cc, cc)

-- what a visit says of the page
module _ (b : List ℕ) (item : Item) (p : ℕ) where
  pub visited-bad : visit.Bad ≡ visit_of b item p → is_page (length b) p ≡ false
  unfolding visit_of
  visited-bad e = either (is_page (length b) p)
      (λ t. either (leaf_bit (attribute_at b p)) (λ u. bad-leaf (rw (t, u) at e)) (λ u. bad-child (rw (t, u) at e)))
      (λ t. t)

  pub visited-leaf : visit.Leaf ≡ visit_of b item p → (is_page (length b) p ≡ true) × (leaf_bit (attribute_at b p) ≡ true)
  unfolding visit_of
  visited-leaf e = either (is_page (length b) p)
      (λ t. either (leaf_bit (attribute_at b p)) (λ u. (t, u)) (λ u. leaf-child (rw (t, u) at e)))
      (λ t. bad-leaf (sym (rw t at e)))

  pub visited-child : (i : ℕ) (c : PageOffset) → visit.Child i c ≡ visit_of b item p → let es = items_in (length item.0) b p in
      (is_page (length b) p ≡ true) × (leaf_bit (attribute_at b p) ≡ false) × (i ≡ chosen_at b item es) × (c.0 ≡ child_of (chosen_at b item es) es)
  unfolding visit_of
  visited-child i c e = either (is_page (length b) p)
      (λ t. either (leaf_bit (attribute_at b p))
      (λ u. leaf-child (sym (rw (t, u) at e)))
      (λ u. let same = same-child (rw (t, u) at e) in (t, u, same.0, ap (λ (q : PageOffset). q.0) same.1)))
      (λ t. bad-child (sym (rw t at e)))

-- a visit by its tests
module _ (b : List ℕ) (item : Item) (p : ℕ) where
  pub visit-bad : is_page (length b) p ≡ false → visit.Bad ≡ visit_of b item p
  unfolding visit_of
  visit-bad t = rw t

  pub visit-leaf : {a : ℕ} → is_page (length b) p ≡ true → a ≡ attribute_at b p → leaf_bit a ≡ true → visit.Leaf ≡ visit_of b item p
  unfolding visit_of
  visit-leaf {a} t e h = rw (t, ← e, h)

  pub visit-child : {a i : ℕ} {c : PageOffset} → is_page (length b) p ≡ true → a ≡ attribute_at b p → leaf_bit a ≡ false
      → i ≡ chosen_at b item (items_in (length item.0) b p) → c.0 ≡ child_of i (items_in (length item.0) b p) → visit.Child i c ≡ visit_of b item p
  unfolding visit_of
  visit-child {a} {i} {c} t e h f q = rw (t, ← e, h, ← f, ← q)
