-- Laws: the audit's walk along the free list, against document 02's clauses on it. Cited by the law that the audit's test accepts exactly the sound indexes.
-- Assumes nothing.
use Prim.Native.Nat.{ℕ, zero, suc, ◌+◌, ◌≤◌}
use Rattle.std.specs.Prelude.{◌≡◌, true, false, length}
use Rattle.std.proofs.Math.Path.{refl, ap}
use Rattle.std.proofs.Common.{sym, ◌∙◌, arith, add-zero}
use mathlib.Core.List.{List, [], ◌∷◌}
use borrow.Author.Tests.{eqb-true, eq-eqb}
use Rattle.basis.specs.Lists.{All}
use Rattle.basis.specs.Tests.{either, contra, both, join}
use Rattle.octets.specs.Bytes.{le16}
use Rattle.octets.specs.NumberLaws.{le16-window}
use Rattle.octets.specs.Store.{window}
use Rattle.octets.specs.Order.{bytes_le, ordering, is_equal}
use Rattle.octets.specs.OrderLaws.{le_antisym, ordering-equal}
use Rattle.tree.specs.FreeChain.{Chained}
use Rattle.idx_page.specs.Header.{no_page, is_page}
use Rattle.idx_page.specs.Page.{attribute_at, count_at, count_place, right_at, right_place, entries_start, entry_area}
use Rattle.idx_page.proofs.ReadingLaws.{window-window}
use Rattle.idx_sound.specs.Sound.{zeros, FreePage}
use Rattle.idx_sound.specs.AuditTest.{is_free_page, free_fits, check_free}

-- byte strings that compare as equal are equal
same_bytes : (a b : List ℕ) → is_equal (ordering a b) ≡ true → a ≡ b
unfolding ordering
same_bytes a b e = either (bytes_le a b)
    (λ l. either (bytes_le b a) (λ m. le_antisym a b l m) (λ m. contra (rw (l, m) at e) refl))
    (λ l. contra (rw l at e) refl)

same-equal : (a b : List ℕ) → a ≡ b → is_equal (ordering a b) ≡ true
same-equal a b e = rw e (rw (ordering-equal b))

-- two bytes of zero
zero-attribute : le16 (window (zeros right_place) 0 2) 0 ≡ 0
unfolding le16 window
zero-attribute = refl

zero-count : le16 (window (zeros right_place) count_place 2) 0 ≡ 0
unfolding le16 window
zero-count = refl

-- a free page's attribute and count are 0
module _ (b : List ℕ) (p : ℕ) (f : FreePage b p) where
  free-number : (i : ℕ) → i + 2 ≤ right_place → le16 (window (zeros right_place) i 2) 0 ≡ 0 → le16 b (p + i) ≡ 0
  free-number i h z =
      sym (le16-window b (p + i))
      ∙ ap (λ (w : List ℕ). le16 w 0) (sym (window-window b p right_place i 2 h) ∙ ap (λ (w : List ℕ). window w i 2) f.0)
      ∙ z

  pub free-attribute : attribute_at b p ≡ 0
  free-attribute = rw add-zero at (free-number 0 (omega arith) zero-attribute)

  pub free-count : count_at b p ≡ 0
  free-count = free-number count_place (omega arith) zero-count

module _ (b : List ℕ) (size : ℕ) where
  -- the test of a free page's bytes
  free-page : (p : ℕ) → is_free_page b p ≡ true → FreePage b p
  unfolding is_free_page
  free-page p e =
      let t = both _ _ e in
      (same_bytes (window b p right_place) (zeros right_place) t.0, same_bytes (window b (p + entries_start) entry_area) (zeros entry_area) t.1)

  page-free : (p : ℕ) → FreePage b p → is_free_page b p ≡ true
  unfolding is_free_page
  page-free p f =
      join _ _ (same-equal (window b p right_place) (zeros right_place) f.0) (same-equal (window b (p + entries_start) entry_area) (zeros entry_area) f.1)

  -- one step of the walk, by what is met
  module _ (n p : ℕ) where
    pub free_stop : free_fits b size p ≡ false → check_free b size (suc n) p ≡ false
    unfolding check_free
    free_stop u = rw (u, check_free)

    pub free_on : free_fits b size p ≡ true → check_free b size (suc n) p ≡ check_free b size n (right_at b p)
    unfolding check_free
    free_on u = rw (u, check_free)

  -- the n pages ps are the free list from p on, each a page of the file, in a free page's form
  pub record Free (n p : ℕ) (ps : List ℕ) : Type 0 where
    pub chained : Chained no_page (right_at b) p ps
    pub inside : All (λ q. is_page size q ≡ true) ps
    pub pages : All (FreePage b) ps
    pub count : length ps ≡ n

  -- one page more at the head
  free_onto : (n p : ℕ) (ps : List ℕ) → free_fits b size p ≡ true → Free n (right_at b p) ps → Free (suc n) p (p ∷ ps)
  unfolding free_fits
  free_onto n p ps u f =
      let v = both _ _ u in
      record { chained = (refl, f.chained); inside = (v.0, f.inside); pages = (free-page p v.1, f.pages); count = ap suc f.count }

  -- a list that was passed is the free list
  pub free-found : (n p : ℕ) → check_free b size n p ≡ true → (ps : List ℕ) × Free n p ps
  unfolding check_free
  free-found zero p e = ([], record { chained = eqb-true p no_page e; inside = tt; pages = tt; count = refl })
  free-found (suc n) p e = either (free_fits b size p)
      (λ u.
      let f = free-found n (right_at b p) (sym (free_on n p u) ∙ e) in
      (p ∷ f.0, free_onto n p f.0 u f.1))
      (λ u. contra (sym (free_stop n p u) ∙ e) refl)

  free-fits : (p : ℕ) → is_page size p ≡ true → FreePage b p → free_fits b size p ≡ true
  unfolding free_fits
  free-fits p i f = join _ _ i (page-free p f)

  -- and back: the free list is passed if n pages are on it
  pub free-passed : (n p : ℕ) (ps : List ℕ) → Free n p ps → check_free b size n p ≡ true
  unfolding check_free
  free-passed zero p [] f = eq-eqb p no_page f.chained
  free-passed zero p (q ∷ ps) f = absurd (omega (arith, f.count))
  free-passed (suc n) p [] f = absurd (omega (arith, f.count))
  free-passed (suc n) p (q ∷ ps) f =
      ap (check_free b size (suc n)) f.chained.0
      ∙ free_on n q (free-fits q f.inside.0 f.pages.0)
      ∙ free-passed n (right_at b q) ps
      (record { chained = f.chained.1; inside = f.inside.1; pages = f.pages.1; count = omega (arith, f.count) })
