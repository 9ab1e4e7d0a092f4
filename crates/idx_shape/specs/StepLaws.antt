-- Laws: one page of the audit, by its tests. Cited by the proofs of the functions that check a page. Assumes nothing.
use Rattle.std.specs.Prelude.{ℕ, ◌+◌, ◌-◌, ◌≤◌, ◌<◌, ◌≡◌, refl, Bool, false, ◌&&◌, List, length, eqb, leb, Some, None}
use Rattle.std.proofs.Math.Path.{sym}
use Rattle.std.proofs.Common.{◌∙◌}
use Rattle.std.proofs.Math.Bool.{true}
use Rattle.std.specs.declared.option.Option.{Option}
use Rattle.std.proofs.Math.Option.{none}
use native.Mathlib.Omega.{arith}
use borrow.Author.Tests.{leb-true, le-leb, lt-leb}
use Rattle.basis.specs.Tests.{contra, both}
use Rattle.idx_page.specs.Header.{page_size, features, is_page}
use Rattle.idx_page.specs.HeaderLaws.{IsPage, is-page}
use Rattle.idx_page.specs.Page.{attribute_at, count_at, left_at, right_at, leaf_bit, capacity, count_good}
use Rattle.idx_page.specs.declared.PageOffset.{PageOffset}
use Rattle.idx_page.specs.Reading.{entries_at}
use Rattle.idx_page.specs.Reading.{entries_from}
use Rattle.idx_page.proofs.ReadingLaws.{entries_are, count-read}
use Rattle.idx_sound.specs.AuditTest.{last_pair, leaf_entries_good, entries_fit, page_fits, counted, check_page}
use Rattle.idx_shape.specs.declared.Progress.{Progress}
use Rattle.idx_keys.specs.Places.{InFile, pair_from}
use Rattle.idx_shape.specs.State.{progress_of}

-- the entries of a page
module _ (b : List ℕ) (k size a last p : ℕ) where
  pub entries-leaf : (n : ℕ) (z : Option ℕ) (r : Bool) → n ≡ length (entries_at k size b p) → leaf_bit a ≡ true → pair_from b k z ≡ last_pair none (entries_at k size b last)
      → r ≡ leaf_entries_good (features b) (pair_from b k z) (entries_from b k p n 0) → r ≡ entries_fit b k size a last p
  unfolding entries_fit
  entries-leaf n z r en l ez er = er ∙ rw (l, ← ez, entries_are b k size p n en)

  pub entries-upper : leaf_bit a ≡ false → true ≡ entries_fit b k size a last p
  unfolding entries_fit
  entries-upper l = rw l

-- one page, whose head was read
and-false : (x y z u v : Bool) → (x && (y && (z && u))) ≡ false → false ≡ (x && (y && (z && (u && v))))
and-false true true true true v e = contra refl e
and-false true true true false v e = refl
and-false true true false u v e = refl
and-false true false z u v e = refl
and-false false y z u v e = refl

and-true : (x y z u v : Bool) → (x && (y && (z && u))) ≡ true → v ≡ (x && (y && (z && (u && v))))
and-true true true true true v e = refl
and-true true true true false v e = contra e refl
and-true true true false u v e = contra e refl
and-true true false z u v e = contra e refl
and-true false y z u v e = contra e refl

module _ (b : List ℕ) (k size a p last next : ℕ) where
  pub fits_no_page : is_page size p ≡ false → false ≡ page_fits b k size a p last next
  unfolding page_fits
  fits_no_page e = rw e

  module _ (e : is_page size p ≡ true) (x y z : ℕ) (c : Bool)
      (ex : x ≡ attribute_at b p) (ey : y ≡ count_at b p) (ez : z ≡ left_at b p) (ec : c ≡ count_good k a y) where
    pub fits_not : (eqb x a && (c && (eqb z last && eqb next p))) ≡ false → false ≡ page_fits b k size a p last next
    unfolding page_fits
    fits_not t = rw (e, ← ex, ← ey, ← ez, ← ec) (and-false (eqb x a) c (eqb z last) (eqb next p) (entries_fit b k size a last p) t)

    -- the count of a page that passes is that of the entries that are read of it
    pub fits_count : (eqb x a && (c && (eqb z last && eqb next p))) ≡ true → y ≡ length (entries_at k size b p)
    unfolding count_good
    fits_count t =
        let good : count_good k a y ≡ true = sym ec ∙ (both c _ (both (eqb x a) _ t).1).0 in
        count-read b k size p e y ey (leb-true y (capacity k) (both (leb y (capacity k)) _ good).0)

    pub fits_then : (eqb x a && (c && (eqb z last && eqb next p))) ≡ true → (r : Bool) → r ≡ entries_fit b k size a last p
        → r ≡ page_fits b k size a p last next
    unfolding page_fits
    fits_then t r er = er ∙ rw (e, ← ex, ← ey, ← ez, ← ec) (and-true (eqb x a) c (eqb z last) (eqb next p) (entries_fit b k size a last p) t)

-- one page more
module _ (b : List ℕ) (k size a p : ℕ) where
  pub fits-within : (last next : ℕ) → page_fits b k size a p last next ≡ true → InFile b k size → p + page_size ≤ length b
  unfolding page_fits
  fits-within last next t file =
      let page : IsPage size p = is-page size p (both (is_page size p) _ t).0 in
      omega arith

  module _ (s : Progress) where
    pub page-met : page_fits b k size a p s.last.0 s.next.0 ≡ true → (q : PageOffset) → q.0 ≡ right_at b p
        → check_page b k size a p (progress_of (Some s)) ≡ progress_of (Some (record { last = record { 0 = p }; next = q; left = s.left }))
    unfolding check_page
    page-met f q eq = rw (f, eq)

    pub page-refused : page_fits b k size a p s.last.0 s.next.0 ≡ false → check_page b k size a p (progress_of (Some s)) ≡ progress_of None
    unfolding check_page
    page-refused f = rw f

-- n pages more
module _ (n : ℕ) (s : Progress) where
  pub count-refused : s.left < n → counted n (progress_of (Some s)) ≡ progress_of None
  unfolding counted
  count-refused h = rw (lt-leb n s.left h)

  pub count-taken : n ≤ s.left → counted n (progress_of (Some s)) ≡ progress_of (Some (record { last = s.last; next = s.next; left = s.left - n }))
  unfolding counted
  count-taken h = rw (le-leb n s.left h)
