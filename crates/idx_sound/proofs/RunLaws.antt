-- Laws: the audit passes over the rows of pages of a level to its end exactly if the pages fit, name one another as neighbours, have good entries, and are no
-- more than the file has left. Cited by the laws of levels. Assumes nothing.
use Rattle.std.specs.Prelude.{ℕ, ◌+◌, ◌-◌, ◌≤◌, ◌≡◌, Bool, false, cond, ◌&&◌, leb}
use Rattle.std.proofs.Math.Path.{refl, ap, subst}
use Rattle.std.proofs.Common.{sym, ◌∙◌, arith}
use mathlib.Core.List.{List, [], ◌∷◌, ◌++◌}
use Rattle.std.proofs.Math.Bool.{true}
use Rattle.std.proofs.Math.ListN.{length, length-append}
use borrow.Author.Tests.{eq-eqb, eqb-true, le-leb, leb-true}
use Rattle.basis.specs.Lists.{All}
use Rattle.basis.specs.Tests.{contra, both, join}
use Rattle.tree.specs.Clauses.{head_or, Linked}
use Rattle.idx_page.specs.Header.{no_page, is_page}
use Rattle.idx_page.specs.Page.{attribute_at, count_at, left_at, right_at, count_good}
use Rattle.idx_sound.specs.Sound.{links_of}
use Rattle.idx_sound.specs.AuditTest.{Progress, refused, counted, entries_fit, page_fits, check_page, check_pages, check_rows}

-- a test that picks a good value held
picked : (t : Bool) (x y : Progress) → y.good ≡ false → (cond t x y).good ≡ true → t ≡ true
picked true x y e h = refl
picked false x y e h = contra h e

-- the pages of all rows
abbrev pub joined : List (List ℕ) → List ℕ
joined [] = []
joined (r ∷ rs) = r ++ joined rs

-- a row that was counted
abbrev took : ℕ → Progress → Progress
took n s = record { good = true; last = s.last; next = s.next; left = s.left - n }

counted-took : (n : ℕ) (s : Progress) → s.good ≡ true → n ≤ s.left → counted n s ≡ took n s
unfolding counted
counted-took n s g l = rw (g, le-leb n s.left l)

counted-good : (n : ℕ) (s : Progress) → (counted n s).good ≡ true → (s.good ≡ true) × (n ≤ s.left)
unfolding counted
counted-good n s g =
    let t = both s.good _ (picked (s.good && leb n s.left) (took n s) refused refl g) in
    (t.0, leb-true n s.left t.1)

-- a good progress, by its numbers
abbrev good_at : ℕ → ℕ → ℕ → Progress
good_at last next left = record { good = true; last = last; next = next; left = left }

same_end : {l l' n n' m m' : ℕ} → l ≡ l' → n ≡ n' → m ≡ m' → good_at l n m ≡ good_at l' n' m'
same_end p q r = rw (p, q, r)

module _ (b : List ℕ) (k size a : ℕ) where
  -- a page of the file, with the attribute a and a good count
  pub record Fits (p : ℕ) : Type 0 where
    pub page : is_page size p ≡ true
    pub attribute : attribute_at b p ≡ a
    pub count : count_good k a (count_at b p) ≡ true

  -- each page has good entries: on the left of the first is `last`
  abbrev pub Checked : ℕ → List ℕ → Type 0
  Checked last [] = Unit {0}
  Checked last (p ∷ ps) = (entries_fit b k size a last p ≡ true) × Checked p ps

  -- the pages of a level to its end: on the left of the first is `last`, the first is `next`, and `left` pages are left
  pub record Passed (last next left : ℕ) (ps : List ℕ) : Type 0 where
    pub fit : All Fits ps
    pub head : next ≡ head_or no_page ps
    pub linked : Linked no_page (links_of b) last ps
    pub checked : Checked last ps
    pub few : length ps ≤ left

  -- the last page, and what its right link names
  abbrev last_page : ℕ → List ℕ → ℕ
  last_page last [] = last
  last_page last (p ∷ ps) = last_page p ps

  abbrev last_next : ℕ → List ℕ → ℕ
  last_next next [] = next
  last_next next (p ∷ ps) = last_next (right_at b p) ps

  -- one page after another passes its test
  abbrev Run : ℕ → ℕ → List ℕ → Type 0
  Run last next [] = Unit {0}
  Run last next (p ∷ ps) = (page_fits b k size a p last next ≡ true) × Run p (right_at b p) ps

  run_join : (last next : ℕ) (xs ys : List ℕ) → Run last next xs → Run (last_page last xs) (last_next next xs) ys → Run last next (xs ++ ys)
  run_join last next [] ys r t = t
  run_join last next (x ∷ xs) ys r t = (r.0, run_join x (right_at b x) xs ys r.1 t)

  run-left : (last next : ℕ) (xs ys : List ℕ) → Run last next (xs ++ ys) → Run last next xs
  run-left last next [] ys r = tt
  run-left last next (x ∷ xs) ys r = (r.0, run-left x (right_at b x) xs ys r.1)

  run-right : (last next : ℕ) (xs ys : List ℕ) → Run last next (xs ++ ys) → Run (last_page last xs) (last_next next xs) ys
  run-right last next [] ys r = r
  run-right last next (x ∷ xs) ys r = run-right x (right_at b x) xs ys r.1

  last-join : (last : ℕ) (xs ys : List ℕ) → last_page (last_page last xs) ys ≡ last_page last (xs ++ ys)
  last-join last [] ys = refl
  last-join last (x ∷ xs) ys = last-join x xs ys

  next-join : (next : ℕ) (xs ys : List ℕ) → last_next (last_next next xs) ys ≡ last_next next (xs ++ ys)
  next-join next [] ys = refl
  next-join next (x ∷ xs) ys = next-join (right_at b x) xs ys

  abbrev tested : ℕ → Progress → Bool
  tested p s = s.good && page_fits b k size a p s.last s.next

  abbrev moved : ℕ → Progress → Progress
  moved p s = record { good = true; last = p; next = right_at b p; left = s.left }

  page-test : (p : ℕ) (s : Progress) → (check_page b k size a p s).good ≡ true → tested p s ≡ true
  unfolding check_page
  page-test p s h = picked (tested p s) (moved p s) refused refl h

  page_moves : (p : ℕ) (s : Progress) → tested p s ≡ true → check_page b k size a p s ≡ moved p s
  unfolding check_page
  page_moves p s t = rw t

  good-run : (ps : List ℕ) (s : Progress) → (check_pages b k size a ps s).good ≡ true → (s.good ≡ true) × Run s.last s.next ps
  unfolding check_pages
  good-run [] s h = (h, tt)
  good-run (p ∷ ps) s h =
      let ih = good-run ps (check_page b k size a p s) h in
      let t = page-test p s ih.0 in
      let u = both s.good _ t in
      (u.0, (u.1, rw (page_moves p s t) at ih.1))

  -- what is left of a good run, after n pages were counted
  abbrev ended : ℕ → List ℕ → Progress → Progress
  ended n ps s = record { good = true; last = last_page s.last ps; next = last_next s.next ps; left = s.left - n }

  run_ends : (n : ℕ) (ps : List ℕ) (s : Progress) → Run s.last s.next ps → check_pages b k size a ps (took n s) ≡ ended n ps s
  unfolding check_pages
  run_ends n [] s r = refl
  run_ends n (p ∷ ps) s r =
      let t : tested p (took n s) ≡ true = r.0 in
      ap (check_pages b k size a ps) (page_moves p (took n s) t) ∙ run_ends n ps (moved p s) r.1

  -- the rows of a good pass
  good-rows : (rs : List (List ℕ)) (s : Progress) → (check_rows b k size a rs s).good ≡ true →
      (s.good ≡ true) × Run s.last s.next (joined rs) × (length (joined rs) ≤ s.left)
  unfolding check_rows
  good-rows [] s h = (h, tt, omega arith)
  good-rows (r ∷ rs) s h =
      let n = length r in
      let c = counted n s in
      let ih = good-rows rs (check_pages b k size a r c) h in
      let run = good-run r c ih.0 in
      let taken = counted-good n s run.0 in
      let few = taken.1 in
      let e = counted-took n s taken.0 few in
      let here : Run s.last s.next r = subst (λ (t : Progress). Run t.last t.next r) e run.1 in
      let past : check_pages b k size a r c ≡ ended n r s = ap (check_pages b k size a r) e ∙ run_ends n r s here in
      let rest = subst (λ (t : Progress). Run t.last t.next (joined rs) × (length (joined rs) ≤ t.left)) past (ih.1, ih.2) in
      let room = rest.1 in
      (taken.0, run_join s.last s.next r (joined rs) here rest.0, omega (arith, length-append r (joined rs)))

  rows_end : (rs : List (List ℕ)) (s : Progress) → s.good ≡ true → Run s.last s.next (joined rs) → length (joined rs) ≤ s.left →
      check_rows b k size a rs s ≡ ended (length (joined rs)) (joined rs) s
  unfolding check_rows check_pages
  rows_end [] s g run few =
      ap (λ (x : Bool). record { good = x; last = s.last; next = s.next; left = s.left }) g ∙ same_end refl refl (omega arith)
  rows_end (r ∷ rs) s g run few =
      let n = length r in
      let m = length (joined rs) in
      let sum = length-append r (joined rs) in
      let here = run-left s.last s.next r (joined rs) run in
      let past : check_pages b k size a r (counted n s) ≡ ended n r s =
      ap (check_pages b k size a r) (counted-took n s g (omega arith)) ∙ run_ends n r s here in
      ap (check_rows b k size a rs) past
      ∙ rows_end rs (ended n r s) refl (run-right s.last s.next r (joined rs) run) (omega arith)
      ∙ same_end (last-join s.last r (joined rs)) (next-join s.next r (joined rs)) (omega arith)

  -- one page that fits, with its parts named
  record PageFit (last next p : ℕ) : Type 0 where
    here : Fits p
    left : left_at b p ≡ last
    named : next ≡ p
    entries : entries_fit b k size a last p ≡ true

  page-fit : (last next p : ℕ) → page_fits b k size a p last next ≡ true → PageFit last next p
  unfolding page_fits
  page-fit last next p e =
      let t1 = both _ _ e in
      let t2 = both _ _ t1.1 in
      let t3 = both _ _ t2.1 in
      let t4 = both _ _ t3.1 in
      let t5 = both _ _ t4.1 in
      record {
        here = record { page = t1.0; attribute = eqb-true _ _ t2.0; count = t3.0 };
        left = eqb-true _ _ t4.0;
        named = eqb-true _ _ t5.0;
        entries = t5.1;
      }

  fit-page : (last next p : ℕ) → PageFit last next p → page_fits b k size a p last next ≡ true
  unfolding page_fits
  fit-page last next p f =
      join _ _ f.here.page
      (join _ _ (eq-eqb _ _ f.here.attribute)
      (join _ _ f.here.count
      (join _ _ (eq-eqb _ _ f.left) (join _ _ (eq-eqb _ _ f.named) f.entries))))

  run-passed : (last next left : ℕ) (ps : List ℕ) → Run last next ps → last_next next ps ≡ no_page → length ps ≤ left → Passed last next left ps
  run-passed last next left [] r e few = record { fit = tt; head = e; linked = tt; checked = tt; few = few }
  run-passed last next left (p ∷ ps) r e few =
      let f = page-fit last next p r.0 in
      let ih = run-passed p (right_at b p) left ps r.1 e (omega arith) in
      record {
        fit = (f.here, ih.fit);
        head = f.named;
        linked = (f.left, ih.head, ih.linked);
        checked = (f.entries, ih.checked);
        few = few;
      }

  passed-run : (last next left : ℕ) (ps : List ℕ) → Passed last next left ps → Run last next ps
  passed-run last next left [] r = tt
  passed-run last next left (p ∷ ps) r =
      let few = r.few in (
        fit-page last next p (record { here = r.fit.0; left = r.linked.0; named = r.head; entries = r.checked.0 }),
        passed-run p (right_at b p) left ps
            (record { fit = r.fit.1; head = r.linked.1; linked = r.linked.2; checked = r.checked.1; few = omega arith }),
      )

  passed-end : (last next : ℕ) (ps : List ℕ) → next ≡ head_or no_page ps → Linked no_page (links_of b) last ps → last_next next ps ≡ no_page
  passed-end last next [] e l = e
  passed-end last next (p ∷ ps) e l = passed-end p (right_at b p) ps l.1 l.2

  -- Theorem: rows that are passed over to the end of their level, and how many pages are left then
  pub check_passed : (s : Progress) (rs : List (List ℕ)) → (check_rows b k size a rs s).good ≡ true → (check_rows b k size a rs s).next ≡ no_page →
      Passed s.last s.next s.left (joined rs)
      × ((check_rows b k size a rs s).left + length (joined rs) ≡ s.left)
  check_passed s rs g n =
      let r = good-rows rs s g in
      let few = r.2 in
      let e = rows_end rs s r.0 r.1 few in (
        run-passed s.last s.next s.left (joined rs) r.1 (sym (ap (λ (t : Progress). t.next) e) ∙ n) few,
        omega (arith, ap (λ (t : Progress). t.left) e),
      )

  -- and back
  pub passed_check : (s : Progress) (rs : List (List ℕ)) → s.good ≡ true → Passed s.last s.next s.left (joined rs) →
      ((check_rows b k size a rs s).good ≡ true)
      × ((check_rows b k size a rs s).next ≡ no_page)
  passed_check s rs g r =
      let e = rows_end rs s g (passed-run s.last s.next s.left (joined rs) r) r.few in (
        ap (λ (t : Progress). t.good) e,
        ap (λ (t : Progress). t.next) e ∙ passed-end s.last s.next (joined rs) r.head r.linked,
      )
