-- Laws: no page is met twice. On a level none is named twice, since the right links of its pages lead to its end; none is on two levels, since its first
-- children lead to a leaf in as many steps as there are levels under it; no page of the tree is free, since a free page has attribute 0 and count 0; and a free
-- list that ends has no page twice. So each page but the first was met once exactly if as many pages were met as there are. Cited by the laws of what the audit
-- accepts. Assumes nothing.
use Prim.Native.Nat.{ℕ, zero, suc, ◌-◌, ◌/◌, ◌%◌, ◌≤◌, ◌<◌}
use Rattle.std.specs.Prelude.{◌≡◌, refl, List, [], ◌∷◌, ◌++◌, true, ◌||◌, length, ltb, leb}
use Rattle.std.proofs.Common.{sym, ap, ◌∙◌, arith}
use Rattle.std.proofs.Math.Dec.{eqb}
use borrow.Author.Tests.{ltb-true, ltb-false, ne_eqb}
use Rattle.basis.specs.Lists.{All, all_map}
use Rattle.basis.specs.Tests.{either, contra, both}
use Rattle.tree.specs.Lists.{NonEmpty, occ}
use Rattle.tree.proofs.ListLaws.{all_map2, occ_append, occ-all}
use Rattle.tree.specs.Clauses.{head_or}
use Rattle.tree.proofs.Insertion.Pages.{Distinct}
use Rattle.tree.proofs.FreeChainLaws.{chained-distinct, linked-distinct}
use Rattle.tree.proofs.DistinctLaws.{Filled, Heights, levels-distinct}
use Rattle.tree.proofs.PageCount.{PageOf, offset, offset-apart, offset-page, pages-at-most, later-all, later-distinct, later-count}
use Rattle.tree.proofs.Levels.{all_of_concat, all_of_map, numbers, below, generation, reached, generations_reached}
use Rattle.idx_page.specs.Header.{max_bytes, page_size, no_page, free_pointer, is_page}
use Rattle.idx_page.specs.HeaderLaws.{IsPage, is-page, is_page-from}
use Rattle.idx_page.specs.Page.{attribute_at, count_at, right_at, capacity, count_good}
use Rattle.idx_page.specs.Reading.{entries_at}
use Rattle.idx_page.specs.Children.{is_leaf, first_child}
use Rattle.idx_sound.specs.Sound.{links_of, FreePage, FreeList}
use Rattle.idx_sound.specs.AuditTest.{Entries, later_pages, height_of}
use Rattle.idx_sound.specs.AttributeLaws.{attribute_at_level}
use Rattle.idx_sound.specs.FreeLaws.{free-attribute, free-count}
use Rattle.idx_sound.proofs.RunLaws.{Fits}
use Rattle.idx_sound.proofs.LevelLaws.{same_suc, leaf-known, not_page}
use Rattle.idx_sound.proofs.ShapeLaws.{root_entry, level_pages, GoodLevels, levels-inside, levels-counts, entries-filled}

-- what holds of the pages that entries name holds of the first of them
pub head-all : (Q : ℕ → Type 0) (es : Entries) → NonEmpty es → All (λ e. Q e.1) es → Q (head_or no_page (numbers es))
head-all Q [] s a = absurd s
head-all Q (e ∷ es) s a = a.0

module _ (b : List ℕ) (k size : ℕ) where
  abbrev S : ℕ → Entries
  S = entries_at k size b

  -- the pages of the h levels from the entries es on are no leaves, and those of the next level are
  abbrev pub LeavesUnder : ℕ → Entries → Type 0
  LeavesUnder h es = (i : ℕ) → i ≤ h → All (λ e. is_leaf b size e.1 ≡ eqb i h) (generation (entries_at k size b) i es)

  higher : (l h : ℕ) (e : List ℕ × ℕ) → is_leaf b size e.1 ≡ eqb 0 (suc h) → height_of b k size l (first_child b k size e.1) ≡ h
      → height_of b k size (suc l) e.1 ≡ suc h
  unfolding height_of
  higher l h e q r = rw (q, ne_eqb 0 (suc h) (omega arith), height_of) (ap suc r)

  -- the first children lead from each page to a leaf in as many steps as there are levels under it
  pub heights : (l h : ℕ) (es : Entries) → h ≤ l → LeavesUnder h es → Filled S h es → All (λ e. height_of b k size l e.1 ≡ h) es
  unfolding height_of
  heights zero zero es n leaves full = all_map (λ e. is_leaf b size e.1 ≡ true) (λ e. height_of b k size zero e.1 ≡ zero) (λ e q. refl) es (leaves 0 n)
  heights zero (suc h) es n leaves full = absurd (omega arith)
  heights (suc l) zero es n leaves full =
      all_map (λ e. is_leaf b size e.1 ≡ true) (λ e. height_of b k size (suc l) e.1 ≡ zero) (λ e q. rw (q, height_of)) es (leaves 0 (omega arith))
  heights (suc l) (suc h) es n leaves full =
      let lower = heights l h (below S es) (omega arith) (λ i o. rw (same_suc i h) at (leaves (suc i) (omega arith))) (λ i o. full (suc i) (omega arith)) in
      let each = all_of_concat (λ e. height_of b k size l e.1 ≡ h) (λ e. S e.1) es lower in
      let first = all_map2 (λ e. NonEmpty (S e.1)) (λ e. All (λ e. height_of b k size l e.1 ≡ h) (S e.1))
      (λ e. height_of b k size l (first_child b k size e.1) ≡ h) (λ e s a. head-all (λ p. height_of b k size l p ≡ h) (S e.1) s a) es
      (full 0 (omega arith)) each in
      all_map2 (λ e. is_leaf b size e.1 ≡ eqb 0 (suc h)) (λ e. height_of b k size l (first_child b k size e.1) ≡ h)
      (λ e. height_of b k size (suc l) e.1 ≡ suc h) (higher l h) es (leaves 0 (omega arith)) first

  all-heights : (l h : ℕ) (es : Entries) → h ≤ l → LeavesUnder h es → Filled (entries_at k size b) h es
      → Heights (entries_at k size b) (height_of b k size l) h es
  all-heights l h es n leaves full zero o = let d : h - 0 ≡ h = omega arith in rw d (heights l h es n leaves full)
  all-heights l zero es n leaves full (suc i) o = absurd (omega arith)
  all-heights l (suc h) es n leaves full (suc i) o =
      let d : suc h - suc i ≡ h - i = omega arith in
      rw d (all-heights l h (below S es) (omega arith) (λ j m. rw (same_suc j h) at (leaves (suc j) (omega arith))) (λ j m. full (suc j) (omega arith)) i
      (omega arith))

-- a page with a good count has an attribute or a count
has_either : (k a n : ℕ) → count_good k a n ≡ true → a ≡ 0 → n ≡ 0 → ⊥
unfolding count_good
has_either k a n e f g = let u : leb 1 n || eqb a 3 ≡ true = (both (leb n (capacity k)) (leb 1 n || eqb a 3) e).1 in contra (rw (f, g) at u) refl

-- the pages of good levels
module _ (b : List ℕ) (k size root : ℕ) (most : size ≤ max_bytes) where
  abbrev E : ℕ → Entries
  E i = generation (entries_at k size b) i (root_entry root)

  abbrev all_pages : ℕ → List ℕ
  all_pages h = reached (entries_at k size b) (suc h) (root_entry root)

  pub level-leaves : (h : ℕ) → GoodLevels b k size root h → LeavesUnder b k size h (root_entry root)
  level-leaves h levels i l =
      all_map (λ e. Fits b k size (attribute_at_level h i) e.1) (λ e. is_leaf b size e.1 ≡ eqb i h)
      (λ e f. leaf-known b k size most (eqb i 0) (eqb i h) e.1 f) (E i)
      (all_of_map (Fits b k size (attribute_at_level h i)) (λ e. e.1) (E i) (levels i l).fit)

  -- the number that names no page is in no list of the file's pages
  none_inside : (ps : List ℕ) → All (λ p. is_page size p ≡ true) ps → occ no_page ps ≡ 0
  none_inside ps inside = either (ltb 0 (occ no_page ps))
      (λ t. contra (occ-all (λ p. is_page size p ≡ true) no_page ps inside (ltb-true 0 (occ no_page ps) t)) (not_page b k size most))
      (λ t. omega (arith, ltb-false 0 (occ no_page ps) t))

  pages-distinct : (h : ℕ) → GoodLevels b k size root h → Distinct (all_pages h)
  pages-distinct h levels =
      let inside = levels-inside b k size root h levels in
      let counts = levels-counts b k size root h levels in
      levels-distinct (entries_at k size b) (height_of b k size h) h (root_entry root)
      (all-heights b k size h h (root_entry root) (omega arith) (level-leaves h levels)
      (λ i l. entries-filled b k size root h inside counts i (omega arith) (omega arith)))
      (λ i l.
      let ps = level_pages b k size root i in
      linked-distinct no_page (links_of b) no_page ps (none_inside ps (inside i l)) (levels i l).linked)

  -- none is free
  abbrev Used : ℕ → Type 0
  Used p = attribute_at b p ≡ 0 → count_at b p ≡ 0 → ⊥

  pages-used : (h : ℕ) → GoodLevels b k size root h → All Used (all_pages h)
  pages-used h levels =
      generations_reached (entries_at k size b) Used (suc h) (root_entry root)
      (λ i l. all_map (Fits b k size (attribute_at_level h i)) Used
      (λ p f e. has_either k (attribute_at_level h i) (count_at b p) f.count (sym f.attribute ∙ e)) (level_pages b k size root i)
      (levels i (omega arith)).fit)

  free-distinct : (ps : List ℕ) → FreeList b ps → All (λ p. is_page size p ≡ true) ps → Distinct ps
  free-distinct ps chained inside = chained-distinct no_page (right_at b) (free_pointer b) ps (none_inside ps inside) chained

  -- Theorem: the pages of good levels and of a free list differ
  pub all-distinct : (h : ℕ) → GoodLevels b k size root h → (ps : List ℕ) → FreeList b ps → All (λ p. is_page size p ≡ true) ps → All (FreePage b) ps
      → Distinct (reached (entries_at k size b) (suc h) (root_entry root) ++ ps)
  all-distinct h levels ps chained inside free z =
      let sum = occ_append z (all_pages h) ps in
      let tree = pages-distinct h levels z in
      let list = free-distinct ps chained inside z in
      either (ltb 0 (occ z (all_pages h)))
      (λ t. either (ltb 0 (occ z ps))
      (λ u.
      let f = occ-all (FreePage b) z ps free (ltb-true 0 (occ z ps) u) in
      absurd (occ-all Used z (all_pages h) (pages-used h levels) (ltb-true 0 (occ z (all_pages h)) t) (free-attribute b z f) (free-count b z f)))
      (λ u. omega (arith, ltb-false 0 (occ z ps) u)))
      (λ t. omega (arith, ltb-false 0 (occ z (all_pages h)) t))

-- the pages ps of a file
module _ (size : ℕ) (ps : List ℕ) (whole : size % page_size ≡ 0) (inside : All (λ p. is_page size p ≡ true) ps) where
  in_file : (z : ℕ) → 0 < occ z ps → IsPage size z
  in_file z i = is-page size z (occ-all (λ p. is_page size p ≡ true) z ps inside i)

  later : (z : ℕ) → 0 < occ z ps → PageOf offset 1 (size / page_size) z
  later z i = let p = in_file z i in let w = p.whole in offset-page 1 (size / page_size) z (omega arith) (omega arith) w

  -- Theorem: if they differ, and are as many as the file has but for the first, each page is there once
  pub count-once : Distinct ps → length ps ≡ later_pages size → (p : ℕ) → is_page size p ≡ true → occ p ps ≡ 1
  count-once d n p e =
      let i = is-page size p e in
      let w = i.whole in
      let at : p ≡ offset (p / page_size) = omega arith in
      ap (λ x. occ x ps) at
      ∙ later-all offset offset-apart (size / page_size) ps later (omega arith) d (omega arith) (p / page_size) (omega arith) (omega arith)

  -- and back
  module _ (once : (p : ℕ) → is_page size p ≡ true → occ p ps ≡ 1) where
    once-there : (i : ℕ) → 0 < i → i < size / page_size → occ (offset i) ps ≡ 1
    once-there i u v = once (offset i) (is_page-from size (offset i) (record { whole = omega arith; low = omega arith; high = omega arith }))

    pub once-few : length ps ≤ size / page_size
    once-few =
        pages-at-most (size / page_size) ps (later-distinct offset offset-apart (size / page_size) ps later once-there)
        (λ z i. let p = in_file z i in let w = p.whole in (omega arith, w))

    pub once-count : page_size ≤ size → length ps ≡ later_pages size
    once-count some = let n = later-count offset offset-apart (size / page_size) ps later once-there (omega arith) in omega arith
