-- Laws: a sound index, read as a tree, is what the theory of calls keeps; and an index is sound if its tree is what the theory keeps and its pages have good
-- attributes, links and counts. Cited by the laws of lookup, insertion and match. Assumes nothing.
use Rattle.std.specs.Prelude.{ℕ, ◌%◌, ◌≤◌, ◌<◌, ◌≡◌, refl, List, [], ◌∷◌, true, length, eqb, ltb}
use Rattle.std.proofs.Common.{sym, ap, ◌∙◌, arith, eqb-true, ltb-true, ltb-false}
use Rattle.std.proofs.Math.Nat.{min-eq_left}
use Rattle.std.proofs.lemmas.Bool.{eqb-false}
use Rattle.basis.specs.Lists.{All}
use Rattle.basis.specs.Tests.{either}
use Rattle.tree.specs.Lists.{occ}
use Rattle.tree.proofs.ListLaws.{all_map2, occ-here, occ_append, occ-all}
use Rattle.tree.specs.Tree.{level}
use Rattle.tree.specs.Clauses.{least, Sized}
use Rattle.tree.proofs.Ordered.{ordered-ascending}
use Rattle.tree.proofs.KeepingOf.{keeping_of}
use Rattle.tree.proofs.ClauseLaws.{ceilings-ordered, ordered-ceilings}
use Rattle.tree.specs.Index.{Index, Setting}
use Rattle.tree.proofs.SoundIndex.{used, PagesOnce, SoundIndex, LinkedIndex}
use Rattle.tree.proofs.Levels.{pages-generation, sized-pages}
use Rattle.idx_page.specs.Header.{max_levels, page_size, root_offset, file_size, key_length, is_page, header_good, features}
use Rattle.idx_page.specs.Page.{attribute_at, count_at, root_bit, leaf_bit, capacity}
use Rattle.idx_page.specs.KeyOrder.{bytes_order}
use Rattle.idx_page.specs.HeaderLaws.{IsPage, is-page, is_page-from, good-header}
use Rattle.idx_page.specs.Reading.{entries_at}
use Rattle.idx_page.proofs.ReadingLaws.{length-entries}
use Rattle.idx_sound.specs.Sound.{index_tree, index_pages, links_of, CountGood, FreePage, FreeList, Sound, kept_by}
use Rattle.idx_sound.proofs.ShapeLaws.{tree-sized}

-- the index as the theory has it, with h levels under its root and the free list `free`, and its setting, by its features: F may be `most` at most
abbrev pub index_of : List ℕ → ℕ → List ℕ → Index (List ℕ)
index_of b h free = record { height = h; tree = index_tree b h; free = free; size = file_size b }

abbrev pub setting_of : ℕ → ℕ → ℕ → Setting (List ℕ)
setting_of f k most = record { keeping = keeping_of bytes_order f; capacity = capacity k; max_size = most; max_levels = max_levels }

module _ (b : List ℕ) where
  -- every page of a sound index is one of the file, and has as many entries as its count says
  pub sound-sized : (s : Sound b) → Sized (capacity (key_length b)) s.height (index_tree b s.height)
  sound-sized s =
      let h = s.height in
      tree-sized b (key_length b) (file_size b) (root_offset b) h
      (pages-generation (entries_at (key_length b) (file_size b) b) [] (root_offset b) h (λ p. is_page (file_size b) p ≡ true) s.inside)
      (pages-generation (entries_at (key_length b) (file_size b) b) [] (root_offset b) h (CountGood b (key_length b) h) s.counts)

  -- a number that names no page of the file is in no list of such pages
  outside : (ps : List ℕ) → All (λ p. is_page (file_size b) p ≡ true) ps → (z : ℕ) → (IsPage (file_size b) z → ⊥) → occ z ps ≡ 0
  outside ps inside z n = either (ltb 0 (occ z ps))
      (λ e. absurd (n (is-page (file_size b) z (occ-all (λ p. is_page (file_size b) p ≡ true) z ps inside (ltb-true _ _ e)))))
      (λ e. omega (arith, ltb-false 0 (occ z ps) e))

  not_inside : (s : Sound b) (z : ℕ) → (IsPage (file_size b) z → ⊥) → used z (index_of b s.height s.free) ≡ 0
  not_inside s z n = omega (arith, outside (index_pages b s.height) s.inside z n, outside s.free s.free_inside z n)

  sound-once : (s : Sound b) → PagesOnce (index_of b s.height s.free)
  sound-once s =
      let g = good-header b s.header in
      let whole = g.whole in
      record {
        positive = omega arith;
        aligned = whole;
        header = not_inside s 0 (λ p. omega arith);
        once = λ z l u w.
            sym (occ_append z (index_pages b s.height) s.free)
            ∙ s.once z (is_page-from (file_size b) z (record { whole = w; low = omega arith; high = omega arith }));
        unaligned = λ z n. not_inside s z (λ p. n p.whole);
        beyond = λ z l. not_inside s z (λ p. omega arith);
      }

  -- Theorem: a sound index is sound in the theory
  pub sound-index : (s : Sound b) (most : ℕ) → file_size b ≤ most → SoundIndex (setting_of (features b) (key_length b) most) (index_of b s.height s.free)
  sound-index s most small =
      let h = s.height in
      let few = s.levels in
      let z = sound-sized s in
      record {
        ordered = ceilings-ordered (kept_by b) (capacity (key_length b)) h (index_tree b h) z.2 s.ascending s.ceilings;
        sized = z;
        pages_once = sound-once s;
        records = s.records;
        within_size = small;
        within_levels = omega arith;
      }

  pub sound-linked : (s : Sound b) → LinkedIndex (links_of b) (index_of b s.height s.free)
  sound-linked s = s.links

-- and back: each member of a list occurs in it
pub all-occ : (P : ℕ → Type 0) (ps : List ℕ) → ((z : ℕ) → 0 < occ z ps → P z) → All P ps
all-occ P [] f = tt
all-occ P (p ∷ ps) f = (f p (occ-here p ps), all-occ P ps (λ z l. f z (omega arith)))

-- a page that is in the tree or free is one of the file
pub once-page : {K : Type 0} (i : Index K) → PagesOnce i → (p : ℕ) → 0 < used p i → is_page i.size p ≡ true
once-page i o p l =
    let aligned = o.aligned in
    let whole : p % page_size ≡ 0 =
    either (eqb (p % page_size) 0) (λ e. eqb-true _ _ e) (λ e. absurd (omega (arith, o.unaligned p (eqb-false (p % page_size) 0 e)))) in
    let below : p < i.size =
    either (ltb p i.size) (λ e. ltb-true _ _ e) (λ e. absurd (omega (arith, o.beyond p (ltb-false p i.size e)))) in
    let none : p ≡ 0 → used p i ≡ 0 = λ e. ap (λ (q : ℕ). used q i) e ∙ o.header in
    let some : 0 < p =
    either (eqb p 0) (λ e. absurd (omega (arith, none (eqb-true p 0 e)))) (λ e. omega (arith, eqb-false p 0 e)) in
    is_page-from i.size p (record { whole = whole; low = omega arith; high = omega arith })

module _ (b : List ℕ) (h : ℕ) (free : List ℕ) where
  abbrev Inside : ℕ → Type 0
  Inside p = is_page (file_size b) p ≡ true

  -- the page at p has at most as many entries as a page holds, as many are read of it, and it has the least count or more
  abbrev NotOver : ℕ → Type 0
  NotOver p = count_at b p ≤ capacity (key_length b)

  abbrev read_of : ℕ → ℕ
  read_of p = length (entries_at (key_length b) (file_size b) b p)

  abbrev Enough : ℕ → Type 0
  Enough p = least h ≤ count_at b p

  counts-enough : (ps : List ℕ) → All Inside ps → All NotOver ps → All (λ p. least h ≤ read_of p) ps → All Enough ps
  counts-enough ps inside counts sized =
      let full = all_map2 Inside NotOver (λ p. read_of p ≡ count_at b p)
      (λ p u c. length-entries (key_length b) (file_size b) b p u ∙ min-eq_left c) ps inside counts in
      all_map2 (λ p. least h ≤ read_of p) (λ p. read_of p ≡ count_at b p) Enough (λ p u c. omega arith) ps sized full

  -- Theorem: an index is sound if its header is good, the theory calls it sound, its pages have good attributes, links and counts, and its free list is in the
  -- file
  pub index-sound : (most : ℕ) → header_good b ≡ true → SoundIndex (setting_of (features b) (key_length b) most) (index_of b h free)
      → LinkedIndex (links_of b) (index_of b h free)
      → All (λ p. attribute_at b p ≤ 3) (index_pages b h) → All (λ p. root_bit (attribute_at b p) ≡ eqb p (root_offset b)) (index_pages b h)
      → ((j : ℕ) → j ≤ h → All (λ p. leaf_bit (attribute_at b p) ≡ eqb j 0) (level j h (index_tree b h)))
      → All (λ p. count_at b p ≤ capacity (key_length b)) (index_pages b h) → FreeList b free → All (FreePage b) free
      → (s : Sound b) × (s.height ≡ h) × (s.free ≡ free)
  index-sound most e i l attributes root_bits leaf_bits counts free_list free_pages =
      let ps = index_pages b h in
      let o = i.pages_once in
      let few = i.within_levels in
      let inside = all-occ Inside ps (λ z u. once-page (index_of b h free) o z (omega arith)) in
      let sized = sized-pages (entries_at (key_length b) (file_size b) b) (capacity (key_length b)) h (root_offset b) i.sized in
      let low = counts-enough ps inside counts sized in (
        record {
          header = e;
          height = h;
          inside = inside;
          free = free;
          free_list = free_list;
          free_inside = all-occ Inside free (λ z u. once-page (index_of b h free) o z (omega arith));
          free_pages = free_pages;
          once = λ p u. let q = is-page (file_size b) p u in occ_append p ps free ∙ o.once p (omega arith) (omega arith) q.whole;
          attributes = attributes;
          root_bits = root_bits;
          leaf_bits = leaf_bits;
          levels = omega arith;
          counts = all_map2 Enough NotOver (CountGood b (key_length b) h) (λ p u c. (u, c)) ps low counts;
          ascending = ordered-ascending (kept_by b) h (index_tree b h) i.ordered;
          records = i.records;
          ceilings = ordered-ceilings (kept_by b) h (index_tree b h) i.ordered;
          links = l;
        },
        refl,
        refl,
      )
