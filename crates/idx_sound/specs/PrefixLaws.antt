-- Laws: whether an index is sound depends on the first F bytes of the buffer alone: the bytes past F are never looked at. Assumes nothing.
use Rattle.std.specs.Prelude.{ℕ, ◌+◌, ◌≤◌, ◌<◌, ◌≡◌, true, List, [], ◌∷◌, ◌++◌, length, get_or, eqb}
use Rattle.std.proofs.Common.{sym, ap, ap₂, ◌∙◌, subst, zero-add, arith}
use Rattle.std.proofs.Math.Path.{fun_ext}
use Rattle.basis.specs.Lists.{All}
use Rattle.basis.specs.Tests.{either}
use Rattle.octets.specs.Store.{window}
use Rattle.octets.specs.StoreLaws.{get_d_window}
use Rattle.octets.specs.NumberLaws.{le16-same, le32-same}
use Rattle.tree.proofs.ListLaws.{all_map2}
use Rattle.tree.specs.Lists.{occ}
use Rattle.tree.specs.Pairs.{Ascending}
use Rattle.tree.specs.Tree.{Tree, pairs, pages, level}
use Rattle.tree.specs.Store.{Store, read_tree}
use Rattle.tree.specs.Clauses.{Ceilings, Linked}
use Rattle.tree.specs.Keeping.{pair_order}
use Rattle.tree.proofs.KeepingOf.{keeping_of}
use Rattle.tree.specs.FreeChain.{Chained}
use Rattle.tree.proofs.Levels.{pages-generation, generation-level}
use Rattle.idx_page.specs.Header.{page_size, no_page, root_offset, free_pointer, file_size, key_length, features, is_page, header_good}
use Rattle.idx_page.specs.HeaderLaws.{is-page, good-header, good-header-from}
use Rattle.idx_page.specs.Page.{attribute_at, right_at, right_place, entries_start, entry_area, root_bit, leaf_bit}
use Rattle.idx_page.specs.KeyOrder.{bytes_order}
use Rattle.idx_page.specs.Reading.{entries_at}
use Rattle.idx_page.proofs.ReadingLaws.{window-window, entries_none, entries-same, attribute-same, count_same, left-same, right-same}
use Rattle.idx_sound.specs.Sound.{index_tree, index_pages, links_of, CountGood, FreePage, Sound, kept_by}

-- two buffers with the same first F bytes; the first is sound
module _ (a b : List ℕ) (same : window a 0 (file_size a) ≡ window b 0 (file_size a)) (long : file_size a ≤ length b) (s : Sound a) where
  part : (p n : ℕ) → p + n ≤ file_size a → window a p n ≡ window b p n
  part p n h =
      let e : window a (0 + p) n ≡ window b (0 + p) n =
      sym (window-window a 0 (file_size a) p n h) ∙ ap (λ (w : List ℕ). window w p n) same ∙ window-window b 0 (file_size a) p n h in
      rw zero-add at e

  large : 1024 ≤ file_size a
  large = (good-header a s.header).least

  size : file_size a ≡ file_size b
  size = le32-same a b 8 (part 8 4 (omega (arith, large)))

  key : key_length a ≡ key_length b
  key = le16-same a b 12 (part 12 2 (omega (arith, large)))

  root : root_offset a ≡ root_offset b
  root = le32-same a b 0 (part 0 4 (omega (arith, large)))

  free : free_pointer a ≡ free_pointer b
  free = le32-same a b 4 (part 4 4 (omega (arith, large)))

  plain : features a ≡ features b
  plain =
      sym (get_d_window a 14 1 0 0 (omega arith)) ∙ ap (λ (w : List ℕ). get_or w 0 0) (part 14 1 (omega (arith, large))) ∙ get_d_window b 14 1 0 0 (omega arith)

  header : header_good b ≡ true
  header =
      let g = good-header a s.header in
      good-header-from b (record {
        long = omega (arith, large);
        whole = rw size at g.whole;
        least = rw size at g.least;
        most = rw size at g.most;
        within = rw size at long;
        root = rw (size, root) at g.root;
        key-low = rw key at g.key-low;
        key-high = rw key at g.key-high;
        free = rw (size, free) at g.free;
        plain = rw plain at g.plain;
      })

  page : (p : ℕ) → is_page (file_size a) p ≡ true → window a p page_size ≡ window b p page_size
  page p e = part p page_size (is-page (file_size a) p e).high

  entries : (p : ℕ) → entries_at (key_length a) (file_size a) a p ≡ entries_at (key_length a) (file_size a) b p
  entries p = either (is_page (file_size a) p)
      (λ e. entries-same a b p (page p e) (key_length a) (file_size a))
      (λ e. entries_none (key_length a) (file_size a) a p e ∙ sym (entries_none (key_length a) (file_size a) b p e))

  tree : (h : ℕ) → index_tree a h ≡ index_tree b h
  tree h =
      let store : entries_at (key_length a) (file_size a) a ≡ entries_at (key_length b) (file_size b) b = fun_ext entries ∙ rw (key, size) in
      ap₂ (λ (S : Store (List ℕ)) (r : ℕ). read_tree S h r) store root

  abbrev h : ℕ
  h = s.height

  abbrev Inside : ℕ → Type 0
  Inside p = is_page (file_size a) p ≡ true

  -- what is asked of every page, and of the pages of every level
  at-pages : (P Q : ℕ → Type 0) → ((p : ℕ) → Inside p → P p → Q p) → All P (index_pages a h) → All Q (index_pages b h)
  at-pages P Q f x = subst (λ (t : Tree (List ℕ) h). All Q (pages h t)) (tree h) (all_map2 Inside P Q f (index_pages a h) s.inside x)

  levels-inside : (j : ℕ) → j ≤ h → All Inside (level j h (index_tree a h))
  levels-inside =
      let S = entries_at (key_length a) (file_size a) a in
      generation-level S [] (root_offset a) h (λ j ps. All (λ p. is_page (file_size a) p ≡ true) ps)
      (pages-generation S [] (root_offset a) h (λ p. is_page (file_size a) p ≡ true) s.inside)

  links-same : (prev : ℕ) (ps : List ℕ) → All Inside ps → Linked no_page (links_of a) prev ps → Linked no_page (links_of b) prev ps
  links-same prev [] i l = tt
  links-same prev (p ∷ ps) i l =
      (sym (left-same a b p (page p i.0)) ∙ l.0, sym (right-same a b p (page p i.0)) ∙ l.1, links-same p ps i.1 l.2)

  attribute : (p : ℕ) → Inside p → attribute_at a p ≡ attribute_at b p
  attribute p i = attribute-same a b p (page p i)

  -- the free list, whose pages name what they named, and a free page
  chained_same : (p : ℕ) (ps : List ℕ) → All Inside ps → Chained no_page (right_at a) p ps → Chained no_page (right_at b) p ps
  chained_same p [] i c = c
  chained_same p (q ∷ ps) i c = (c.0, rw (right-same a b q (page q i.0)) at (chained_same (right_at a q) ps i.1 c.1))

  free-page : (p : ℕ) → Inside p → FreePage a p → FreePage b p
  free-page p i f =
      let u = is-page (file_size a) p i in (
        sym (part p right_place (omega arith)) ∙ f.0,
        sym (part (p + entries_start) entry_area (omega arith)) ∙ f.1,
      )

  -- Theorem: the second is sound too
  pub sound-same : Sound b
  sound-same = record {
    header = header;
    height = h;
    inside = at-pages Inside (λ p. is_page (file_size b) p ≡ true) (λ p i x. rw size at x) s.inside;
    free = s.free;
    free_list = rw free at (chained_same (free_pointer a) s.free s.free_inside s.free_list);
    free_inside = rw size at s.free_inside;
    free_pages = all_map2 Inside (FreePage a) (FreePage b) free-page s.free s.free_inside s.free_pages;
    once = λ p e. subst (λ (t : Tree (List ℕ) h). occ p (pages h t ++ s.free) ≡ 1) (tree h) (s.once p (rw size e));
    attributes = at-pages (λ p. attribute_at a p ≤ 3) (λ p. attribute_at b p ≤ 3) (λ p i x. rw (attribute p i) at x) s.attributes;
    root_bits = at-pages (λ p. root_bit (attribute_at a p) ≡ eqb p (root_offset a)) (λ p. root_bit (attribute_at b p) ≡ eqb p (root_offset b))
        (λ p i x. rw (attribute p i, root) at x) s.root_bits;
    leaf_bits = λ j l. subst (λ (t : Tree (List ℕ) h). All (λ p. leaf_bit (attribute_at b p) ≡ eqb j 0) (level j h t)) (tree h)
        (all_map2 Inside (λ p. leaf_bit (attribute_at a p) ≡ eqb j 0) (λ p. leaf_bit (attribute_at b p) ≡ eqb j 0) (λ p i x. rw (attribute p i) at x)
        (level j h (index_tree a h)) (levels-inside j l) (s.leaf_bits j l));
    levels = s.levels;
    counts = at-pages (CountGood a (key_length a) h) (CountGood b (key_length b) h) (λ p i x. rw (count_same a b p (page p i), key) at x) s.counts;
    ascending = subst (λ (t : Tree (List ℕ) h). Ascending (pair_order bytes_order (features b)) (pairs h t)) (tree h) (rw plain at s.ascending);
    records = subst (λ (t : Tree (List ℕ) h). All (λ e. 0 < e.1) (pairs h t)) (tree h) s.records;
    ceilings = subst (λ (t : Tree (List ℕ) h). Ceilings (kept_by b) h t) (tree h)
        (subst (λ (f : ℕ). Ceilings (keeping_of bytes_order f) h (index_tree a h)) plain s.ceilings);
    links = λ j l. subst (λ (t : Tree (List ℕ) h). Linked no_page (links_of b) no_page (level j h t)) (tree h)
        (links-same no_page (level j h (index_tree a h)) (levels-inside j l) (s.links j l));
  }
