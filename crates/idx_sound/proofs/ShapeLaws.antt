-- Laws: all levels of an index are good, as the audit's first pass checks them, exactly if document 01's clauses but the one on keys above pages hold of its
-- tree. Cited by the laws of what the audit accepts and of keys above pages, and by the laws of lookup and match on a sound index. Assumes nothing.
use Rattle.std.specs.Prelude.{ℕ, zero, suc, ◌-◌, ◌≤◌, ◌<◌, ◌≡◌, refl, List, [], ◌∷◌, ◌++◌, Bool, true, false, length, eqb}
use Rattle.std.proofs.Common.{sym, ap, ◌∙◌, subst, arith, eq-eqb, ne_eqb, eqb-true}
use Rattle.std.proofs.Math.Option.{none}
use Rattle.std.proofs.Math.Nat.{min-eq_left}
use Rattle.std.proofs.lemmas.Bool.{eqb-false}
use Rattle.basis.specs.Lists.{All, all_map}
use Rattle.basis.specs.Tests.{either}
use Rattle.tree.specs.Lists.{NonEmpty, concat_map, occ}
use Rattle.tree.proofs.ListLaws.{all_map2, non_empty-length, occ_append, occ-here, occ-head, occ_not_head}
use Rattle.tree.specs.Pairs.{Ascending}
use Rattle.tree.specs.Tree.{Tree, pairs}
use Rattle.tree.specs.Clauses.{least, Sized, Ceilings, Linked}
use Rattle.tree.specs.Keeping.{pair_order}
use Rattle.tree.specs.Store.{read_tree}
use Rattle.tree.proofs.Levels.{all_of_map, all-to_map, numbers, below, generation, generation-below, reached, reached_generations, join_map}
use Rattle.tree.proofs.Levels.{Counted, tree-pairs, tree-pages, level-generation, generation-level, pages-generation, generation-pages}
use Rattle.tree.proofs.Levels.{generation-sized}
use Rattle.idx_page.specs.Header.{max_bytes, max_levels, no_page, root_offset, file_size, key_length, is_page, header_good, features}
use Rattle.idx_page.specs.Page.{attribute_at, count_at, root_bit, leaf_bit, capacity}
use Rattle.idx_page.specs.KeyOrder.{bytes_order}
use Rattle.idx_page.specs.HeaderLaws.{good-header}
use Rattle.idx_page.specs.Reading.{entries_at}
use Rattle.idx_page.proofs.ReadingLaws.{length-entries, entries_none}
use Rattle.idx_sound.specs.Sound.{index_tree, index_pages, links_of, CountGood, FreePage, FreeList, Sound, kept_by}
use Rattle.idx_sound.specs.AuditTest.{Entries, last_pair}
use Rattle.idx_sound.specs.AttributeLaws.{attribute_at_level, root-bit, leaf-bit, attribute-small, attribute-is, count-good, good-count}
use Rattle.idx_sound.proofs.RunLaws.{Fits, Checked}
use Rattle.idx_sound.proofs.EntryLaws.{Climbs, climbs_ascend, ascend_climbs, upper-checked}
use Rattle.idx_sound.proofs.EntryLaws.{checked_climbs, climbs_checked, lone_climbs, climbs_lone}
use Rattle.idx_sound.proofs.LevelLaws.{LevelGood, not_page}

-- the root as an entry with an empty key above it
abbrev pub root_entry : ℕ → Entries
root_entry root = ([], root) ∷ []

module _ (b : List ℕ) (k size root : ℕ) where
  -- the pages i levels under the root
  abbrev pub level_pages : ℕ → List ℕ
  level_pages i = numbers (generation (entries_at k size b) i (root_entry root))

  -- what is asked of the pages of each level, with h levels under the root
  abbrev pub AtLevels : ℕ → (ℕ → List ℕ → Type 0) → Type 0
  AtLevels h P = (i : ℕ) → i ≤ h → P i (level_pages i)

  abbrev pub GoodLevels : ℕ → Type 0
  GoodLevels h = AtLevels h (λ i ps. LevelGood b k size (eqb i 0) (eqb i h) ps)

  abbrev CheckedLevels : ℕ → Type 0
  CheckedLevels h = AtLevels h (λ i ps. Checked b k size (attribute_at_level h i) no_page ps)

  abbrev pub InsideLevels : ℕ → Type 0
  InsideLevels h = AtLevels h (λ i ps. All (λ p. is_page size p ≡ true) ps)

  abbrev pub CountedLevels : ℕ → Type 0
  CountedLevels h = AtLevels h (λ i ps. All (CountGood b k h) ps)

  -- each page of the file is once among those that are reached and the pages `free`
  abbrev pub OnceAmong : ℕ → List ℕ → Type 0
  OnceAmong h free = (p : ℕ) → is_page size p ≡ true → occ p (reached (entries_at k size b) (suc h) (root_entry root) ++ free) ≡ 1

-- all levels of an index are good, and every page of the file is reached once or, in a free page's form, on the free list once
pub record Shape (b : List ℕ) (k size root : ℕ) : Type 0 where
  pub height : ℕ
  pub few : height < max_levels
  pub levels : GoodLevels b k size root height
  pub free : List ℕ
  pub free_list : FreeList b free
  pub free_inside : All (λ p. is_page size p ≡ true) free
  pub free_pages : All (FreePage b) free
  pub once : OnceAmong b k size root height free

pub least-one : (h : ℕ) → 0 < h → least h ≡ 1
least-one zero l = absurd (omega arith)
least-one (suc h) l = refl

-- the entries of an index all of whose pages are of the file and have good counts
module _ (b : List ℕ) (k size root h : ℕ) (inside : InsideLevels b k size root h) (counts : CountedLevels b k size root h) where
  abbrev S : ℕ → Entries
  S = entries_at k size b

  abbrev E : ℕ → Entries
  E i = generation (entries_at k size b) i (root_entry root)

  abbrev T : Tree (List ℕ) h
  T = read_tree (entries_at k size b) h root

  page-length : (p : ℕ) → is_page size p ≡ true → count_at b p ≤ capacity k → length (S p) ≡ count_at b p
  page-length p e c = length-entries k size b p e ∙ min-eq_left c

  abbrev Few : ℕ → Type 0
  Few p = (least h ≤ length (S p)) × (length (S p) ≤ capacity k)

  pages-few : (i : ℕ) → i ≤ h → All Few (level_pages b k size root i)
  pages-few i l =
      all_map2 (λ p. is_page size p ≡ true) (CountGood b k h) Few
      (λ p e c. let n = page-length p e c.1 in let u = c.0 in let v = c.1 in (omega arith, omega arith))
      (level_pages b k size root i) (inside i l) (counts i l)

  entries-counted : (i : ℕ) → i ≤ h → 0 < h → All (Counted S (capacity k)) (E i)
  entries-counted i l pos =
      all_map (λ e. Few e.1) (Counted S (capacity k)) (λ e c. let u = c.0 in let o = least-one h pos in (omega arith, c.1)) (E i)
      (all_of_map Few (λ e. e.1) (E i) (pages-few i l))

  pub tree-sized : Sized (capacity k) h (read_tree (entries_at k size b) h root)
  tree-sized =
      let n = (pages-few 0 (omega arith)).0 in
      generation-sized S [] root h (capacity k) n.0 n.1 (λ i l. entries-counted (suc i) (omega arith) (omega arith))

  -- every page has an entry, but for a lone root leaf
  pub entries-filled : (i : ℕ) → i ≤ h → 0 < h → All (λ e. NonEmpty (entries_at k size b e.1)) (generation (entries_at k size b) i (root_entry root))
  entries-filled i l pos =
      all_map (Counted S (capacity k)) (λ e. NonEmpty (S e.1)) (λ e c. non_empty-length (S e.1) c.0) (E i) (entries-counted i l pos)

  pages-filled : (i : ℕ) → i ≤ h → 0 < h → All (λ p. NonEmpty (S p)) (level_pages b k size root i)
  pages-filled i l pos = all-to_map (λ p. NonEmpty (S p)) (λ e. e.1) (E i) (entries-filled i l pos)

  -- the entries of the pages of a level are those of the next
  entries_next : (i : ℕ) → concat_map S (level_pages b k size root i) ≡ E (suc i)
  entries_next i = join_map S S (λ e. e.1) (E i) ∙ generation-below S i (root_entry root)

  module _ (most : size ≤ max_bytes) where
    -- there is no key before the first page
    first-none : last_pair none (S no_page) ≡ none
    first-none = ap (last_pair none) (entries_none k size b no_page (not_page b k size most))

    -- the leaves' entries; a lone root leaf may have none
    leaves_climb : (a : ℕ) → leaf_bit a ≡ true → Checked b k size a no_page (level_pages b k size root h) → Climbs (features b) none (E (suc h))
    leaves_climb a leaf c = rw (first-none, entries_next h) at (go h refl)
      where
        go : (n : ℕ) → h ≡ n → Climbs (features b) (last_pair none (S no_page)) (concat_map S (level_pages b k size root h))
        go zero e = rw e (lone_climbs b k size a leaf no_page root (rw e at c))
        go (suc n) e = checked_climbs b k size a leaf no_page (level_pages b k size root h) (pages-filled h (omega arith) (omega arith)) c

    climb_leaves : (a : ℕ) → leaf_bit a ≡ true → Climbs (features b) none (E (suc h)) → Checked b k size a no_page (level_pages b k size root h)
    climb_leaves a leaf c = go h refl (rw (first-none, entries_next h) c)
      where
        go : (n : ℕ) → h ≡ n → Climbs (features b) (last_pair none (S no_page)) (concat_map S (level_pages b k size root h))
            → Checked b k size a no_page (level_pages b k size root h)
        go zero e d = rw e (climbs_lone b k size a leaf no_page root (rw e at d))
        go (suc n) e d = climbs_checked b k size a leaf no_page (level_pages b k size root h) (pages-filled h (omega arith) (omega arith)) d

    level-leaf : (i : ℕ) (t : Bool) → eqb i h ≡ t → leaf_bit (attribute_at_level h i) ≡ t
    level-leaf i t e = leaf-bit (eqb i 0) (eqb i h) ∙ e

    -- the entries of every level, from the clauses on leaf keys and records
    clauses_checked : Ascending (pair_order bytes_order (features b)) (pairs h (read_tree (entries_at k size b) h root))
        → All (λ e. 0 < e.1) (pairs h (read_tree (entries_at k size b) h root)) → CheckedLevels b k size root h
    clauses_checked ascending records i l = either (eqb i h)
        (λ e. let d : i ≡ h = eqb-true i h e in
        subst (λ (j : ℕ). Checked b k size (attribute_at_level h i) no_page (level_pages b k size root j)) (sym d)
        (climb_leaves (attribute_at_level h i) (level-leaf i true e)
        (rw (tree-pairs S [] root h) at (ascend_climbs (features b) (pairs h T) ascending records))))
        (λ e. upper-checked b k size (attribute_at_level h i) (level-leaf i false e) no_page (level_pages b k size root i))

    -- and back
    checked-pairs : CheckedLevels b k size root h → Ascending (pair_order bytes_order (features b)) (pairs h (read_tree (entries_at k size b) h root))
        × All (λ e. 0 < e.1) (pairs h (read_tree (entries_at k size b) h root))
    checked-pairs checked =
        let leaf = level-leaf h true (eq-eqb h h refl) in
        climbs_ascend (features b) none (pairs h T) (rw (tree-pairs S [] root h) (leaves_climb (attribute_at_level h h) leaf (checked h (omega arith))))

-- the root stands on its own level alone
occ-none : (z : ℕ) (ps : List ℕ) → occ z ps ≡ 0 → All (λ p. eqb p z ≡ false) ps
occ-none z [] e = tt
occ-none z (p ∷ ps) e = (ne_eqb p z (λ d. occ_not_head z p ps e (sym d)), occ-none z ps (omega arith))

-- the pages of a level are leaves, level 0 of the tree, if no level is under it
last-level : (h i : ℕ) → i ≤ h → eqb (h - i) 0 ≡ eqb i h
last-level h i l = either (eqb i h)
    (λ e. eq-eqb (h - i) 0 (omega (arith, eqb-true i h e)) ∙ sym e)
    (λ e. ne_eqb (h - i) 0 (omega (arith, eqb-false i h e)) ∙ sym e)

-- the pages' attributes and counts, if the root is reached once
module _ (b : List ℕ) (k size root h : ℕ) where
  abbrev Pages : ℕ → List ℕ
  Pages i = level_pages b k size root i

  abbrev Fit : ℕ → ℕ → Type 0
  Fit i p = Fits b k size (attribute_at_level h i) p

  abbrev Rest : List ℕ
  Rest = reached (entries_at k size b) h (below (entries_at k size b) (root_entry root))

  level-root : occ root (root ∷ Rest) ≡ 1 → (i : ℕ) → i ≤ h → All (λ p. eqb p root ≡ eqb i 0) (Pages i)
  level-root once zero l = (eq-eqb root root refl, tt)
  level-root once (suc i) l =
      let none : occ root Rest ≡ 0 = omega (arith, occ-head root Rest) in
      rw (ne_eqb (suc i) 0 (omega arith))
      (reached_generations (entries_at k size b) (λ p. eqb p root ≡ false) h (below (entries_at k size b) (root_entry root)) (occ-none root Rest none) i
      (omega arith))

  module _ (levels : GoodLevels b k size root h) where
    pub levels-inside : InsideLevels b k size root h
    levels-inside i l = all_map (Fit i) (λ p. is_page size p ≡ true) (λ p f. f.page) (Pages i) (levels i l).fit

    pub levels-counts : CountedLevels b k size root h
    levels-counts i l = all_map (Fit i) (CountGood b k h) (λ p f. good-count k h i (count_at b p) f.count) (Pages i) (levels i l).fit

    levels-attributes : (i : ℕ) → i ≤ h → All (λ p. attribute_at b p ≤ 3) (Pages i)
    levels-attributes i l =
        all_map (Fit i) (λ p. attribute_at b p ≤ 3) (λ p f. rw f.attribute (attribute-small (eqb i 0) (eqb i h))) (Pages i) (levels i l).fit

    levels-leaf : (i : ℕ) → i ≤ h → All (λ p. leaf_bit (attribute_at b p) ≡ eqb (h - i) 0) (Pages i)
    levels-leaf i l =
        all_map (Fit i) (λ p. leaf_bit (attribute_at b p) ≡ eqb (h - i) 0)
        (λ p f. ap leaf_bit f.attribute ∙ leaf-bit (eqb i 0) (eqb i h) ∙ sym (last-level h i l)) (Pages i) (levels i l).fit

    levels-root : occ root (root ∷ Rest) ≡ 1 → (i : ℕ) → i ≤ h → All (λ p. root_bit (attribute_at b p) ≡ eqb p root) (Pages i)
    levels-root once i l =
        all_map2 (Fit i) (λ p. eqb p root ≡ eqb i 0) (λ p. root_bit (attribute_at b p) ≡ eqb p root)
        (λ p f d. ap root_bit f.attribute ∙ root-bit (eqb i 0) (eqb i h) ∙ sym d) (Pages i) (levels i l).fit (level-root once i l)

  -- and back: from the clauses on the pages of a level
  clauses_fit : (i : ℕ) → i ≤ h → (ps : List ℕ) → All (λ p. is_page size p ≡ true) ps → All (λ p. attribute_at b p ≤ 3) ps
      → All (λ p. root_bit (attribute_at b p) ≡ eqb p root) ps → All (λ p. eqb p root ≡ eqb i 0) ps
      → All (λ p. leaf_bit (attribute_at b p) ≡ eqb (h - i) 0) ps → All (CountGood b k h) ps → All (Fit i) ps
  clauses_fit i l [] e a r d f c = tt
  clauses_fit i l (p ∷ ps) e a r d f c = (
    record {
      page = e.0;
      attribute = attribute-is (eqb i 0) (eqb i h) (attribute_at b p) a.0 (r.0 ∙ d.0) (f.0 ∙ last-level h i l);
      count = count-good k h i (count_at b p) l c.0.0 c.0.1;
    },
    clauses_fit i l ps e.1 a.1 r.1 d.1 f.1 c.1,
  )

module _ (b : List ℕ) where
  abbrev K : ℕ
  K = key_length b

  abbrev F : ℕ
  F = file_size b

  abbrev R : ℕ
  R = root_offset b

  abbrev B : ℕ → Entries
  B = entries_at (key_length b) (file_size b) b

  -- pages that are reached are those of the tree, also among others
  among_tree : (h : ℕ) (free : List ℕ) (p : ℕ)
      → occ p (index_pages b h ++ free) ≡ occ p (reached (entries_at (key_length b) (file_size b) b) (suc h) (root_entry (root_offset b)) ++ free)
  among_tree h free p =
      let t = tree-pages B [] R h p in
      let u = occ_append p (index_pages b h) free in
      let v = occ_append p (reached B (suc h) (root_entry R)) free in
      omega arith

  -- the root is reached, and so not among others
  root-once : (h : ℕ) (free : List ℕ)
      → occ R (reached (entries_at (key_length b) (file_size b) b) (suc h) (root_entry (root_offset b)) ++ free) ≡ 1
      → occ R (reached (entries_at (key_length b) (file_size b) b) (suc h) (root_entry (root_offset b))) ≡ 1
  root-once h free e =
      let rest = reached B h (below B (root_entry R)) in
      omega (arith, occ_append R (R ∷ rest) free, occ-here R rest)

  -- the leaf pairs of an index of that shape ascend, and their record numbers are above 0
  pub shape_pairs : header_good b ≡ true → (s : Shape b (key_length b) (file_size b) (root_offset b))
      → Ascending (pair_order bytes_order (features b)) (pairs s.height (index_tree b s.height))
      × All (λ e. 0 < e.1) (pairs s.height (index_tree b s.height))
  shape_pairs e s =
      checked-pairs b K F R s.height (levels-inside b K F R s.height s.levels) (levels-counts b K F R s.height s.levels)
      (good-header b e).most (λ i l. (s.levels i l).checked)

  -- Theorem: an index of that shape is sound if its keys above pages are
  pub shape_sound : header_good b ≡ true → (s : Shape b (key_length b) (file_size b) (root_offset b))
      → Ceilings (kept_by b) s.height (index_tree b s.height) → Sound b
  shape_sound e s ceilings =
      let h = s.height in
      let few = s.few in
      let g = good-header b e in
      let inside = levels-inside b K F R h s.levels in
      let counts = levels-counts b K F R h s.levels in
      let p = shape_pairs e s in
      record {
        header = e;
        height = h;
        free = s.free;
        free_list = s.free_list;
        inside = generation-pages B [] R h (λ p. is_page (file_size b) p ≡ true) inside;
        free_inside = s.free_inside;
        once = λ p o. among_tree h s.free p ∙ s.once p o;
        free_pages = s.free_pages;
        attributes = generation-pages B [] R h (λ p. attribute_at b p ≤ 3) (levels-attributes b K F R h s.levels);
        root_bits = generation-pages B [] R h (λ p. root_bit (attribute_at b p) ≡ eqb p (root_offset b))
            (levels-root b K F R h s.levels (root-once h s.free (s.once R g.root)));
        leaf_bits = generation-level B [] R h (λ j ps. All (λ p. leaf_bit (attribute_at b p) ≡ eqb j 0) ps) (levels-leaf b K F R h s.levels);
        levels = omega arith;
        counts = generation-pages B [] R h (CountGood b (key_length b) h) counts;
        ascending = p.0;
        records = p.1;
        ceilings = ceilings;
        links = generation-level B [] R h (λ j ps. Linked no_page (links_of b) no_page ps) (λ i l. (s.levels i l).linked);
      }

  -- Theorem: a sound index has that shape
  pub sound-once : (s : Sound b) → OnceAmong b (key_length b) (file_size b) (root_offset b) s.height s.free
  sound-once s p o = sym (among_tree s.height s.free p) ∙ s.once p o

  pub sound-levels : (s : Sound b) → GoodLevels b (key_length b) (file_size b) (root_offset b) s.height
  sound-levels s i l =
      let h = s.height in
      let inside = pages-generation B [] R h (λ p. is_page (file_size b) p ≡ true) s.inside in
      let counts = pages-generation B [] R h (CountGood b (key_length b) h) s.counts in
      record {
        fit = clauses_fit b K F R h i l (level_pages b K F R i) (inside i l)
            (pages-generation B [] R h (λ p. attribute_at b p ≤ 3) s.attributes i l)
            (pages-generation B [] R h (λ p. root_bit (attribute_at b p) ≡ eqb p (root_offset b)) s.root_bits i l)
            (level-root b K F R h (root-once h s.free (sound-once s R (good-header b s.header).root)) i l)
            (level-generation B [] R h (λ j ps. All (λ p. leaf_bit (attribute_at b p) ≡ eqb j 0) ps) s.leaf_bits i l) (counts i l);
        linked = level-generation B [] R h (λ j ps. Linked no_page (links_of b) no_page ps) s.links i l;
        checked = clauses_checked b K F R h inside counts (good-header b s.header).most s.ascending s.records i l;
      }

  abbrev pub sound_shape : Sound b → Shape b (key_length b) (file_size b) (root_offset b)
  sound_shape s =
      let few = s.levels in
      record {
        height = s.height;
        few = omega arith;
        levels = sound-levels s;
        free = s.free;
        free_list = s.free_list;
        free_inside = s.free_inside;
        free_pages = s.free_pages;
        once = sound-once s;
      }
