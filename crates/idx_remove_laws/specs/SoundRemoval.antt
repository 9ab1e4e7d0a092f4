-- Laws: the heads of a sound index's pages are numbers of two and of four bytes, and a sound index with pairs is ready for a removal. Cited by the law that a
-- removal keeps an index sound. Assumes nothing.
use Rattle.std.specs.Prelude.{◌≡◌, true, List, [], ◌∷◌, map, ℕ, zero, suc, ◌^◌, ◌≤◌, ◌<◌, eqb, ltb}
use Rattle.std.proofs.Common.{sym, subst, arith, eqb-true, ltb-true, ltb-false}
use Rattle.std.proofs.lemmas.List.{length-map}
use Rattle.std.proofs.lemmas.Bool.{eqb-false}
use Rattle.basis.specs.Lists.{All}
use Rattle.basis.specs.Tests.{either}
use Rattle.tree.specs.Clauses.{SizedUnder, Sized, Links, head_or, Linked}
use Rattle.tree.specs.FreeChain.{Chained}
use Rattle.tree.proofs.FreeChainLaws.{chained-head}
use Rattle.tree.proofs.IndexPages.{pages-distinct}
use Rattle.tree.proofs.Insertion.Levels.{level_under-pages}
use Rattle.tree.proofs.Insertion.Pages.{Distinct}
use Rattle.tree.specs.Lists.{NonEmpty, occ}
use Rattle.tree.proofs.ListLaws.{non_empty-length, concat_map-non_empty, occ_append, occ-behind, occ-here, occ-all}
use Rattle.tree.proofs.Removal.Levels.{page_on_level}
use Rattle.tree.specs.Store.{Store, read_entry, read_tree}
use Rattle.tree.specs.Tree.{Tree, pairs_under, pairs, pages, level_under, level}
use Rattle.idx_page.specs.Header.{max_bytes, no_page, is_page, root_offset, free_pointer, file_size, key_length}
use Rattle.idx_page.specs.HeaderLaws.{is-page, good-header}
use Rattle.idx_page.specs.Page.{attribute_at, left_at, right_at, capacity}
use Rattle.idx_sound.specs.Sound.{index_tree, index_pages, links_of, FreePage, Sound, leaf_pairs}
use Rattle.idx_sound.specs.FreeLaws.{free-attribute}
use Rattle.idx_sound.proofs.IndexLaws.{index_of, sound-sized, sound-index}
use Rattle.idx_layout_laws.specs.EntryLaws.{entries_in}
use Rattle.idx_insert_laws.specs.ItemLists.{Shaped}
use Rattle.idx_insert_laws.specs.SoundReading.{sound-tree, sound-shaped}
use Rattle.idx_remove_laws.specs.RemovalEntries.{Filled}
use Rattle.idx_remove_laws.specs.RemovalBuffer.{Ready}

-- what all pages of a list and the number that names none have, the first of the list has
pub head-all : (P : ℕ → Type 0) (none : ℕ) (ps : List ℕ) → P none → ((z : ℕ) → 0 < occ z ps → P z) → P (head_or none ps)
head-all P none [] n f = n
head-all P none (p ∷ ps) n f = f p (occ-here p ps)

-- the pages of a level and of a free list name numbers below n, if theirs are
module _ (n none : ℕ) (some : none < n) where
  linked-below : (l : Links) (z prev : ℕ) (ps : List ℕ) → prev < n → ((z : ℕ) → 0 < occ z ps → z < n) → Linked none l prev ps → 0 < occ z ps
      → (l.left z < n) × (l.right z < n)
  linked-below l z prev [] a f c o = absurd (omega arith)
  linked-below l z prev (p ∷ ps) a f c o = either (eqb z p)
      (λ e. rw (eqb-true z p e, c.0, c.1) (a, head-all (λ y. y < n) none ps some (λ y u. f y (omega arith))))
      (λ e. linked-below l z p ps (f p (occ-here p ps)) (λ y u. f y (omega arith)) c.2 (occ-behind z p ps (eqb-false z p e) o))

  chained-below : (next : ℕ → ℕ) (z head : ℕ) (ps : List ℕ) → ((z : ℕ) → 0 < occ z ps → z < n) → Chained none next head ps → 0 < occ z ps → next z < n
  chained-below next z head [] f c o = absurd (omega arith)
  chained-below next z head (p ∷ ps) f c o = either (eqb z p)
      (λ e. rw (eqb-true z p e, chained-head none next (next p) ps c.1) (head-all (λ y. y < n) none ps some (λ y u. f y (omega arith))))
      (λ e. chained-below next z (next p) ps (λ y u. f y (omega arith)) c.1 (occ-behind z p ps (eqb-false z p e) o))

module _ (b : List ℕ) (s : Sound b) where
  -- a page of the file has a number of four bytes
  small : (z : ℕ) → is_page (file_size b) z ≡ true → z < 2 ^ 32
  small z t = omega (arith, (is-page (file_size b) z t).high, (good-header b s.header).most)

  tree-small : (z : ℕ) → 0 < occ z (index_pages b s.height) → z < 2 ^ 32
  tree-small z o = small z (occ-all (λ p. is_page (file_size b) p ≡ true) z (index_pages b s.height) s.inside o)

  free-small : (z : ℕ) → 0 < occ z s.free → z < 2 ^ 32
  free-small z o = small z (occ-all (λ p. is_page (file_size b) p ≡ true) z s.free s.free_inside o)

  -- the links of the tree's pages
  tree-links : (z : ℕ) → 0 < occ z (index_pages b s.height) → (left_at b z < 2 ^ 32) × (right_at b z < 2 ^ 32)
  tree-links z o =
      let h = s.height in
      let t : Tree (List ℕ) h = index_tree b h in
      let w : (m : ℕ) × (m < suc h) × (0 < occ z (level_under m (suc h) ([], t))) = page_on_level z (suc h) ([], t) o in
      linked-below (2 ^ 32) no_page (omega arith) (links_of b) z no_page (level w.0 h t) (omega arith)
      (λ y u. tree-small y (omega (arith, level_under-pages y w.0 (suc h) ([], t)))) (s.links w.0 (omega (arith, w.1))) w.2

  -- Theorem: attribute and right link of every page of the file are numbers of two and of four bytes
  pub sound-plain : (z : ℕ) → is_page (file_size b) z ≡ true → (attribute_at b z < 2 ^ 16) × (right_at b z < 2 ^ 32)
  sound-plain z t =
      let ps = index_pages b s.height in
      let all = occ_append z ps s.free in
      either (ltb 0 (occ z ps))
      (λ e. let o = ltb-true 0 (occ z ps) e in
      (omega (arith, occ-all (λ p. attribute_at b p ≤ 3) z ps s.attributes o), (tree-links z o).1))
      (λ e. let o : 0 < occ z s.free = omega (arith, all, s.once z t, ltb-false 0 (occ z ps) e) in (
        omega (arith, free-attribute b z (occ-all (FreePage b) z s.free s.free_pages o)),
        chained-below (2 ^ 32) no_page (omega arith) (right_at b) z (free_pointer b) s.free free-small s.free_list o,
      ))

-- a shape whose counts are 1 or more has entries on every page
module _ (k : ℕ) (b : List ℕ) where
  abbrev S : Store (List ℕ)
  S = entries_in k b

  filled-level : (h : ℕ)
      → ((e : List ℕ × ℕ) → Shaped k h b e.1 → SizedUnder (capacity k) (suc h) (read_entry S (suc h) e) → Filled k h b e.1)
      → (es : List (List ℕ × ℕ)) → All (λ e. Shaped k h b e.1) es → All (SizedUnder (capacity k) (suc h)) (map (read_entry S (suc h)) es)
      → All (λ e. Filled k h b e.1) es
  filled-level h rec [] f z = tt
  filled-level h rec (e ∷ es) f z = (rec e f.0 z.0, filled-level h rec es f.1 z.1)

  filled-under : (h : ℕ) (e : List ℕ × ℕ) → Shaped k h b e.1 → SizedUnder (capacity k) (suc h) (read_entry S (suc h) e) → Filled k h b e.1
  filled-under zero e f z = (f.0, f.1, non_empty-length (S e.1) (rw (length-map (S e.1) (read_entry S zero)) at z.0))
  filled-under (suc h) e f z = (f.0, f.1, f.2, filled-level h (λ c g y. filled-under h c g y) (S e.1) f.3 z.2, f.4)

  filled-root : (h p : ℕ) → Shaped k h b p → Sized (capacity k) h (read_tree S h p) → NonEmpty (pairs h (read_tree S h p)) → Filled k h b p
  filled-root zero p f z some = (f.0, f.1, unread (S p) (concat_map-non_empty (pairs_under zero) (map (read_entry S zero) (S p)) some))
    where
      unread : (es : List (List ℕ × ℕ)) → NonEmpty (map (read_entry S zero) es) → NonEmpty es
      unread [] n = n
      unread (e ∷ es) n = tt
  filled-root (suc h) p f z some = (f.0, f.1, f.2, filled-level h (λ c g y. filled-under h c g y) (S p) f.3 z.2, f.4)

-- Theorem: a sound index that has pairs is ready for a removal
pub sound-ready : (b : List ℕ) (s : Sound b) → NonEmpty (leaf_pairs b s) → Ready (key_length b) b s.height
sound-ready b s some =
    let h = s.height in
    let same = sound-tree b s in
    record {
      low = omega (arith, s.levels);
      filled = filled-root (key_length b) b h (root_offset b) (sound-shaped b s)
          (subst (λ (t : Tree (List ℕ) h). Sized (capacity (key_length b)) h t) (sym same) (sound-sized b s))
          (subst (λ (t : Tree (List ℕ) h). NonEmpty (pairs h t)) (sym same) some);
      once = subst (λ (t : Tree (List ℕ) h). Distinct (pages h t)) (sym same)
          (pages-distinct (index_of b h s.free) (sound-index b s max_bytes (good-header b s.header).most).pages_once);
      plain = record {
        links = λ z o. tree-links b s z (subst (λ (t : Tree (List ℕ) h). 0 < occ z (pages h t)) same o);
        free = rw (chained-head no_page (right_at b) (free_pointer b) s.free s.free_list)
            (head-all (λ z. z < 2 ^ 32) no_page s.free (omega arith) (free-small b s));
      };
    }
