-- Laws: insertion's rule reads a sound index up to the buffer's length, and reads the tree that is read up to the file's. Every page of that tree is one of
-- the buffer, has the leaf bit at the bottom only and entries above; its free list is a supply. Cited by the laws of room and of insertion. Assumes nothing.
use Rattle.std.specs.Prelude.{◌≡◌, refl, true, List, [], ◌∷◌, map, ℕ, zero, suc, ◌≤◌, ◌<◌, eqb, length}
use Rattle.std.proofs.Common.{sym, ◌∙◌, subst, arith, eq-eqb, ne_eqb}
use Rattle.std.proofs.lemmas.List.{length-map}
use Rattle.basis.specs.Lists.{All}
use Rattle.tree.specs.Clauses.{least, SizedUnder, Sized}
use Rattle.tree.proofs.IndexPages.{free-distinct, free-beyond}
use Rattle.tree.proofs.ListLaws.{non_empty-length, occ_append, occ-here, occ-all}
use Rattle.tree.specs.Lists.{concat_map, occ}
use Rattle.tree.specs.Store.{Store, read_entry, read_tree}
use Rattle.tree.proofs.Store.Laws.{frame}
use Rattle.tree.specs.Tree.{Tree, pages_under, pages, level_under, level}
use Rattle.idx_page.specs.Header.{max_levels, is_page, root_offset, file_size, key_length}
use Rattle.idx_page.specs.HeaderLaws.{is-page, is_page-from, good-header}
use Rattle.idx_page.specs.Page.{attribute_at, leaf_bit, capacity}
use Rattle.idx_page.specs.Reading.{items_at, entries_at}
use Rattle.idx_sound.specs.Sound.{index_tree, Sound}
use Rattle.idx_sound.proofs.IndexLaws.{index_of, sound-sized, sound-index}
use Rattle.idx_layout_laws.specs.EntryLaws.{entries_in}
use Rattle.idx_insert_laws.specs.Naming.{Usable, FreeGiven}
use Rattle.idx_insert_laws.specs.ItemLists.{Shaped}
use Rattle.idx_insert_laws.specs.InsertionBuffer.{tree_in}

-- a page of a file is a page of every longer file, and has the same entries there
pub page_longer : {m n : ℕ} (p : ℕ) → m ≤ n → is_page m p ≡ true → is_page n p ≡ true
page_longer {m} {n} p l t = let g = is-page m p t in is_page-from n p (record { whole = g.whole; low = g.low; high = omega arith })

pub entries_longer : (k size : ℕ) (b : List ℕ) (p : ℕ) → size ≤ length b → is_page size p ≡ true → entries_in k b p ≡ entries_at k size b p
unfolding entries_at items_at
entries_longer k size b p l t = rw (t, page_longer p l t)

-- the tree read from a root is the same in a longer file, if all pages reached are pages of the file
read_longer : (k size : ℕ) (b : List ℕ) (h root : ℕ) → size ≤ length b
    → ((z : ℕ) → 0 < occ z (pages h (read_tree (entries_at k size b) h root)) → is_page size z ≡ true)
    → read_tree (entries_in k b) h root ≡ read_tree (entries_at k size b) h root
read_longer k size b h root l inside = frame (entries_at k size b) (entries_in k b) (suc h) ([], root) (λ z o. entries_longer k size b z l (inside z o))

pub read_shorter : (k size : ℕ) (b : List ℕ) (h root : ℕ) → size ≤ length b
    → ((z : ℕ) → 0 < occ z (pages h (read_tree (entries_in k b) h root)) → is_page size z ≡ true)
    → read_tree (entries_at k size b) h root ≡ read_tree (entries_in k b) h root
read_shorter k size b h root l inside = frame (entries_in k b) (entries_at k size b) (suc h) ([], root) (λ z o. sym (entries_longer k size b z l (inside z o)))

least-one : (h n : ℕ) → 0 < n → least h ≤ n
least-one zero n l = omega arith
least-one (suc h) n l = omega arith

-- usable pages, leaf bits and counts make a shape
module _ (k : ℕ) (b : List ℕ) where
  abbrev S : Store (List ℕ)
  S = entries_in k b

  -- the same of the pages under a list of entries, with h levels under each
  abbrev PagesUsable : ℕ → List (List ℕ × ℕ) → Type 0
  PagesUsable h es = (z : ℕ) → 0 < occ z (concat_map (pages_under (suc h)) (map (read_entry S (suc h)) es)) → Usable b z

  abbrev LeavesBelow : ℕ → List (List ℕ × ℕ) → Type 0
  LeavesBelow h es = (j z : ℕ) → j ≤ h → 0 < occ z (concat_map (level_under j (suc h)) (map (read_entry S (suc h)) es)) → leaf_bit (attribute_at b z) ≡ eqb j 0

  shaped-level : (h : ℕ)
      → ((e : List ℕ × ℕ) → ((z : ℕ) → 0 < occ z (pages h (read_tree S h e.1)) → Usable b z)
      → ((j z : ℕ) → j ≤ h → 0 < occ z (level_under j (suc h) (e.0, read_tree S h e.1)) → leaf_bit (attribute_at b z) ≡ eqb j 0)
      → Sized (capacity k) h (read_tree S h e.1) → Shaped k h b e.1)
      → (es : List (List ℕ × ℕ)) → PagesUsable h es → LeavesBelow h es → All (SizedUnder (capacity k) (suc h)) (map (read_entry S (suc h)) es)
      → All (λ e. Shaped k h b e.1) es
  shaped-level h rec [] usable leaves sized = tt
  shaped-level h rec (e ∷ es) usable leaves sized =
      let here = pages_under (suc h) (read_entry S (suc h) e) in
      let rest = concat_map (pages_under (suc h)) (map (read_entry S (suc h)) es) in
      let here-at : ℕ → List ℕ = λ j. level_under j (suc h) (read_entry S (suc h) e) in
      let rest_at : ℕ → List ℕ = λ j. concat_map (level_under j (suc h)) (map (read_entry S (suc h)) es) in (
        rec e (λ z o. usable z (omega (arith, occ_append z here rest))) (λ j z l o. leaves j z l (omega (arith, occ_append z (here-at j) (rest_at j))))
            (least-one h (length (map (read_entry S h) (S e.1))) sized.0.0, sized.0.1, sized.0.2),
        shaped-level h rec es (λ z o. usable z (omega (arith, occ_append z here rest)))
            (λ j z l o. leaves j z l (omega (arith, occ_append z (here-at j) (rest_at j)))) sized.1,
      )

  shaped_from : (h p : ℕ) (a : List ℕ) → h ≤ max_levels → ((z : ℕ) → 0 < occ z (pages h (read_tree S h p)) → Usable b z)
      → ((j z : ℕ) → j ≤ h → 0 < occ z (level_under j (suc h) (a, read_tree S h p)) → leaf_bit (attribute_at b z) ≡ eqb j 0)
      → Sized (capacity k) h (read_tree S h p) → Shaped k h b p
  shaped_from zero p a few usable leaves sized =
      (usable p (occ-here p (concat_map (pages_under zero) (map (read_entry S zero) (S p)))), leaves zero p (omega arith) (occ-here p []))
  shaped_from (suc h) p a few usable leaves sized = (
    usable p (occ-here p (concat_map (pages_under (suc h)) (map (read_entry S (suc h)) (S p)))),
    leaves (suc h) p (omega arith) (rw (eq-eqb (suc h) (suc h) refl) (occ-here p [])) ∙ ne_eqb (suc h) 0 (λ q. omega arith),
    non_empty-length (S p) (rw (length-map (S p) (read_entry S (suc h))) at sized.0),
    shaped-level h (λ e. shaped_from h e.1 e.0 (omega arith)) (S p) (λ z o. usable z (omega arith))
        (λ j z l o. leaves j z (omega arith) (rw (ne_eqb j (suc h) (λ q. omega arith)) o)) sized.2,
    omega arith,
  )

module _ (b : List ℕ) (s : Sound b) where
  -- every page of the tree is a page of the file
  sound-page : (z : ℕ) → 0 < occ z (pages s.height (index_tree b s.height)) → is_page (file_size b) z ≡ true
  sound-page z o = occ-all (λ p. is_page (file_size b) p ≡ true) z (pages s.height (index_tree b s.height)) s.inside o

  sound-usable : (z : ℕ) → 0 < occ z (pages s.height (index_tree b s.height)) → Usable b z
  sound-usable z o =
      let g = good-header b s.header in
      let p = is-page (file_size b) z (sound-page z o) in
      (page_longer z g.within (sound-page z o), omega arith)

  -- Theorem: the free list of a sound index is such a one as its supply needs
  pub sound-free : FreeGiven b s.free
  sound-free =
      let g = good-header b s.header in
      let once = (sound-index b s (file_size b) (omega arith)).pages_once in
      record {
        header = g;
        chained = s.free_list;
        inside = s.free_inside;
        once = free-distinct (index_of b s.height s.free) once;
        before-end = free-beyond (index_of b s.height s.free) once;
      }

  -- Theorem: the two readings are one
  pub sound-tree : tree_in (key_length b) b s.height ≡ index_tree b s.height
  sound-tree = read_longer (key_length b) (file_size b) b s.height (root_offset b) (good-header b s.header).within sound-page

  -- Theorem: a sound index has the shape that the laws of insertion's steps ask for
  pub sound-shaped : Shaped (key_length b) s.height b (root_offset b)
  sound-shaped =
      let h = s.height in
      shaped_from (key_length b) b h (root_offset b) [] (omega (arith, s.levels))
      (λ z o. sound-usable z (subst (λ (t : Tree (List ℕ) h). 0 < occ z (pages h t)) sound-tree o))
      (λ j z l o. occ-all (λ p. leaf_bit (attribute_at b p) ≡ eqb j 0) z (level j h (index_tree b h)) (s.leaf_bits j l)
      (subst (λ (t : Tree (List ℕ) h). 0 < occ z (level j h t)) sound-tree o))
      (subst (λ (t : Tree (List ℕ) h). Sized (capacity (key_length b)) h t) (sym sound-tree) (sound-sized b s))
