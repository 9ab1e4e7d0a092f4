-- Laws: the whole buffer after a removal: it is read as the tree that the theory's removal leaves, its levels are linked, its header is the old one but for
-- the free pointer, and the emptied pages are free. Assumes nothing.
use Rattle.std.specs.Prelude.{◌≡◌, refl, true, List, [], ℕ, suc, ◌<◌, length, eqb}
use Rattle.std.proofs.Common.{sym, ap, ◌∙◌, subst, arith, eq-eqb}
use Rattle.basis.specs.Tests.{either}
use Rattle.octets.specs.Store.{window}
use Rattle.tree.proofs.AwayLaws.{Clear}
use Rattle.tree.specs.Clauses.{AllLinked}
use Rattle.tree.specs.FreeChain.{Chained}
use Rattle.tree.proofs.FreeChainLaws.{chained_same}
use Rattle.tree.specs.FreeList.{join_free}
use Rattle.tree.proofs.Insertion.Levels.{level_under-pages}
use Rattle.tree.proofs.Insertion.Pages.{Distinct}
use Rattle.tree.proofs.LinkLaws.{linked-same}
use Rattle.tree.specs.Lists.{NonEmpty, occ}
use Rattle.tree.proofs.ListLaws.{occ-here}
use Rattle.tree.specs.Keeping.{Route}
use Rattle.tree.specs.Removal.{Shrunk, shrunk_pages, remove, emptied}
use Rattle.tree.proofs.Removal.Links.{remove-all-linked, remove_away, remove-clear}
use Rattle.tree.proofs.Removal.Pages.{remove-pages}
use Rattle.tree.specs.Store.{Store, read_tree}
use Rattle.tree.proofs.Store.InsertionLaws.{pages_of}
use Rattle.tree.proofs.Store.Laws.{write-here}
use Rattle.tree.specs.Store.Removal.{StoreRemoved, height_left, store_remove_among, store_remove_under, store_remove}
use Rattle.tree.proofs.Store.RemovalLaws.{remove-read, emptied-read}
use Rattle.tree.specs.Tree.{Tree, level, pages}
use Rattle.tree.specs.Unlinking.{unlink_all}
use Rattle.idx_page.specs.Header.{max_levels, no_page, page_size, root_offset, free_pointer, is_page}
use Rattle.idx_page.specs.Page.{right_at}
use Rattle.idx_page.proofs.ReadingLaws.{right-same}
use Rattle.idx_layout.specs.Layout.{new_page}
use Rattle.idx_leaf.specs.Leaf.{stored}
use Rattle.idx_sound.specs.Sound.{links_of}
use Rattle.idx_remove_page.specs.Removal.{Outcome, kept, emptied as emptiedPage, bad, Step, remove_under, at_root, removed_buffer}
use Rattle.idx_layout_laws.specs.EntryLaws.{entries_in, page-of, length-new}
use Rattle.idx_layout_laws.specs.HeadLaws.{Head, SameHeader, new-head, new-header}
use Rattle.idx_layout_laws.specs.FreeLaws.{SameButFree, free_page, same-header, same-free}
use Rattle.idx_layout_laws.specs.OtherPages.{new-bytes}
use Rattle.idx_remove_laws.specs.EntryLists.{route_of}
use Rattle.idx_remove_laws.specs.RemovalEntries.{OutcomeIs, StepIs, emptied_from, store_after, Filled, filled-page, filled-pages, removes, root_is}
use Rattle.idx_remove_laws.specs.RemovalHeads.{Plain, Heads, remove-heads}
use Rattle.idx_remove_laws.specs.RemovalInduction.{emptied-apart}
use Rattle.idx_remove_laws.specs.RemovalFree.{joined-chained, Freed, freed_but, remove-free}

-- an index with h levels under its root before a removal: every page of it has entries, and none is reached twice
pub record Ready (k : ℕ) (b : List ℕ) (h : ℕ) : Type 0 where
  pub low : h < max_levels
  pub filled : Filled k h b (root_offset b)
  pub once : Distinct (pages h (read_tree (entries_in k b) h (root_offset b)))
  pub plain : Plain (pages h (read_tree (entries_in k b) h (root_offset b))) b

module _ (k : ℕ) (key : List ℕ) (number : ℕ) (b : List ℕ) (h : ℕ) (r : Ready k b h) (long : length key ≡ k) where
  -- the tree before the removal, its route, and what the theory's removal leaves on the store: the pages emptied, and the entries of all pages
  abbrev pub tree_in : Tree (List ℕ) h
  tree_in = read_tree (entries_in k b) h (root_offset b)

  abbrev pub route : Route (List ℕ)
  route = route_of b (stored key number)

  abbrev pub gone : List ℕ
  gone = emptied_from b (stored key number) (entries_in k b) h (root_offset b)

  abbrev pub left : Store (List ℕ)
  left = store_after b (stored key number) (entries_in k b) h (root_offset b)

  abbrev last : Step
  last = remove_under k max_levels b (stored key number) (root_offset b)

  root-page : is_page (length b) (root_offset b) ≡ true
  root-page = (filled-page k h b (root_offset b) r.filled).0

  last_is : StepIs k (length b) (root_offset b) last left
  last_is = removes k (stored key number) b long h max_levels (root_offset b) r.low r.filled r.once

  inside : (z : ℕ) → 0 < occ z (pages h tree_in) → is_page (length b) z ≡ true
  inside z o = filled-pages k b z h (root_offset b) r.filled o

  last-heads : Heads k (pages h tree_in) gone b last.after
  last-heads = remove-heads k b (pages h tree_in) inside r.plain (stored key number) long h max_levels (root_offset b) r.low r.filled r.once (λ z o. o)

  last-free : Freed (pages h tree_in) gone b last.after
  last-free = remove-free k b (pages h tree_in) inside r.plain (stored key number) long h max_levels (root_offset b) r.low r.filled r.once (λ z o. o)

  -- the last step's buffer with an empty leaf for its root
  abbrev lone : List ℕ
  lone = new_page last.after (root_offset b) 3 no_page no_page []

  -- a property of the buffer after the removal: if the root has entries left, of the last step's, and if it has none, of that with an empty root leaf
  by_root : (P : List ℕ → Type 0) → (NonEmpty (left (root_offset b)) → P last.after) → (left (root_offset b) ≡ [] → P lone) → P (removed_buffer k b key number)
  unfolding removed_buffer
  by_root P some none = go last.outcome last_is.told
    where
      go : (o : Outcome) → OutcomeIs o (left (root_offset b)) → P (at_root last.after (root_offset b) o)
      go kept t = some t
      go emptiedPage t = none t
      go bad t = absurd t

  pub entries-after : entries_in k (removed_buffer k b key number) ≡ left
  unfolding removed_buffer
  entries-after = root_is k (stored key number) b (root_offset b) last left root-page last_is

  -- Theorem: the buffer is read as the tree after the removal
  pub tree-after : let height : ℕ = (store_remove route h (root_offset b) (entries_in k b)).0 in
      ◌≡◌ {A = Shrunk (List ℕ)} (height, read_tree (entries_in k (removed_buffer k b key number)) height (root_offset b)) (remove route h tree_in)
  tree-after =
      let height : ℕ = (store_remove route h (root_offset b) (entries_in k b)).0 in
      ap (λ (T : Store (List ℕ)). (height, read_tree T height (root_offset b))) entries-after
      ∙ remove-read route h (root_offset b) (entries_in k b) r.once

  pub length-after : length (removed_buffer k b key number) ≡ length b
  length-after = by_root (λ c. length c ≡ length b) (λ s. last_is.as_long)
      (λ e. length-new last.after (root_offset b) 3 no_page no_page [] ∙ last_is.as_long)

  -- the empty root leaf is written behind the header
  root-there : is_page (length last.after) (root_offset b) ≡ true
  root-there = page-of (root_offset b) last_is.as_long root-page

  lone-header : SameHeader last.after lone
  lone-header = new-header k last.after (root_offset b) 3 no_page no_page [] root-there (omega arith) (omega arith) (omega arith) tt (omega arith)

  pub header-after : SameButFree b (removed_buffer k b key number)
  header-after = by_root (λ c. SameButFree b c) (λ s. last-heads.header)
      (λ e. let same = same-header last.after lone lone-header in
      record { before = same.before ∙ last-heads.header.before; after = same.after ∙ last-heads.header.after })

  -- the emptied pages are free, and pages outside the tree keep their bytes
  free-after : Freed (pages h tree_in) gone b (removed_buffer k b key number)
  free-after = by_root (λ c. Freed (pages h tree_in) gone b c) (λ s. last-free)
      (λ e. freed_but k (pages h tree_in) b gone last.after lone (root_offset b) last_is.as_long
      (occ-here (root_offset b) (pages_of (entries_in k b) h (entries_in k b (root_offset b))))
      (emptied-apart k (stored key number) b h (root_offset b) r.once)
      (same-free last.after lone lone-header)
      (λ z t ne. new-bytes k last.after (root_offset b) root-there z (page-of z last_is.as_long t) ne 3 no_page no_page [] tt (omega arith)) last-free)

  -- Theorem: if the root has entries left, the heads of the pages that stay are the old ones but for the links around emptied pages; if it has none, it is an
  -- empty leaf
  pub heads-after : NonEmpty (left (root_offset b)) → Heads k (pages h tree_in) gone b (removed_buffer k b key number)
  heads-after = by_root (λ c. NonEmpty (left (root_offset b)) → Heads k (pages h tree_in) gone b c) (λ s t. last-heads) (λ e t. absurd (rw e at t))

  pub root-after : left (root_offset b) ≡ [] → Head (removed_buffer k b key number) (root_offset b) 3 0 no_page no_page
  root-after = by_root (λ c. left (root_offset b) ≡ [] → Head c (root_offset b) 3 0 no_page no_page) (λ s e. absurd (rw e at s))
      (λ e t. let p = root_offset b in
      rw (eq-eqb p p refl)
      at (new-head k last.after p 3 no_page no_page [] root-there (omega arith) (omega arith) (omega arith) tt (omega arith) p root-there))

  -- the tree that is left if the root has no entry left: the root alone
  pub lone-tree : left (root_offset b) ≡ [] → ◌≡◌ {A = Shrunk (List ℕ)} (0, (root_offset b, [])) (remove route h tree_in)
  lone-tree e =
      let w : StoreRemoved (List ℕ) =
      store_remove_among route h (λ c. store_remove_under route h c (entries_in k b)) (entries_in k b (root_offset b)) (entries_in k b) in
      lone-read w.0 left (sym (write-here w.2 (root_offset b) w.0) ∙ e) e ∙ remove-read route h (root_offset b) (entries_in k b) r.once
    where
      lone-read : (es : List (List ℕ × ℕ)) (T : Store (List ℕ)) → es ≡ [] → T (root_offset b) ≡ []
          → ◌≡◌ {A = Shrunk (List ℕ)} (0, (root_offset b, [])) (height_left h es, read_tree T (height_left h es) (root_offset b))
      lone-read es T e f = rw (e, f)

  -- a page that is left in the tree is a page of the buffer and was not emptied
  pub stays : (z : ℕ) → 0 < occ z (shrunk_pages (remove route h tree_in)) → (is_page (length b) z ≡ true) × (occ z gone ≡ 0)
  stays z o =
      let all = remove-pages route z h tree_in in
      let same : occ z gone ≡ occ z (emptied route h tree_in) = ap (occ z) (emptied-read route h (root_offset b) (entries_in k b) r.once) in
      (inside z (omega arith), omega (arith, r.once z))

  -- Theorem: all levels of the tree that is left are linked
  pub links-after : occ no_page (pages h tree_in) ≡ 0 → AllLinked no_page (links_of b) h tree_in
      → AllLinked no_page (links_of (removed_buffer k b key number)) (remove route h tree_in).0 (remove route h tree_in).1
  links-after proper linked = by_root (λ c. SameHeads c → AllLinked no_page (links_of c) (remove route h tree_in).0 (remove route h tree_in).1)
      (λ s v. kept-links s (v.0 s)) (λ e v. lone-links e (v.1 e)) (heads-after, root-after)
    where
      SameHeads : List ℕ → Type 0
      SameHeads c =
          (NonEmpty (left (root_offset b)) → Heads k (pages h tree_in) gone b c)
          × (left (root_offset b) ≡ [] → Head c (root_offset b) 3 0 no_page no_page)

      after : AllLinked no_page (unlink_all gone (links_of b)) (remove route h tree_in).0 (remove route h tree_in).1
      after =
          rw (emptied-read route h (root_offset b) (entries_in k b) r.once)
          (remove-all-linked route no_page [] h tree_in r.once proper (links_of b) linked)

      kept-links : {c : List ℕ} → NonEmpty (left (root_offset b)) → Heads k (pages h tree_in) gone b c
          → AllLinked no_page (links_of c) (remove route h tree_in).0 (remove route h tree_in).1
      kept-links {c} s v j l =
          linked-same no_page (unlink_all gone (links_of b)) (links_of c) no_page (level j (remove route h tree_in).0 (remove route h tree_in).1)
          (λ z o. let t = stays z (omega (arith, level_under-pages z j (suc (remove route h tree_in).0) ([], (remove route h tree_in).1))) in
          (v.lefts z t.0 t.1, v.rights z t.0 t.1)) (after j l)

      lone-links : {c : List ℕ} → left (root_offset b) ≡ [] → Head c (root_offset b) 3 0 no_page no_page
          → AllLinked no_page (links_of c) (remove route h tree_in).0 (remove route h tree_in).1
      lone-links {c} e v = subst (λ (t : Shrunk (List ℕ)). AllLinked no_page (links_of c) t.0 t.1) (lone-tree e)
          (λ j l. either (eqb j 0) (λ u. rw u (v.left_is, v.right_is, tt)) (λ u. rw u tt))

  -- a page of the buffer outside the tree; page numbers are multiples of 512, so none has the number that names no page
  abbrev pub Outside : ℕ → Type 0
  Outside z = (is_page (length b) z ≡ true) × (occ z (pages h tree_in) ≡ 0) × (z ≡ no_page → ⊥)

  module _ (proper : occ no_page (pages h tree_in) ≡ 0) (linked : AllLinked no_page (links_of b) h tree_in) where
    emptied_is : emptied route h tree_in ≡ gone
    emptied_is = sym (emptied-read route h (root_offset b) (entries_in k b) r.once)

    clear : Clear (links_of b) gone
    clear = rw (← emptied_is) (remove-clear route no_page [] h tree_in r.once proper (links_of b) linked)

    -- Theorem: a page outside the tree keeps its bytes
    pub outside-after : (z : ℕ) → Outside z → window (removed_buffer k b key number) z page_size ≡ window b z page_size
    outside-after z o =
        free-after.others z o.0 o.1 (rw (← emptied_is) (remove_away route no_page [] h tree_in r.once proper (links_of b) linked z o.2 o.1))

    -- Theorem: an emptied page is "zero but for bytes 8-11"
    pub forms-after : (z : ℕ) → 0 < occ z gone → window (removed_buffer k b key number) z page_size ≡ free_page (right_at (removed_buffer k b key number) z)
    forms-after z o = free-after.forms clear z o

    -- Theorem: the free list after the removal is the emptied pages, each at the head, before the old free list, whose pages are outside the tree
    pub chain-after : (free : List ℕ) → ((z : ℕ) → 0 < occ z free → Outside z) → Chained no_page (right_at b) (free_pointer b) free
        → Chained no_page (right_at (removed_buffer k b key number)) (free_pointer (removed_buffer k b key number)) (join_free gone free)
    chain-after free outside c =
        let b' = removed_buffer k b key number in
        joined-chained (right_at b') (free_pointer b) gone free (free_pointer b') (free-after.joined clear)
        (chained_same no_page (right_at b) (right_at b') (free_pointer b) free (λ z o. right-same b' b z (outside-after z (outside z o))) c)
