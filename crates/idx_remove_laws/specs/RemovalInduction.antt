-- Laws: removal's steps on bytes by one induction: what holds of the buffer before the removal, and is kept by each of the two steps that change it, holds of
-- the buffer after it, with the pages that it emptied. Cited by the laws of heads and of free pages. Assumes nothing.
use Rattle.std.specs.Prelude.{◌≡◌, true, length}
use Rattle.std.proofs.Math.Path.{refl}
use Rattle.std.proofs.Common.{sym, ◌∙◌, subst, arith, ne_eqb}
use mathlib.Core.List.{List, [], ◌∷◌, ◌++◌, append-nil}
use Prim.Native.Nat.{ℕ, zero, suc, ◌+◌, ◌≤◌, ◌<◌}
use Rattle.tree.proofs.Insertion.Pages.{Distinct}
use Rattle.tree.specs.Lists.{occ, concat_map}
use Rattle.tree.proofs.ListLaws.{occ_append, occ-here, occ_not_head}
use Rattle.tree.specs.Removal.{if_emptied, settle, shrunk_pages, remove_entries}
use Rattle.tree.proofs.Removal.Pages.{remove-pages}
use Rattle.tree.specs.Store.{read_tree}
use Rattle.tree.proofs.Store.InsertionLaws.{pages_of}
use Rattle.tree.proofs.Store.RemovalLaws.{emptied-read}
use Rattle.tree.specs.Tree.{Entry, pages_under, pages}
use Rattle.idx_page.specs.Header.{is_page}
use Rattle.idx_page.specs.Reading.{Item}
use Rattle.idx_leaf.specs.Leaf.{items_in}
use Rattle.idx_layout.specs.Layout.{unlinked, freed}
use Rattle.idx_remove_page.specs.Removal.{Outcome, kept, emptied, bad, Step, take_out, after_child, remove_under}
use Rattle.idx_layout_laws.specs.EntryLaws.{entries_in, Usable}
use Rattle.idx_layout_laws.specs.FreeLaws.{length-unlinked, length-freed}
use Rattle.idx_remove_laws.specs.EntryLists.{route_of, leaf_is, leaf-inside, entry-all, entry-pages}
use Rattle.idx_remove_laws.specs.RemovalEntries.{OutcomeIs, emptied_from, store_after, leaf-emptied, upper-emptied, Filled, filled-page}
use Rattle.idx_remove_laws.specs.RemovalEntries.{place, place_inside, through, filled-route}
use Rattle.idx_remove_laws.specs.RemovalEntries.{below, Removes, some, inside, child_is, child-distinct, still_inside, removes, child-apart}

-- the pages of the tree under the page at p, with h levels under it, are in the list qs
abbrev pub Inside : (k : ℕ) (b qs : List ℕ) (h p : ℕ) → Type 0
Inside k b qs h p = (z : ℕ) → 0 < occ z (pages h (read_tree (entries_in k b) h p)) → 0 < occ z qs

module _ (k : ℕ) (item : Item) (b : List ℕ) where
  -- the emptied pages are pages of the tree, and the root is none of them
  emptied-inside : (h p z : ℕ) → Distinct (pages h (read_tree (entries_in k b) h p))
      → occ z (emptied_from b item (entries_in k b) h p) ≤ occ z (pages h (read_tree (entries_in k b) h p))
  emptied-inside h p z d =
      rw (emptied-read (route_of b item) h p (entries_in k b) d)
      (omega (arith, remove-pages (route_of b item) z h (read_tree (entries_in k b) h p)))

  pub emptied-apart : (h p : ℕ) → Distinct (pages h (read_tree (entries_in k b) h p)) → occ p (emptied_from b item (entries_in k b) h p) ≡ 0
  emptied-apart h p d =
      let t = read_tree (entries_in k b) h p in
      let all = remove-pages (route_of b item) p h t in
      rw (emptied-read (route_of b item) h p (entries_in k b) d) (omega (arith, all, d p, root-stays p h (remove_entries (route_of b item) h t.1)))
    where
      root-stays : (p h : ℕ) (xs : List (Entry (List ℕ) h)) → 0 < occ p (shrunk_pages (settle h p xs))
      root-stays p h [] = occ-here p []
      root-stays p h (x ∷ xs) = occ-here p (concat_map (pages_under h) (x ∷ xs))

-- P says of the pages ps, pages of the list qs, and of a buffer, that they were unlinked and freed one after another and that entries of pages of qs went. It
-- holds of the buffer b with no page, and each of the two steps keeps it
pub record StepsKeep (k : ℕ) (qs b : List ℕ) (P : List ℕ → List ℕ → Type 0) : Type 0 where
  pub none : P [] b
  -- an entry goes from the page at p
  pub taken : (ps b' : List ℕ) (p i : ℕ) → length b' ≡ length b → is_page (length b) p ≡ true → i < length (items_in k b' p) → 0 < occ p qs → occ p ps ≡ 0
      → P ps b' → P ps (take_out k b' p i).after
  -- the page at c is unlinked and becomes free
  pub out : (ps b' : List ℕ) (c : ℕ) → length b' ≡ length b → Usable b c → 0 < occ c qs → occ c ps ≡ 0 → P ps b'
      → P (ps ++ (c ∷ [])) (freed (unlinked b' c) c)

module _ (k : ℕ) (item : Item) (b qs : List ℕ) (P : List ℕ → List ℕ → Type 0) (keep : StepsKeep k qs b P) where
  -- the page at p after the step at its child at c, which emptied the pages ps
  after-child-keeps : (ps b' : List ℕ) (p i c : ℕ) (o : Outcome) (es : List (List ℕ × ℕ)) → length b' ≡ length b → is_page (length b) p ≡ true → Usable b c
      → 0 < occ p qs → 0 < occ c qs → occ p ps ≡ 0 → occ c ps ≡ 0 → (p ≡ c → ⊥) → i < length (items_in k (freed (unlinked b' c) c) p) → OutcomeIs o es
      → P ps b' → P (ps ++ if_emptied c es) (after_child k b' p i c o).after
  after-child-keeps ps b' p i c kept [] n tp tc op oc np nc ne l t v = absurd t
  after-child-keeps ps b' p i c kept (x ∷ xs) n tp tc op oc np nc ne l t v = rw (append-nil ps) v
  after-child-keeps ps b' p i c emptied es n tp tc op oc np nc ne l t v =
      let m : length (freed (unlinked b' c) c) ≡ length b = length-freed (unlinked b' c) c ∙ length-unlinked b' c ∙ n in
      let none : occ p (ps ++ (c ∷ [])) ≡ 0 =
      let other : occ p (c ∷ []) ≡ 0 = rw (ne_eqb p c ne) in omega (arith, occ_append p ps (c ∷ [])) in
      rw t (keep.taken (ps ++ (c ∷ [])) (freed (unlinked b' c) c) p i m tp l op none (keep.out ps b' c n tc oc nc v))
  after-child-keeps ps b' p i c bad es n tp tc op oc np nc ne l t v = absurd t

  -- what P says after removal's step at the page at p
  abbrev Goes : (h left p : ℕ) → Type 0
  Goes h left p = P (emptied_from b item (entries_in k b) h p) (remove_under k left b item p).after

  -- Theorem: what both steps keep holds after removal's step at a page, all of whose pages are in the list qs, with the pages that it emptied, leaf first
  pub remove-keeps : length item.0 ≡ k → (h left p : ℕ) → h < left → Filled k h b p → Distinct (pages h (read_tree (entries_in k b) h p))
      → Inside k b qs h p → Goes h left p
  unfolding remove_under
  remove-keeps long zero zero p l f d i = absurd (omega arith)
  remove-keeps long (suc h) zero p l f d i = absurd (omega arith)
  remove-keeps long zero (suc left) p l f d i =
      let S = entries_in k b in
      let es = items_in k b p in
      let more = some k item b p f.2 in
      rw (f.0.0, f.1, leaf-emptied b item S (place k item b p) p (place_inside k item b p f.2) (leaf_is b item S es))
      (keep.taken [] b p (place k item b p) refl f.0.0 (leaf-inside b item es more) (i p (occ-here p (pages_of S zero (S p)))) refl keep.none)
  remove-keeps long (suc h) (suc left) p l f d i =
      rw (
        f.0.0,
        f.1,
        upper-emptied b item (entries_in k b) (through k item b p) p (inside k item b p f.2) h (filled-route k b item h p long f),
      ) (subst UpperGoes (sym (child_is k item b p f.2)) (upper (λ q g o u. remove-keeps long h left q (omega arith) g o u)))
    where
      c : ℕ
      c = below k item b p

      UpperGoes : ℕ → Type 0
      UpperGoes q =
          let s : Step = remove_under k left b item q in
          let ps : List ℕ = emptied_from b item (entries_in k b) h c ++ if_emptied c (store_after b item (entries_in k b) h c c) in
          P ps (after_child k s.after p (through k item b p) q s.outcome).after

      upper : ((q : ℕ) → Filled k h b q → Distinct (pages h (read_tree (entries_in k b) h q)) → Inside k b qs h q → Goes h left q) → UpperGoes c
      upper rec =
          let S = entries_in k b in
          let s : Step = remove_under k left b item c in
          let at = inside k item b p f.2 in
          let under : Filled k h b c = entry-all (λ e. Filled k h b e.1) (through k item b p) (S p) at f.3 in
          let once = child-distinct k item b p f.2 h d in
          let w : Removes k item b h left c = removes k item b long h left c (omega arith) under once in
          let within : Inside k b qs h c = λ z o. i z (omega (arith, entry-pages S (suc h) z (through k item b p) (S p) at)) in
          let apart = child-apart k item b p f.2 h d in
          let there = still_inside k item b p f.2 h d s w (filled-page k h b c under).0 in
          after-child-keeps (emptied_from b item S h c) s.after p (through k item b p) c s.outcome (store_after b item S h c c) w.as_long f.0.0
          (filled-page k h b c under) (i p (occ-here p (pages_of S (suc h) (S p)))) (within c (occ-here c (pages_of S h (S c))))
          (omega (arith, apart, emptied-inside k item b h c p once)) (emptied-apart k item b h c once)
          (λ e. occ_not_head p c (pages_of S h (S c)) apart e) there w.told (rec c under once within)
