-- Laws: the bytes of free pages, of pages outside the tree, and the free list after removal's steps on bytes: emptied pages have a free page's bytes and are
-- chained, each naming the one before it, and pages outside the tree keep their bytes. Cited by the laws of the whole buffer. Assumes nothing.
use Rattle.std.specs.Prelude.{◌≡◌, refl, List, [], ◌∷◌, ◌++◌, ℕ, ◌+◌, ◌^◌, ◌≤◌, ◌<◌, eqb}
use Rattle.std.proofs.Common.{sym, ap, ◌∙◌, arith, lt-ltb, eqb-true, eq-eqb, ne_eqb}
use Rattle.std.proofs.Math.Bool.{true}
use Rattle.std.proofs.Math.ListN.{length}
use Rattle.std.proofs.lemmas.Bool.{eqb-false}
use Rattle.basis.specs.Lists.{All}
use Rattle.basis.specs.Tests.{either}
use Rattle.octets.specs.Store.{window}
use Rattle.tree.proofs.Insertion.Pages.{Distinct}
use Rattle.tree.specs.Lists.{occ}
use Rattle.tree.proofs.ListLaws.{occ_append, occ_differ, occ-here}
use Rattle.tree.specs.FreeChain.{Chained}
use Rattle.tree.proofs.FreeChainLaws.{chained-join}
use Rattle.tree.specs.FreeList.{join_free}
use Rattle.tree.specs.Store.{read_tree}
use Rattle.tree.specs.Tree.{pages as treePages}
use Rattle.idx_page.specs.Header.{page_size, no_page, free_pointer, is_page}
use Rattle.tree.specs.Unlinking.{unlink_all}
use Rattle.idx_page.specs.Page.{right_at, capacity}
use Rattle.idx_page.specs.Reading.{Item}
use Rattle.idx_page.proofs.ReadingLaws.{right-same}
use Rattle.idx_leaf.specs.Leaf.{items_in}
use Rattle.idx_layout.specs.Layout.{unlinked, freed}
use Rattle.idx_entries.specs.Entries.{without_entry}
use Rattle.idx_leaf.specs.ItemLaws.{Fit}
use Rattle.idx_leaf.specs.EntryLaws.{items_in_fit}
use Rattle.idx_entries.proofs.FitLaws.{without_all, length_without}
use Rattle.idx_sound.specs.Sound.{links_of}
use Rattle.idx_remove_page.specs.Removal.{take_out, remove_under}
use Rattle.idx_layout_laws.specs.EntryLaws.{entries_in, Usable, page-of, items-few}
use Rattle.idx_layout_laws.specs.HeadLaws.{with_header}
use Rattle.idx_layout_laws.specs.FreeLaws.{free_page, same-free, length-unlinked, unlinked-header, unlinked-bytes}
use Rattle.idx_layout_laws.specs.FreeLaws.{freed-head, freed-free, freed-bytes, freed-own}
use Rattle.idx_layout_laws.specs.OtherPages.{with_bytes}
use Rattle.tree.proofs.AwayLaws.{Away, Clear, Apart, away_first, away_last, clear_first, clear-last}
use Rattle.idx_remove_laws.specs.RemovalEntries.{emptied_from, Filled}
use Rattle.idx_remove_laws.specs.RemovalHeads.{Plain, Heads, heads_keep}
use Rattle.idx_remove_laws.specs.RemovalInduction.{Inside, StepsKeep, remove-keeps}

-- the pages ps join a list one after another, "each at the head": each names the head before it, and the last is the head at the end
abbrev pub Joined : (ℕ → ℕ) → ℕ → List ℕ → ℕ → Type 0
Joined next head [] end = end ≡ head
Joined next head (p ∷ ps) end = (next p ≡ head) × Joined next p ps end

joined_same : (next next' : ℕ → ℕ) (head : ℕ) (ps : List ℕ) (end : ℕ) → ((z : ℕ) → 0 < occ z ps → next' z ≡ next z) → Joined next head ps end
    → Joined next' head ps end
joined_same next next' head [] end s j = j
joined_same next next' head (p ∷ ps) end s j = (s p (occ-here p ps) ∙ j.0, joined_same next next' p ps end (λ z o. s z (omega arith)) j.1)

joined-last : (next : ℕ → ℕ) (head : ℕ) (ps : List ℕ) (end c : ℕ) → Joined next head ps end → next c ≡ end → Joined next head (ps ++ (c ∷ [])) c
joined-last next head [] end c j e = (e ∙ j, refl)
joined-last next head (p ∷ ps) end c j e = (j.0, joined-last next p ps end c j.1 e)

-- Theorem: pages that join the free list one after another are the free list with the old one
pub joined-chained : (next : ℕ → ℕ) (head : ℕ) (ps free : List ℕ) (end : ℕ) → Joined next head ps end → Chained no_page next head free
    → Chained no_page next end (join_free ps free)
joined-chained next head [] free end j c = rw j c
joined-chained next head (p ∷ ps) free end j c =
    joined-chained next p ps (p ∷ free) end j.1 (chained-join no_page next next head p free j.0 (λ z o. refl) c)

-- b' is b after the pages ps, which are pages of the list qs, were unlinked and freed, and entries of pages of qs changed
pub record Freed (qs ps b b' : List ℕ) : Type 0 where
  pub pages : (z : ℕ) → 0 < occ z ps → is_page (length b) z ≡ true
  -- pages outside keep their bytes, if no page was unlinked as their neighbour
  pub others : (z : ℕ) → is_page (length b) z ≡ true → occ z qs ≡ 0 → Away z (links_of b) ps → window b' z page_size ≡ window b z page_size
  -- a freed page is "zero but for bytes 8-11"
  pub forms : Clear (links_of b) ps → (z : ℕ) → 0 < occ z ps → window b' z page_size ≡ free_page (right_at b' z)
  -- each names the page freed before it, the first the old head, and the header names the last
  pub joined : Clear (links_of b) ps → Joined (right_at b') (free_pointer b) ps (free_pointer b')

module _ (k : ℕ) (qs b : List ℕ) where
  freed-none : Freed qs [] b b
  freed-none = record { pages = λ z o. absurd (omega arith); others = λ z t o a. refl; forms = λ c z o. absurd (omega arith); joined = λ c. refl }

  -- a step that keeps the free pointer and the bytes of all pages but p
  pub freed_but : (ps b' b'' : List ℕ) (p : ℕ) → length b' ≡ length b → 0 < occ p qs → occ p ps ≡ 0 → free_pointer b'' ≡ free_pointer b'
      → ((z : ℕ) → is_page (length b) z ≡ true → (z ≡ p → ⊥) → window b'' z page_size ≡ window b' z page_size) → Freed qs ps b b' → Freed qs ps b b''
  freed_but ps b' b'' p n op np e same v =
      let early : (z : ℕ) → 0 < occ z ps → window b'' z page_size ≡ window b' z page_size =
      λ z o. same z (v.pages z o) (λ q. occ_differ p z ps np o (sym q)) in
      record {
        pages = v.pages;
        others = λ z t o a. same z t (λ q. occ_differ z p qs o op q) ∙ v.others z t o a;
        forms = λ c z o. early z o ∙ v.forms c z o ∙ ap free_page (sym (right-same b'' b' z (early z o)));
        joined = λ c.
            rw e (joined_same (right_at b') (right_at b'') (free_pointer b) ps (free_pointer b') (λ z o. right-same b'' b' z (early z o)) (v.joined c));
      }

  freed-taken : (ps b' : List ℕ) (p i : ℕ) → length b' ≡ length b → is_page (length b) p ≡ true → i < length (items_in k b' p) → 0 < occ p qs → occ p ps ≡ 0
      → Freed qs ps b b' → Freed qs ps b (take_out k b' p i).after
  unfolding take_out
  freed-taken ps b' p i n tp l op np v =
      let es = items_in k b' p in
      let fewer = without_entry i es in
      let fit : All (Fit k) fewer = without_all (Fit k) i es (items_in_fit k b' p) in
      let few : length fewer ≤ capacity k = omega (arith, length_without i es l, items-few k b' p) in
      let tp' : is_page (length b') p ≡ true = page-of p n tp in
      rw (lt-ltb i (length es) l)
      (freed_but ps b' _ p n op np (same-free b' _ (with_header k b' p fewer tp' fit few))
      (λ z t ne. with_bytes k b' p tp' z (page-of z n t) ne fewer fit few) v)

  -- one page more is unlinked and becomes free
  freed-out : (ps b' : List ℕ) (c : ℕ) → length b' ≡ length b → Usable b c → 0 < occ c qs → occ c ps ≡ 0 → Heads k qs ps b b' → Freed qs ps b b'
      → Freed qs (ps ++ (c ∷ [])) b (freed (unlinked b' c) c)
  freed-out ps b' c n tc oc nc w v =
      let l = links_of b in
      let b1 = unlinked b' c in
      let n1 : length b1 ≡ length b = length-unlinked b' c ∙ n in
      let own = w.plain.links c oc in
      let tc1 : is_page (length b1) c ≡ true = page-of c n1 tc.0 in
      let free1 : free_pointer b1 ≡ free_pointer b' = same-free b' b1 (unlinked-header b' c own.0 own.1) in
      let small : free_pointer b1 < 2 ^ 32 = rw free1 w.plain.free in
      let apart : (z : ℕ) → is_page (length b) z ≡ true → (z ≡ c → ⊥) → Apart z (unlink_all ps l) c → window (freed b1 c) z page_size ≡ window b' z page_size =
      λ z t ne a. freed-bytes b1 z (page-of z n1 t) c tc1 ne
      ∙ unlinked-bytes b' c z (page-of z n t) (λ q. a.0 (q ∙ w.lefts c tc.0 nc)) (λ q. a.1 (q ∙ w.rights c tc.0 nc)) in
      let early : Clear l (ps ++ (c ∷ [])) → (z : ℕ) → 0 < occ z ps → window (freed b1 c) z page_size ≡ window b' z page_size =
      λ f z o. apart z (v.pages z o) (λ q. occ_differ c z ps nc o (sym q)) (clear-last l ps c f z o) in
      let own-right : right_at (freed b1 c) c ≡ free_pointer b1 = rw (eq-eqb c c refl) at (freed-head b1 c tc1 small c tc1).right_is in
      record {
        pages = λ z o. either (eqb z c) (λ e. rw (eqb-true z c e) tc.0) (λ e. v.pages z (before_last ps c z (eqb-false z c e) o));
        others = λ z t o a. apart z t (λ q. occ_differ z c qs o oc q) (away_last z l ps c a) ∙ v.others z t o (away_first z l ps c a);
        forms = λ f z o. either (eqb z c)
            (λ e. rw (eqb-true z c e) (freed-own b1 c tc1 ∙ ap free_page (sym own-right)))
            (λ e. let o' = before_last ps c z (eqb-false z c e) o in
            early f z o' ∙ v.forms (clear_first l ps c f) z o' ∙ ap free_page (sym (right-same (freed b1 c) b' z (early f z o'))));
        joined = λ f.
            rw (freed-free b1 c tc1 tc.1)
            (joined-last (right_at (freed b1 c)) (free_pointer b) ps (free_pointer b') c
            (joined_same (right_at b') (right_at (freed b1 c)) (free_pointer b) ps (free_pointer b') (λ z o. right-same (freed b1 c) b' z (early f z o))
            (v.joined (clear_first l ps c f)))
            (own-right ∙ free1));
      }
    where
      before_last : (ps : List ℕ) (c z : ℕ) → (z ≡ c → ⊥) → 0 < occ z (ps ++ (c ∷ [])) → 0 < occ z ps
      before_last ps c z ne o = let none : occ z (c ∷ []) ≡ 0 = rw (ne_eqb z c ne) in omega (arith, occ_append z ps (c ∷ []))

-- a list qs of pages of the buffer
module _ (k : ℕ) (b qs : List ℕ) (inside-qs : (z : ℕ) → 0 < occ z qs → is_page (length b) z ≡ true) (plain : Plain qs b) where
  -- both steps of a removal keep what is said of free pages, beside what is said of heads
  free_keep : StepsKeep k qs b (λ ps b'. Heads k qs ps b b' × Freed qs ps b b')
  free_keep =
      let heads = heads_keep k b qs inside-qs plain in
      record {
        none = (heads.none, freed-none k qs b);
        taken = λ ps b' p i n t l o np v. (heads.taken ps b' p i n t l o np v.0, freed-taken k qs b ps b' p i n t l o np v.1);
        out = λ ps b' c n t o nc v. (heads.out ps b' c n t o nc v.0, freed-out k qs b ps b' c n t o nc v.0 v.1);
      }

  -- Theorem: removal's step frees the emptied pages, leaf first, and keeps the bytes of pages outside the tree
  pub remove-free : (item : Item) → length item.0 ≡ k → (h left p : ℕ) → h < left → Filled k h b p
      → Distinct (treePages h (read_tree (entries_in k b) h p)) → Inside k b qs h p
      → Freed qs (emptied_from b item (entries_in k b) h p) b (remove_under k left b item p).after
  remove-free item long h left p l f d i =
      (remove-keeps k item b qs (λ ps b'. Heads k qs ps b b' × Freed qs ps b b') free_keep long h left p l f d i).1
