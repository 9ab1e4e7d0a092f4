-- Laws: the entries of all pages after insertion's steps on bytes are those after the theory's steps on the same entries. Cited by the laws of the whole
-- buffer. Assumes nothing.
use Rattle.std.specs.Prelude.{◌≡◌, false, get_or, take, drop, leb}
use Rattle.std.proofs.Math.Path.{refl}
use Rattle.std.proofs.Common.{sym, ap, ◌∙◌, subst, length-drop, take-append-drop}
use Rattle.std.proofs.Math.Bool.{true}
use mathlib.Core.List.{List, [], ◌∷◌, map}
use Prim.Native.Nat.{ℕ, zero, suc, ◌+◌, ◌^◌, ◌≤◌, ◌<◌}
use native.Mathlib.Omega.{arith}
use Rattle.std.proofs.Math.ListN.{length, length-take, length-map, get_or-map}
use borrow.Author.Tests.{leb-true, leb-false, le-leb, lt-leb, lt-ltb, eq-eqb}
use Rattle.basis.specs.Lists.{All}
use Rattle.basis.specs.Tests.{either}
use Rattle.octets.specs.Bytes.{be32, to_le32, to_be32}
use Rattle.octets.specs.Store.{put}
use Rattle.octets.specs.StoreLaws.{length-put}
use Rattle.octets.specs.NumberLaws.{length-to_le32, length-to_be32, be32-to_be32}
use Rattle.tree.proofs.Insertion.Pages.{new_pages-apart}
use Rattle.tree.proofs.ListLaws.{non_empty-length, occ-here, take_map, drop_map, occ_not_head}
use Rattle.tree.specs.Lists.{NonEmpty, concat_map, occ, count_if, half}
use Rattle.tree.specs.Order.{larger}
use Rattle.tree.proofs.PairLaws.{last_key_default, last_key_append}
use Rattle.tree.specs.Pairs.{last_key, insert_pair}
use Rattle.tree.specs.Position.{choose, replace_at}
use Rattle.tree.proofs.RouteLaws.{replace_at_map}
use Rattle.tree.specs.Store.{Store, read_entry, read_tree}
use Rattle.tree.proofs.Store.InsertionLaws.{store_insert_under_refines, choose-occ}
use Rattle.tree.proofs.Store.Laws.{write-here, write-other}
use Rattle.tree.proofs.Store.RouteLaws.{route-read}
use Rattle.tree.specs.Store.Steps.{write, StoreReplacement, store_split_if_over, store_place, store_insert_among, store_insert_under, StoreGrown, store_insert}
use Rattle.tree.specs.Tree.{pages_under, pages}
use Rattle.idx_page.specs.Header.{no_page, page_size, features, is_page}
use Rattle.idx_page.specs.KeyOrder.{bytes_order}
use Rattle.idx_page.specs.Page.{capacity}
use Rattle.idx_page.specs.Reading.{Item, numbered}
use Rattle.idx_page.specs.EntryOrder.{item_order}
use Rattle.idx_page.specs.ItemLaws.{insert_pair-numbered}
use Rattle.idx_sound.specs.Sound.{kept_by}
use Rattle.idx_supply.specs.declared.Supply.{Supply}
use Rattle.idx_supply.specs.declared.Taken.{Taken}
use Rattle.idx_supply.specs.Supply.{supply_of, take_page}
use Rattle.idx_leaf.specs.Leaf.{items_in, stored, item_of}
use Rattle.idx_route.specs.Route.{chosen_at, child_of}
use Rattle.idx_layout.specs.Layout.{new_page}
use Rattle.idx_entries.specs.Entries.{replaced, raised, two_for}
use Rattle.idx_leaf.specs.ItemLaws.{Fit}
use Rattle.idx_leaf.specs.EntryLaws.{items_in_fit}
use Rattle.idx_entries.proofs.GatherLaws.{length_last}
use Rattle.idx_entries.proofs.FitLaws.{length-insert, length-replaced, pair_fit, two-fit}
use Rattle.idx_insert_page.specs.Insertion.{Outcome, kept, split, bad, Step, step, take_in, after_child, insert_under, at_root}
use Rattle.idx_layout_laws.specs.EntryLaws.{entries_in, page-of, raise, items-few, entries-header, entries_with, length_with, entries-new, entries-split}
use Rattle.idx_layout_laws.specs.EntryLaws.{length-new, length-split, entries-raised, length-raised}
use Rattle.idx_layout_laws.specs.OtherPages.{unchanged, both-kept, with_other, raised-other, split-others}
use Rattle.idx_layout_laws.specs.SupplyLaws.{Storable, supply-stored}
use Rattle.idx_insert_laws.specs.TakenPages.{taken}
use Rattle.idx_insert_laws.specs.Naming.{Naming, Usable, Untaken, next_of, Supplied}
use Rattle.idx_insert_laws.specs.ItemLists.{passes, last_key-numbered, Shaped, shaped-page, position-numbered, chosen-within, chosen-numbered}
use Rattle.idx_insert_laws.specs.ItemLists.{child-shaped, insert_pair-place}

-- what an outcome says of the theory's replacement for the page at p, with the key a above it
abbrev pub OutcomeIs : Naming → List ℕ → ℕ → Outcome → StoreReplacement (List ℕ) → Type 0
OutcomeIs N a p (kept s) w = (s ≡ N.left w.1) × (w.0 ≡ (a, p) ∷ [])
OutcomeIs N a p (split q s) w = (s ≡ N.left w.1) × (w.0 ≡ (last_key a (w.2 p), p) ∷ (a, q) ∷ []) × NonEmpty (w.2 p) × (q < 2 ^ 32)
OutcomeIs N a p bad w = ⊥

-- a step that began with the buffer b leaves the theory's entries and the pages not taken yet, and its outcome says so
pub record StepIs (k : ℕ) (N : Naming) (b a : List ℕ) (p : ℕ) (s : Step) (w : StoreReplacement (List ℕ)) : Type 0 where
  pub entries : entries_in k s.after ≡ w.2
  pub as_long : length s.after ≡ length b
  pub untaken : Untaken N w.1 b s.after
  pub told : OutcomeIs N a p s.outcome w

-- a page that has the entries es, but for the bytes of their numbers, has as many
pub items_longer : (k : ℕ) (b : List ℕ) (p : ℕ) (es : List Item) {i : ℕ} → entries_in k b p ≡ map numbered es → i < length es → i < length (items_in k b p)
items_longer k b p es e h = omega (arith, sym (length-map (items_in k b p) numbered) ∙ ap length e ∙ length-map es numbered)

-- a leaf, in the theory's words
pub among_leaf : (k : ℕ) (b : List ℕ) (e : List ℕ × ℕ) (S : Store (List ℕ)) (cap : ℕ) (name : ℕ → ℕ) (es : List (List ℕ × ℕ))
    → store_insert_among (kept_by b) (passes k b e) e zero (λ c. store_insert_under (kept_by b) (passes k b e) cap name e zero c 0 S) es 0 S
    ≡ (insert_pair (kept_by b).pair_le e es, 0, S)
among_leaf k b e S cap name [] = refl
among_leaf k b e S cap name (x ∷ xs) = ap (λ (l : List (List ℕ × ℕ)). (l, 0, S)) (insert_pair-place k b e x x xs)

-- the last key of a page that has entries
last_key_store : (k : ℕ) (key b : List ℕ) (c : ℕ) (a : List ℕ) → NonEmpty (entries_in k b c) → last_key key (items_in k b c) ≡ last_key a (entries_in k b c)
last_key_store k key b c a s = sym (last_key-numbered key (items_in k b c)) ∙ last_key_default key a (map numbered (items_in k b c)) s

module _ (k : ℕ) (two : 1 < capacity k) (N : Naming) (b : List ℕ) (given : Supplied N b) where
  -- a page that gets entries, after m new pages were taken: b is the buffer before the first of them, b' the one now
  take_in_is : (b' : List ℕ) (p : ℕ) (a : List ℕ) (es : List Item) (m : ℕ) (s : Supply) → length b' ≡ length b → is_page (length b) p ≡ true → All (Fit k) es
      → length es ≤ suc (capacity k) → s ≡ N.left m → ((j : ℕ) → p ≡ N.name j → ⊥) → Untaken N m b b'
      → ((j : ℕ) → j < (store_split_if_over (capacity k) N.name a p (map numbered es, m, entries_in k b')).1 → Usable b (N.name j))
      → StepIs k N b a p (take_in k b' p es s) (store_split_if_over (capacity k) N.name a p (map numbered es, m, entries_in k b'))
  unfolding take_in
  take_in_is b' p a es m s lb tp f few en ne un room = either (leb (length es) (capacity k))
      (λ e. let fits = leb-true (length es) (capacity k) e in rw (length-map es numbered, e) (record {
        entries = entries_with k b' p es (page-of p lb tp) f fits;
        as_long = length_with k b' p es ∙ lb;
        untaken = λ j l t.
            both-kept (un j l t) (with_other k b' p (page-of p lb tp) (N.name j) (page-of (N.name j) lb t) (λ q. ne j (sym q)) es f fits);
        told = (en, refl);
      }))
      (λ e.
      let n : ℕ = N.name m in
      let rooms : (j : ℕ) → j < suc m → Usable b (N.name j) = rw (length-map es numbered, e) at room in
      let tq : Usable b n = rooms m (omega arith) in
      let tp' : is_page (length b') p ≡ true = page-of p lb tp in
      let tq' : is_page (length b') n ≡ true = page-of n lb tq.0 in
      let h = half (length es) in
      let over : capacity k < length es = leb-false (length es) (capacity k) e in
      let lower : length (take h es) ≡ h = simp length-take (omega arith) in
      let some : NonEmpty (map numbered (take h es)) = non_empty-length (map numbered (take h es))
      (rw (length-map (take h es) numbered, lower) (omega arith)) in
      let S : Store (List ℕ) = write (entries_in k b') p (map numbered (take h es)) in
      let stays : write S n (map numbered (drop h es)) p ≡ map numbered (take h es) =
      write-other S n (map numbered (drop h es)) p (ne m) ∙ write-here (entries_in k b') p (map numbered (take h es)) in
      let other : (j : ℕ) → suc m ≤ j → N.name j ≡ n → ⊥ = λ j l q. let same : j ≡ m = given.distinct j m q in omega arith in
      rw (en, given.takes m b' lb un, length-map es numbered, e, tq', take_map numbered h es, drop_map numbered h es) (record {
        entries = entries-split k b' p es n tp' tq' f two few;
        as_long = length-split b' p es n ∙ lb;
        untaken = λ j l t. both-kept (un j (omega arith) t)
            (split-others k b' p es n tp' tq' f two few (N.name j) (page-of (N.name j) lb t) (λ q. ne j (sym q)) (other j l));
        told = (refl, rw stays, rw stays some, tq.1);
      }))

  module _ (key : List ℕ) (long : length key ≡ k) where
    -- what the theory gathers for a page with the entries es, if v replaces the child of entry i
    abbrev pub gathered : ℕ → StoreReplacement (List ℕ) → List (List ℕ × ℕ) → StoreReplacement (List ℕ)
    gathered i v es = (replace_at i v.0 es, v.1, v.2)

    -- a page above with the entries es, after the step at the child of its entry i: b is the buffer before that step, b' after it
    abbrev AfterChild : List ℕ → ℕ → List ℕ → ℕ → StoreReplacement (List ℕ) → Outcome → List (List ℕ × ℕ) → Type 0
    AfterChild b' p a i v o es =
        let x : List ℕ × ℕ = get_or es i (numbered ([], [])) in
        i < length es → OutcomeIs N (larger bytes_order x.0 key) x.1 o v
        → ((j : ℕ) → j < (store_split_if_over (capacity k) N.name a p (gathered i v es)).1 → Usable b (N.name j))
        → StepIs k N b a p (after_child k b' key p i x.1 o) (store_split_if_over (capacity k) N.name a p (gathered i v es))

    after-child-items : (b' : List ℕ) (p : ℕ) (a : List ℕ) (i : ℕ) (v : StoreReplacement (List ℕ)) (o : Outcome) → length b' ≡ length b
        → is_page (length b) p ≡ true → entries_in k b' ≡ v.2 → ((j : ℕ) → p ≡ N.name j → ⊥) → Untaken N v.1 b b'
        → AfterChild b' p a i v o (entries_in k b' p)
    after-child-items b' p a i v bad lb tp sv ne un h t room = absurd t
    after-child-items b' p a i v (kept s) lb tp sv ne un h t room =
        let is : List Item = items_in k b' p in
        let inside : i < length is = subst (λ (n : ℕ). i < n) (length-map is numbered) h in
        let es : List Item = replaced i (raise key) is in
        let same : get_or (map numbered is) i (numbered ([], [])) ≡ numbered (item_of i is) = get_or-map numbered is i ([], []) in
        let new : map numbered (raise key (item_of i is)) ≡ v.0 =
        ap (λ (x : List ℕ × ℕ). (larger bytes_order x.0 key, x.1) ∷ []) (sym same) ∙ sym t.1 in
        let ew : ◌≡◌ {A = StoreReplacement (List ℕ)} (map numbered es, v.1, entries_in k b') (gathered i v (map numbered is)) =
        λ j. ((replace_at_map numbered i (raise key (item_of i is)) is ∙ ap (λ (l : List (List ℕ × ℕ)). replace_at i l (map numbered is)) new) j, v.1, sv j) in
        let l : length (map numbered es) ≡ length is = length-map es numbered ∙ length-replaced i (raise key) 0 (λ z. refl) is inside ∙ omega arith in
        let u : leb (length (map numbered es)) (capacity k) ≡ true = le-leb (length (map numbered es)) (capacity k) (rw l (items-few k b' p)) in
        subst (λ (w : StoreReplacement (List ℕ)). StepIs k N b a p (step (raised k b' key p i) (kept s)) (store_split_if_over (capacity k) N.name a p w)) ew
        (rw u (record {
          entries = entries-raised k b' key p i (page-of p lb tp) long inside;
          as_long = length-raised k b' key p i ∙ lb;
          untaken = λ j m x.
              both-kept (un j m x) (raised-other k b' p (page-of p lb tp) (N.name j) (page-of (N.name j) lb x) (λ q. ne j (sym q)) key i long);
          told = (t.0, refl);
        }))
    after-child-items b' p a i v (split q s) lb tp sv ne un h t room =
        let is : List Item = items_in k b' p in
        let inside : i < length is = subst (λ (n : ℕ). i < n) (length-map is numbered) h in
        let x : List ℕ × ℕ = get_or (map numbered is) i (numbered ([], [])) in
        let c : ℕ = x.1 in
        let A : List ℕ = larger bytes_order x.0 key in
        let es : List Item = replaced i (two_for k b' key c q) is in
        let same : x ≡ numbered (item_of i is) = get_or-map numbered is i ([], []) in
        let svc : entries_in k b' c ≡ v.2 c = ap (λ (S : Store (List ℕ)). S c) sv in
        let low : last_key key (items_in k b' c) ≡ last_key A (v.2 c) = last_key_store k key b' c A (rw svc t.2) ∙ ap (last_key A) svc in
        let new : map numbered (two_for k b' key c q (item_of i is)) ≡ v.0 =
        rw (low, be32-to_be32 q t.3) (ap (λ (z : List ℕ × ℕ). (last_key A (v.2 c), z.1) ∷ (larger bytes_order z.0 key, q) ∷ [])
        (sym same) ∙ sym t.1) in
        let ew : ◌≡◌ {A = StoreReplacement (List ℕ)} (map numbered es, v.1, entries_in k b') (gathered i v (map numbered is)) =
        λ j. (
          (replace_at_map numbered i (two_for k b' key c q (item_of i is)) is
              ∙ ap (λ (l : List (List ℕ × ℕ)). replace_at i l (map numbered is)) new) j,
          v.1,
          sv j,
        ) in
        let few : length is ≤ capacity k = items-few k b' p in
        let le : length es ≡ 1 + length is = length-replaced i (two_for k b' key c q) 1 (λ e. refl) is inside in
        rw (lt-ltb i (length is) inside)
        (subst (λ (w : StoreReplacement (List ℕ)). StepIs k N b a p (take_in k b' p es s) (store_split_if_over (capacity k) N.name a p w)) ew
        (take_in_is b' p a es v.1 s lb tp (two-fit k b' key long i c q is inside (items_in_fit k b' p)) (omega arith) t.0 ne un
        (λ j m. room j (subst (λ (w : StoreReplacement (List ℕ)). j < (store_split_if_over (capacity k) N.name a p w).1) ew m))))

    -- the child's step leaves the page's entries with their numbers
    after-child_is : (b' : List ℕ) (p : ℕ) (a : List ℕ) (i : ℕ) (es : List (List ℕ × ℕ)) (v : StoreReplacement (List ℕ)) (o : Outcome) → length b' ≡ length b
        → is_page (length b) p ≡ true → entries_in k b' ≡ v.2 → entries_in k b' p ≡ es → ((j : ℕ) → p ≡ N.name j → ⊥) → Untaken N v.1 b b'
        → AfterChild b' p a i v o es
    after-child_is b' p a i es v o lb tp sv sp ne un = subst (AfterChild b' p a i v o) sp (after-child-items b' p a i v o lb tp sv ne un)

-- a page that is split takes one new page
split-more : (cap : ℕ) (name : ℕ → ℕ) (a : List ℕ) (p : ℕ) (w : StoreReplacement (List ℕ)) → w.1 ≤ (store_split_if_over cap name a p w).1
split-more cap name a p w = either (leb (length w.0) cap) (λ e. rw e (omega arith)) (λ e. rw e (omega arith))

-- an insertion of a key of k bytes with a record number of four, and with new pages from the supply of the index in b
pub record Offered (k : ℕ) (N : Naming) (key : List ℕ) (r : ℕ) (b : List ℕ) : Type 0 where
  pub supplied : Supplied N b
  pub two : 1 < capacity k
  pub long : length key ≡ k
  pub r32 : r < 2 ^ 32

module _ (k : ℕ) (N : Naming) (key : List ℕ) (r : ℕ) (b : List ℕ) where
  -- the theory's insertion under an entry, and its replacement for the page at p, which has h levels under it and the key a above it
  abbrev pub under : (h : ℕ) → List ℕ × ℕ → StoreReplacement (List ℕ)
  under h e = store_insert_under (kept_by b) (passes k b (key, r)) (capacity k) N.name (key, r) h e 0 (entries_in k b)

  abbrev pub replacement : (h : ℕ) → List ℕ → ℕ → StoreReplacement (List ℕ)
  replacement h a p =
      store_split_if_over (capacity k) N.name a p
      (store_insert_among (kept_by b) (passes k b (key, r)) (key, r) h (under h) (entries_in k b p) 0 (entries_in k b))

  -- insertion's step at that page, with `left` levels left, is the theory's
  abbrev pub Inserts : ℕ → ℕ → List ℕ → ℕ → Type 0
  Inserts h left a p = StepIs k N b a p (insert_under k left b (stored key r) p (supply_of b)) (replacement h a p)

  -- each page under the page at p is reached once, no new page is one of them, and the new pages that are taken are pages of the buffer
  abbrev pub Free : (h : ℕ) → List ℕ → ℕ → Type 0
  Free h a p = ((z : ℕ) → occ z (pages h (read_tree (entries_in k b) h p)) ≤ 1)
      × ((i : ℕ) → occ (N.name i) (pages h (read_tree (entries_in k b) h p)) ≡ 0)
      × ((j : ℕ) → j < (replacement h a p).1 → Usable b (N.name j))

  -- insertion's step at a page above with the entries es
  abbrev pub UpperIs : ℕ → (h : ℕ) → List ℕ → ℕ → List Item → Type 0
  UpperIs left h a p es =
      let i : ℕ = chosen_at b (stored key r) es in
      let d : Step = insert_under k left b (stored key r) (child_of i es) (supply_of b) in
      StepIs k N b a p (after_child k d.after key p i (child_of i es) d.outcome) (replacement (suc h) a p)

  -- the page at p is no new page
  pub own-page : (h : ℕ) (a : List ℕ) (p : ℕ) → Free h a p → (j : ℕ) → p ≡ N.name j → ⊥
  own-page h a p u j q = occ_not_head (N.name j) p (concat_map (pages_under h) (map (read_entry (entries_in k b) h) (entries_in k b p))) (u.1 j) (sym q)

  module _ (o : Offered k N key r b) where
    leaf_is : (p : ℕ) (a : List ℕ) → is_page (length b) p ≡ true → ((j : ℕ) → p ≡ N.name j → ⊥)
        → ((j : ℕ) → j < (replacement zero a p).1 → Usable b (N.name j))
        → StepIs k N b a p (take_in k b p (insert_pair (item_order (features b)) (stored key r) (items_in k b p)) (supply_of b)) (replacement zero a p)
    leaf_is p a tp ne room =
        let es : List Item = insert_pair (item_order (features b)) (stored key r) (items_in k b p) in
        let en : map numbered es ≡ insert_pair (kept_by b).pair_le (key, r) (entries_in k b p) =
        insert_pair-numbered (features b) (stored key r) (items_in k b p) ∙ rw (be32-to_be32 r o.r32) in
        let ew : ◌≡◌ {A = StoreReplacement (List ℕ)} (map numbered es, 0, entries_in k b)
        (store_insert_among (kept_by b) (passes k b (key, r)) (key, r) zero (under zero) (entries_in k b p) 0 (entries_in k b)) =
        ap (λ (l : List (List ℕ × ℕ)). (l, 0, entries_in k b)) en ∙ sym (among_leaf k b (key, r) (entries_in k b) (capacity k) N.name (entries_in k b p)) in
        subst (λ (w : StoreReplacement (List ℕ)). StepIs k N b a p (take_in k b p es (supply_of b)) (store_split_if_over (capacity k) N.name a p w)) ew
        (take_in_is k o.two N b o.supplied b p a es 0 (supply_of b) refl tp
        (pair_fit k b key o.long (item_order (features b)) r p)
        (omega (arith, items-few k b p, length-insert (item_order (features b)) (stored key r) (items_in k b p)))
        o.supplied.starts ne (λ j l t. unchanged b (N.name j))
        (λ j h. room j (subst (λ (w : StoreReplacement (List ℕ)). j < (store_split_if_over (capacity k) N.name a p w).1) ew h)))

    -- the entry gone through, of a page with the entries y ∷ ys, and its child
    module _ (h p : ℕ) (a : List ℕ) (y : Item) (ys : List Item) (ee : items_in k b p ≡ y ∷ ys) (u : Free (suc h) a p) (shaped : Shaped k (suc h) b p) where
      abbrev pub number : ℕ
      number = chosen_at b (stored key r) (y ∷ ys)

      abbrev pub child : Item
      child = item_of (chosen_at b (stored key r) (y ∷ ys)) (y ∷ ys)

      abbrev pub child_page : ℕ
      child_page = child_of (chosen_at b (stored key r) (y ∷ ys)) (y ∷ ys)

      es : entries_in k b p ≡ map numbered (y ∷ ys)
      es = ap (map numbered) ee

      shapes : All (λ e. Shaped k h b e.1) (map numbered (y ∷ ys))
      shapes = subst (λ (l : List Item). All (λ e. Shaped k h b e.1) (map numbered l)) ee shaped.3

      -- the entry gone through is the theory's, and its child has a shape
      pub child-numbered : choose (passes k b (key, r) (suc h)) (numbered y) (map numbered (y ∷ ys)) ≡ numbered child
      child-numbered = chosen-numbered k b key (to_be32 r) r o.long (be32-to_be32 r o.r32) h y ys shaped.4 shapes

      pub child-page-shaped : Shaped k h b child_page
      child-page-shaped = child-shaped k b key (to_be32 r) r o.long (be32-to_be32 r o.r32) h y ys shaped.4 shapes

      pub child-within : number < length (y ∷ ys)
      child-within = chosen-within k b key (to_be32 r) r o.long (be32-to_be32 r o.r32) y ys

      abbrev below : List ℕ
      below = concat_map (pages_under (suc h)) (map (read_entry (entries_in k b) (suc h)) (entries_in k b p))

      pub child_among : gathered k o.two N b o.supplied key o.long number (under (suc h) (numbered child)) (map numbered (y ∷ ys))
          ≡ store_insert_among (kept_by b) (passes k b (key, r)) (key, r) (suc h) (under (suc h)) (entries_in k b p) 0 (entries_in k b)
      child_among =
          ap (λ (i : ℕ). gathered k o.two N b o.supplied key o.long i (under (suc h) (numbered child)) (map numbered (y ∷ ys)))
          (sym (position-numbered k b key (to_be32 r) r o.long (be32-to_be32 r o.r32) h (y ∷ ys) shaped.4 shapes))
          ∙ ap (λ (e : List ℕ × ℕ). store_place (passes k b (key, r) (suc h)) (map numbered (y ∷ ys)) (under (suc h) e))
          (sym child-numbered)
          ∙ ap (λ (l : List (List ℕ × ℕ)). store_insert_among (kept_by b) (passes k b (key, r)) (key, r) (suc h) (under (suc h)) l 0 (entries_in k b)) (sym es)

      child-occ : (z : ℕ) → occ z (pages_under (suc h) (read_entry (entries_in k b) (suc h) (numbered child))) ≤ occ z below
      child-occ z =
          subst (λ (l : List (List ℕ × ℕ)). occ z (pages_under (suc h) (read_entry (entries_in k b) (suc h) (numbered child))) ≤ occ z
          (concat_map (pages_under (suc h)) (map (read_entry (entries_in k b) (suc h)) l))) (sym es)
          (subst (λ (e : List ℕ × ℕ). occ z (pages_under (suc h) (read_entry (entries_in k b) (suc h) e)) ≤ occ z
          (concat_map (pages_under (suc h)) (map (read_entry (entries_in k b) (suc h)) (numbered y ∷ map numbered ys)))) child-numbered
          (choose-occ ((kept_by b).route (key, r)) (passes k b (key, r)) (entries_in k b) (route-read bytes_order (key, r) (entries_in k b) (features b))
          (suc h) (numbered y) (map numbered ys) z))

      child-room : (j : ℕ) → j < (store_split_if_over (capacity k) N.name a p
          (gathered k o.two N b o.supplied key o.long number (under (suc h) (numbered child)) (map numbered (y ∷ ys)))).1 → Usable b (N.name j)
      child-room j l = u.2 j (subst (λ (w : StoreReplacement (List ℕ)). j < (store_split_if_over (capacity k) N.name a p w).1) child_among l)

      pub child-free : Free h (larger bytes_order child.0 key) child_page
      child-free =
          let more = split-more (capacity k) N.name a p
          (gathered k o.two N b o.supplied key o.long number (under (suc h) (numbered child)) (map numbered (y ∷ ys))) in
          ((λ z. omega (arith, u.0 z, child-occ z)), (λ i. omega (arith, u.1 i, child-occ (N.name i))), (λ j l. child-room j (omega arith)))

      -- the child's step keeps the entries of the page at p
      pub child-rest : (left : ℕ) → Inserts h left (larger bytes_order child.0 key) child_page
          → entries_in k (insert_under k left b (stored key r) child_page (supply_of b)).after p ≡ map numbered (y ∷ ys)
      child-rest left w =
          let v : StoreReplacement (List ℕ) = under (suc h) (numbered child) in
          let rest : v.2 p ≡ entries_in k b p =
          (store_insert_under_refines (kept_by b) (passes k b (key, r)) (capacity k) N.name o.supplied.distinct (key, r) (entries_in k b)
          (route-read bytes_order (key, r) (entries_in k b) (features b)) (suc h) 0 (numbered child) child-free.0 child-free.1).rest p
          (omega (arith, u.0 p, child-occ p, ap count_if (eq-eqb p p refl))) (new_pages-apart N.name (p ∷ below) u.1 p v.1 (occ-here p below)) in
          ap (λ (T : Store (List ℕ)). T p) w.entries ∙ (rest ∙ es)

      -- the page at p, given the child's step
      pub page_is : (left : ℕ) → is_page (length b) p ≡ true → Inserts h left (larger bytes_order child.0 key) child_page → UpperIs left h a p (y ∷ ys)
      page_is left tp w =
          let v : StoreReplacement (List ℕ) = under (suc h) (numbered child) in
          let d : Step = insert_under k left b (stored key r) child_page (supply_of b) in
          let same : get_or (map numbered (y ∷ ys)) number (numbered ([], [])) ≡ numbered child = get_or-map numbered (y ∷ ys) number ([], []) in
          let inside : number < length (map numbered (y ∷ ys)) = rw (length-map (y ∷ ys) numbered) child-within in
          let step_is = after-child_is k o.two N b o.supplied key o.long d.after p a number (map numbered (y ∷ ys)) v d.outcome w.as_long tp
          w.entries (child-rest left w) (own-page (suc h) a p u) w.untaken inside in
          subst (λ (t : StoreReplacement (List ℕ)). StepIs k N b a p (after_child k d.after key p number child_page d.outcome)
          (store_split_if_over (capacity k) N.name a p t)) child_among
          (subst (λ (x : List ℕ × ℕ). StepIs k N b a p (after_child k d.after key p number x.1 d.outcome)
          (store_split_if_over (capacity k) N.name a p (gathered k o.two N b o.supplied key o.long number v (map numbered (y ∷ ys))))) same
          (step_is (subst (λ (x : List ℕ × ℕ). OutcomeIs N (larger bytes_order x.0 key) x.1 d.outcome v) (sym same) w.told) child-room))

    -- Theorem: insertion's step at the page at p, with h levels under it, is the theory's
    pub inserts : (h left p : ℕ) (a : List ℕ) → h < left → Shaped k h b p → Free h a p → Inserts h left a p
    unfolding insert_under
    inserts zero zero p a l f u = absurd (omega arith)
    inserts (suc h) zero p a l f u = absurd (omega arith)
    inserts zero (suc left) p a l f u =
        rw (f.0.0, f.1) (leaf_is p a f.0.0 (own-page zero a p u) u.2)
    inserts (suc h) (suc left) p a l f u = go (λ c y g. inserts h left c y (omega arith) g) (items_in k b p) refl
      where
        go : ((c : ℕ) (y : List ℕ) → Shaped k h b c → Free h y c → Inserts h left y c) → (es : List Item) → items_in k b p ≡ es → Inserts (suc h) (suc left) a p
        go rec [] e = absurd (rw e at f.2)
        go rec (y ∷ ys) e =
            let w = rec (child_page h p a y ys e u f) (larger bytes_order (child h p a y ys e u f).0 key) (child-page-shaped h p a y ys e u f)
            (child-free h p a y ys e u f) in
            rw (f.0.0, f.1) (subst (UpperIs left h a p) (sym e) (page_is h p a y ys e u f left f.0.0 w))

-- the page that is the root after an outcome at the root p, in the buffer b, and the supply that is left
abbrev pub root_after : List ℕ → ℕ → Outcome → Taken
root_after b p (kept s) = taken p s
root_after b p (split q s) = take_page b s
root_after b p bad = taken p (supply_of b)

-- the buffer has the entries of the theory's insertion, its root and its supply
pub record RootIs (k : ℕ) (N : Naming) (b : List ℕ) (root : Taken) (g : StoreGrown (List ℕ)) : Type 0 where
  pub entries : entries_in k b ≡ g.3
  pub root_is : root.page.0 ≡ g.1
  pub left_is : root.rest ≡ N.left g.2

second_of : {x y z t : List ℕ × ℕ} → ◌≡◌ {A = List (List ℕ × ℕ)} (x ∷ y ∷ []) (z ∷ t ∷ []) → t ≡ y
second_of e = cc

-- a page for which one entry stands was not split, and one for which two stand was
module _ (cap : ℕ) (name : ℕ → ℕ) (a : List ℕ) (p : ℕ) (w : StoreReplacement (List ℕ)) where
  pub kept_case : (x : List ℕ × ℕ) → (store_split_if_over cap name a p w).0 ≡ x ∷ [] → (store_split_if_over cap name a p w).1 ≡ w.1
  kept_case x e = either (leb (length w.0) cap)
      (λ u. rw u)
      (λ u. let n : (store_split_if_over cap name a p w).1 ≡ suc w.1 = rw u in
      let m : ◌≡◌ {A = ℕ} 2 1 = ap length (rw u at e) in absurd (omega arith))

  pub split-case : (x y : List ℕ × ℕ) → (store_split_if_over cap name a p w).0 ≡ x ∷ y ∷ []
      → (cap < length w.0) × ((store_split_if_over cap name a p w).1 ≡ suc w.1) × (y.1 ≡ name w.1)
  split-case x y e = either (leb (length w.0) cap)
      (λ u. let m : ◌≡◌ {A = ℕ} 1 2 = ap length (rw u at e) in absurd (omega arith))
      (λ u. (leb-false (length w.0) cap u, rw u, ap (λ (z : List ℕ × ℕ). z.1) (second_of (rw u at e))))

module _ (k : ℕ) (N : Naming) (key : List ℕ) (r : ℕ) (b : List ℕ) (o : Offered k N key r b) where
  -- the root's own last key stands for the key above it
  abbrev pub top_key : (h p : ℕ) → List ℕ
  top_key h p = last_key key (store_insert_among (kept_by b) (passes k b (key, r)) (key, r) h (under k N key r b h) (entries_in k b p) 0 (entries_in k b)).0

  -- the upper half of a root that was split ends as the whole did
  record UpperHalf (w : StoreReplacement (List ℕ)) (p q : ℕ) : Type 0 where
    upper : (store_split_if_over (capacity k) N.name (last_key key w.0) p w).2 q ≡ drop (half (length w.0)) w.0
    some : NonEmpty (drop (half (length w.0)) w.0)
    last : last_key key (drop (half (length w.0)) w.0) ≡ last_key key w.0

  upper-half : (w : StoreReplacement (List ℕ)) (p q : ℕ) → capacity k < length w.0 → q ≡ N.name w.1 → UpperHalf w p q
  upper-half w p q l e =
      let two = o.two in
      let m = half (length w.0) in
      let s : NonEmpty (drop m w.0) = non_empty-length (drop m w.0) (simp length-drop (omega arith)) in
      record {
        upper = rw (lt-leb (length w.0) (capacity k) l, e) (write-here (write w.2 p (take m w.0)) (N.name w.1) (drop m w.0));
        some = s;
        last = last_key_default key (last_key key (take m w.0)) (drop m w.0) s ∙ sym (last_key_append key (take m w.0) (drop m w.0))
            ∙ ap (last_key key) (take-append-drop m w.0);
      }

  -- Theorem: the buffer with its root is the theory's
  pub root-inserts : (h p : ℕ) (s : Step) → Usable b p → page_size ≤ length b → StepIs k N b (top_key h p) p s (replacement k N key r b h (top_key h p) p)
      → ((j : ℕ) → j < (store_insert (kept_by b) (passes k b (key, r)) (capacity k) N.name (key, r) h p (entries_in k b)).2 → Usable b (N.name j))
      → Storable (N.left (store_insert (kept_by b) (passes k b (key, r)) (capacity k) N.name (key, r) h p (entries_in k b)).2)
      → RootIs k N (at_root k s.after key p s.outcome) (root_after s.after p s.outcome)
      (store_insert (kept_by b) (passes k b (key, r)) (capacity k) N.name (key, r) h p (entries_in k b))
  root-inserts h p s tp low w room small = go s.outcome w.told
    where
      a : List ℕ
      a = top_key h p

      W : StoreReplacement (List ℕ)
      W = replacement k N key r b h (top_key h p) p

      go : (out : Outcome) → OutcomeIs N a p out W → RootIs k N (at_root k s.after key p out) (root_after s.after p out)
          (store_insert (kept_by b) (passes k b (key, r)) (capacity k) N.name (key, r) h p (entries_in k b))
      go bad t = absurd t
      go (kept s') t = rw t.1 (record {
        entries = (supply-stored s.after s' (rw w.as_long low) (rw t.0 (rw t.1 at small))).entries k ∙ w.entries;
        root_is = refl;
        left_is = t.0;
      })
      go (split q s') t =
          let b' : List ℕ = s.after in
          let top : ℕ = N.name W.1 in
          let new : take_page b' s' ≡ next_of N W.1 = ap (take_page b') t.0 ∙ o.supplied.takes W.1 b' w.as_long w.untaken in
          let v : StoreReplacement (List ℕ) = store_insert_among (kept_by b) (passes k b (key, r)) (key, r) h (under k N key r b h) (entries_in k b p) 0
          (entries_in k b) in
          let c = split-case (capacity k) N.name a p v (last_key a (W.2 p), p) (a, q) t.1 in
          let half_is = upper-half v p q c.0 c.2 in
          let rooms : (j : ℕ) → j < suc W.1 → Usable b (N.name j) = rw t.1 at room in
          let tn : is_page (length b') top ≡ true = page-of top w.as_long (rooms W.1 (omega arith)).0 in
          let es : List Item = (last_key key (items_in k b' p), to_be32 p) ∷ (last_key key (items_in k b' q), to_be32 q) ∷ [] in
          let b1 : List ℕ = new_page b' top 1 no_page no_page es in
          let b2 : List ℕ = put b1 0 (to_le32 top) in
          let at : (z : ℕ) → entries_in k b' z ≡ W.2 z = λ z. ap (λ (T : Store (List ℕ)). T z) w.entries in
          let e1 : last_key key (items_in k b' p) ≡ last_key a (W.2 p) =
          last_key_store k key b' p a (rw (at p) t.2) ∙ ap (last_key a) (at p) in
          let eq : entries_in k b' q ≡ drop (half (length v.0)) v.0 = at q ∙ half_is.upper in
          let e2 : last_key key (items_in k b' q) ≡ a =
          last_key_store k key b' q key (rw eq half_is.some) ∙ ap (last_key key) eq ∙ half_is.last in
          let long : (z : ℕ) → length (last_key key (items_in k b' z)) ≡ k = λ z. length_last k key o.long (items_in k b' z) (items_in_fit k b' z) in
          let fit : All (Fit k) es = ((long p, length-to_be32 p), ((long q, length-to_be32 q), tt)) in
          let p32 : be32 (to_be32 p) 0 ≡ p = be32-to_be32 p tp.1 in
          let q32 : be32 (to_be32 q) 0 ≡ q = be32-to_be32 q t.3 in
          let em : map numbered es ≡ (last_key a (W.2 p), p) ∷ (a, q) ∷ [] = λ i. (e1 i, p32 i) ∷ (e2 i, q32 i) ∷ [] in
          let s1 : entries_in k b1 ≡ write (entries_in k b') top (map numbered es) = entries-new k b' top 1 no_page no_page es tn fit (omega (arith, o.two)) in
          let s2 : write (entries_in k b') top (map numbered es) ≡ write W.2 (N.name W.1) ((last_key a (W.2 p), p) ∷ (a, q) ∷ []) =
          λ i. write (w.entries i) top (em i) in
          let l2 : length b2 ≡ length b = length-put b1 0 (to_le32 top) ∙ length-new b' top 1 no_page no_page es ∙ w.as_long in
          let s3 = (supply-stored b2 (N.left (suc W.1)) (rw l2 low) (rw t.1 at small)).entries k
          ∙ entries-header k b1 0 (to_le32 top) (omega (arith, length-to_le32 top)) in
          rw (t.1, new, tn) (record { entries = s3 ∙ s1 ∙ s2; root_is = refl; left_is = refl })
