-- Laws: a removal that is accepted keeps an index sound, and its leaf pairs are the old ones without the key. Cited by the claim about lists of calls.
-- Assumes nothing.
use Rattle.std.specs.Prelude.{◌≡◌, refl, Bool, true, List, [], ◌∷◌, map, ℕ, suc, ◌+◌, ◌^◌, ◌≤◌, ◌<◌, min, eqb, ltb, length, get_or}
use Rattle.std.proofs.Common.{sym, ap, ap₂, ◌∙◌, subst, add-zero, arith, lit≤, ltb-true, ltb-false, eqb-true, eq-eqb}
use Rattle.basis.specs.Lists.{All}
use Rattle.basis.specs.Tests.{either, contra}
use Rattle.octets.specs.Bytes.{to_le32}
use Rattle.octets.specs.Store.{window}
use Rattle.octets.specs.StoreLaws.{get_d_window}
use Rattle.octets.specs.NumberLaws.{be32-to_be32, le16-same, le32-same}
use Rattle.tree.specs.Clauses.{AllLinked}
use Rattle.tree.proofs.FreeChainLaws.{chained-head}
use Rattle.tree.specs.FreeList.{join_free}
use Rattle.tree.proofs.FreeListLaws.{join_free-pages}
use Rattle.tree.specs.Index.{Index, held, Setting, striking_route, removed}
use Rattle.tree.proofs.IndexLaws.{removed-sound, removed-pairs}
use Rattle.tree.proofs.IndexPages.{no_page-unused}
use Rattle.tree.proofs.Insertion.Levels.{level_under-pages}
use Rattle.tree.specs.Keeping.{Route}
use Rattle.tree.specs.Lists.{NonEmpty, count_if, occ}
use Rattle.tree.proofs.ListLaws.{occ-all}
use Rattle.tree.specs.Pairs.{has, remove_pair}
use Rattle.tree.specs.Removal.{Shrunk, shrunk_pages, settle, remove_entries, remove, emptied}
use Rattle.tree.proofs.Removal.Pages.{remove-pages}
use Rattle.tree.proofs.Removal.Sized.{remove-low}
use Rattle.tree.proofs.SoundIndex.{SoundIndex, LinkedIndex}
use Rattle.tree.specs.Store.{Store, read_entry, read_tree}
use Rattle.tree.specs.Store.Removal.{store_remove}
use Rattle.tree.proofs.Store.RemovalLaws.{emptied-read}
use Rattle.tree.specs.Tree.{Entry, Tree, pages, pairs, level}
use Rattle.idx_page.specs.Header.{max_bytes, page_size, no_page, is_page, root_offset, free_pointer, file_size, key_length, features, free_good, header_good}
use Rattle.idx_page.specs.HeaderLaws.{GoodHeader, is-page, good-header, good-header-from}
use Rattle.idx_page.specs.Page.{attribute_at, count_at, right_at, root_bit, leaf_bit, capacity}
use Rattle.idx_page.specs.Reading.{entries_at}
use Rattle.idx_page.proofs.ReadingLaws.{window-window, window_in_page, attribute-same, right-same}
use Rattle.idx_leaf.specs.Leaf.{stored}
use Rattle.idx_layout.specs.WriteLaws.{capacity-least}
use Rattle.idx_sound.specs.Sound.{index_tree, index_pages, kept_by, links_of, zeros, FreePage, FreeList, CountGood, Sound}
use Rattle.idx_sound.proofs.IndexLaws.{index_of, setting_of, sound-index, sound-linked, all-occ, once-page, index-sound}
use Rattle.idx_remove_page.specs.Removal.{removed_buffer}
use Rattle.idx_layout_laws.specs.EntryLaws.{entries_in, page-of}
use Rattle.idx_layout_laws.specs.FreeLaws.{SameButFree, free_page}
use Rattle.idx_layout_laws.specs.HeadLaws.{Head}
use Rattle.idx_insert_laws.specs.InsertionHeads.{Plain}
use Rattle.idx_insert_laws.specs.FreePages.{none-good, page-good}
use Rattle.idx_insert_laws.specs.SoundReading.{page_longer, read_shorter, sound-tree}
use Rattle.idx_remove_laws.specs.EntryLists.{route_of}
use Rattle.tree.proofs.Removal.OnLevel.{level-kept}
use Rattle.idx_remove_laws.specs.RemovalEntries.{emptied_from, store_after}
use Rattle.idx_remove_laws.specs.RemovalBuffer.{Ready, Outside, tree-after, entries-after, length-after, header-after, heads-after, root-after}
use Rattle.idx_remove_laws.specs.RemovalBuffer.{lone-tree, stays, links-after, outside-after, forms-after, chain-after}
use Rattle.idx_remove_laws.specs.SoundRemoval.{head-all, sound-plain, sound-ready}

-- the bytes of a free page at their places
free-front : (next : ℕ) → window (free_page next) 0 8 ≡ zeros 8
unfolding window
free-front next = refl

free_back : (next : ℕ) → window (free_page next) 12 500 ≡ zeros 500
unfolding window to_le32
free_back next = refl

-- a page with the bytes of a free page, and a page with the bytes of one that was free
free-form : (b : List ℕ) (z next : ℕ) → window b z page_size ≡ free_page next → FreePage b z
free-form b z next e = (
  rw add-zero at (sym (window-window b z page_size 0 8 (lit≤ tt))) ∙ ap (λ (w : List ℕ). window w 0 8) e ∙ free-front next,
  sym (window-window b z page_size 12 500 (lit≤ tt)) ∙ ap (λ (w : List ℕ). window w 12 500) e ∙ free_back next,
)

free-same : (b b' : List ℕ) (z : ℕ) → window b' z page_size ≡ window b z page_size → FreePage b z → FreePage b' z
free-same b b' z e f =
    (rw add-zero at (window_in_page b' b z e 0 8 (lit≤ tt)) ∙ f.0, window_in_page b' b z e 12 500 (lit≤ tt) ∙ f.1)

-- lists that have members, and lists that have none
by_members : {A X : Type 0} (xs : List A) → (NonEmpty xs → X) → (xs ≡ [] → X) → X
by_members [] some none = none refl
by_members (x ∷ xs) some none = some tt

map_some : {A B : Type 0} (f : A → B) (xs : List A) → NonEmpty xs → NonEmpty (map f xs)
map_some f [] s = s
map_some f (x ∷ xs) s = tt

settled-some : {K : Type 0} (h p : ℕ) (xs : List (Entry K h)) → NonEmpty (settle h p xs).1.1 → NonEmpty xs
settled-some h p [] s = s
settled-some h p (x ∷ xs) s = tt

some-has : (le : List ℕ × ℕ → List ℕ × ℕ → Bool) (e : List ℕ × ℕ) (xs : List (List ℕ × ℕ)) → has le e xs ≡ true → NonEmpty xs
some-has le e [] t = contra t refl
some-has le e (x ∷ xs) t = tt

-- a removal that is accepted, from a buffer that holds a sound index
pub record Strikes (b key : List ℕ) (number : ℕ) : Type 0 where
  pub sound : Sound b
  pub plain : Plain b
  pub long : length key ≡ key_length b
  pub r32 : number < 2 ^ 32
  pub there : has (kept_by b).pair_le (key, number) (pairs sound.height (index_tree b sound.height)) ≡ true

module _ (b key : List ℕ) (number : ℕ) (strikes : Strikes b key number) where
  abbrev k : ℕ
  k = key_length b

  abbrev s : Sound b
  s = strikes.sound

  abbrev h : ℕ
  h = strikes.sound.height

  abbrev b' : List ℕ
  b' = removed_buffer (key_length b) b key number

  -- the index read up to the buffer's length, before the removal
  abbrev t : Tree (List ℕ) strikes.sound.height
  t = read_tree (entries_in (key_length b) b) strikes.sound.height (root_offset b)

  abbrev before : Index (List ℕ)
  before = record {
    height = strikes.sound.height;
    tree = read_tree (entries_in (key_length b) b) strikes.sound.height (root_offset b);
    free = strikes.sound.free;
    size = file_size b;
  }

  abbrev kept_setting : Setting (List ℕ)
  kept_setting = setting_of (features b) (key_length b) (min (length b) max_bytes)

  -- and after it, by the route that the rule takes
  abbrev route : Route (List ℕ)
  route = route_of b (stored key number)

  abbrev x : Shrunk (List ℕ)
  x = remove (route_of b (stored key number)) strikes.sound.height t

  abbrev gone : List ℕ
  gone = emptied_from b (stored key number) (entries_in (key_length b) b) strikes.sound.height (root_offset b)

  abbrev left_by : Route (List ℕ) → List ℕ → Index (List ℕ)
  left_by r out = record { height = (remove r h t).0; tree = (remove r h t).1; free = join_free out strikes.sound.free; size = file_size b }

  abbrev after : Index (List ℕ)
  after = left_by (route_of b (stored key number)) gone

  good : GoodHeader b
  good = good-header b s.header

  ready : Ready k b h
  ready = sound-ready b s (some-has (kept_by b).pair_le (key, number) (pairs h (index_tree b h)) strikes.there)

  before_is : before ≡ index_of b h s.free
  before_is = λ i. record { height = h; tree = sound-tree b s i; free = s.free; size = file_size b }

  route-same : route ≡ striking_route kept_setting (key, number)
  route-same = ap (λ (n : ℕ). (kept_by b).route (key, n)) (be32-to_be32 number strikes.r32)

  -- it is the theory's removal
  after_is : after ≡ removed kept_setting (key, number) before
  after_is = ap (left_by route) (emptied-read route h (root_offset b) (entries_in k b) ready.once)
      ∙ ap (λ (r : Route (List ℕ)). left_by r (emptied r h t)) route-same

  sound-before : SoundIndex kept_setting before
  sound-before = subst (SoundIndex kept_setting) (sym before_is) (sound-index b s (min (length b) max_bytes) (omega (arith, good.within, good.most)))

  two : 1 < capacity k
  two = omega (arith, capacity-least k good.key-high)

  sound-after : SoundIndex kept_setting after
  sound-after = subst (SoundIndex kept_setting) (sym after_is) (removed-sound kept_setting two before (key, number) sound-before)

  -- the tree's pages are linked, and none has the number that names none
  proper : occ no_page (pages h t) ≡ 0
  proper = omega (arith, no_page-unused before sound-before.pages_once)

  linked : AllLinked no_page (links_of b) h t
  linked = subst (LinkedIndex (links_of b)) (sym before_is) (sound-linked b s)

  -- a page of the buffer that is not in the tree
  not_inside : (z : ℕ) → is_page (length b) z ≡ true → occ z (pages h t) ≡ 0 → Outside k key number b h ready strikes.long z
  not_inside z p o = (p, o, λ e. omega (arith, (is-page (length b) z p).whole))

  free-outside : (z : ℕ) → 0 < occ z s.free → Outside k key number b h ready strikes.long z
  free-outside z o =
      let p = once-page before sound-before.pages_once z (omega arith) in
      let g = is-page (file_size b) z p in
      not_inside z (page_longer z good.within p) (omega (arith, sound-before.pages_once.once z (omega (arith, g.low)) (omega (arith, g.high)) g.whole))

  -- the header is as it was, but for the free pointer
  rest : SameButFree b b'
  rest = header-after k key number b h ready strikes.long

  rest-window : (i n : ℕ) → i + n ≤ 504 → window b' (8 + i) n ≡ window b (8 + i) n
  rest-window i n l = sym (window-window b' 8 504 i n l) ∙ ap (λ (w : List ℕ). window w i n) rest.after ∙ window-window b 8 504 i n l

  root-same : root_offset b' ≡ root_offset b
  root-same = le32-same b' b 0 rest.before

  size_same : file_size b' ≡ file_size b
  size_same = le32-same b' b 8 (rest-window 0 4 (lit≤ tt))

  key-same : key_length b' ≡ k
  key-same = le16-same b' b 12 (rest-window 4 2 (lit≤ tt))

  features-same : features b' ≡ features b
  features-same = sym (get_d_window b' 8 504 6 0 (lit≤ tt)) ∙ ap (λ (w : List ℕ). get_or w 6 0) rest.after ∙ get_d_window b 8 504 6 0 (lit≤ tt)

  long : length b' ≡ length b
  long = length-after k key number b h ready strikes.long

  -- the free list: the emptied pages, before the old one
  free-list : FreeList b' after.free
  free-list = chain-after k key number b h ready strikes.long proper linked s.free free-outside s.free_list

  free-page : (z : ℕ) → 0 < occ z after.free → FreePage b' z
  free-page z o = either (ltb 0 (occ z gone))
      (λ e. free-form b' z (right_at b' z) (forms-after k key number b h ready strikes.long proper linked z (ltb-true 0 (occ z gone) e)))
      (λ e. let f : 0 < occ z s.free = omega (arith, join_free-pages z gone s.free, ltb-false 0 (occ z gone) e) in
      free-same b b' z (outside-after k key number b h ready strikes.long proper linked z (free-outside z f))
      (occ-all (FreePage b) z s.free s.free_pages f))

  header-good : header_good b' ≡ true
  header-good =
      good-header-from b' (record {
        long = rw long good.long;
        whole = rw size_same good.whole;
        least = rw size_same good.least;
        most = rw size_same good.most;
        within = rw (size_same, long) good.within;
        root = rw (size_same, root-same) good.root;
        key-low = rw key-same good.key-low;
        key-high = rw key-same good.key-high;
        free = rw (size_same, chained-head no_page (right_at b') (free_pointer b') after.free free-list)
            (head-all (λ p. free_good (file_size b) p ≡ true) no_page after.free (none-good (file_size b))
            (λ z o. page-good (file_size b) z (once-page after sound-after.pages_once z (omega arith))));
        plain = rw features-same good.plain;
      })

  -- the tree that is left, read up to the buffer's length and up to the file's size
  read : read_tree (entries_in k b') x.0 (root_offset b') ≡ x.1
  read =
      ap (λ (p : ℕ). read_tree (entries_in k b') x.0 p) root-same
      ∙ subst (λ (y : Shrunk (List ℕ)). read_tree (entries_in k b') y.0 (root_offset b) ≡ y.1) (tree-after k key number b h ready strikes.long) refl

  tree_is : index_tree b' x.0 ≡ x.1
  tree_is =
      ap (λ (n : ℕ). read_tree (entries_at n (file_size b') b') x.0 (root_offset b')) key-same
      ∙ read_shorter k (file_size b') b' x.0 (root_offset b') (good-header b' header-good).within
      (λ z o. rw size_same (once-page after sound-after.pages_once z
      (omega (arith, subst (λ (T : Tree (List ℕ) x.0). 0 < occ z (pages x.0 T)) read o))))
      ∙ read

  index_is : index_of b' x.0 after.free ≡ after
  index_is = λ i. record { height = x.0; tree = tree_is i; free = after.free; size = size_same i }

  -- attributes and counts of the pages of a tree after the removal
  record Bits (y : Shrunk (List ℕ)) : Type 0 where
    leaf : (j z : ℕ) → j ≤ y.0 → 0 < occ z (level j y.0 y.1) → leaf_bit (attribute_at b' z) ≡ eqb j 0
    root : (z : ℕ) → 0 < occ z (shrunk_pages y) → root_bit (attribute_at b' z) ≡ eqb z (root_offset b)
    small : (z : ℕ) → 0 < occ z (shrunk_pages y) → attribute_at b' z ≤ 3
    count : (z : ℕ) → 0 < occ z (shrunk_pages y) → count_at b' z ≤ capacity k

  -- what all pages of the old tree have, each of them has
  old : (P : ℕ → Type 0) → All P (index_pages b h) → (z : ℕ) → 0 < occ z (pages h t) → P z
  old P a z o = occ-all P z (index_pages b h) a (subst (λ (T : Tree (List ℕ) h). 0 < occ z (pages h T)) (sound-tree b s) o)

  was : (z : ℕ) → 0 < occ z (shrunk_pages x) → 0 < occ z (pages h t)
  was z o = omega (arith, remove-pages route z h t)

  -- the entries that the root is left with
  abbrev root_left : List (List ℕ × ℕ)
  root_left = store_after b (stored key number) (entries_in (key_length b) b) strikes.sound.height (root_offset b) (root_offset b)

  root-some : NonEmpty root_left → NonEmpty (remove_entries route h t.1)
  root-some some =
      let root-entries : NonEmpty (entries_in k b' (root_offset b)) =
      subst (λ (S : Store (List ℕ)). NonEmpty (S (root_offset b))) (sym (entries-after k key number b h ready strikes.long)) some in
      settled-some h (root_offset b) (remove_entries route h t.1)
      (subst (λ (y : Shrunk (List ℕ)). NonEmpty y.1.1) (tree-after k key number b h ready strikes.long)
      (map_some (read_entry (entries_in k b') (store_remove route h (root_offset b) (entries_in k b)).0) (entries_in k b' (root_offset b)) root-entries))

  bits-kept : NonEmpty root_left → Bits x
  bits-kept some =
      let v = heads-after k key number b h ready strikes.long some in
      let same : (z : ℕ) → 0 < occ z (shrunk_pages x) → attribute_at b' z ≡ attribute_at b z =
      λ z o. let w = stays k key number b h ready strikes.long z o in v.attributes z w.0 w.1 in
      record {
        leaf = λ j z l o.
            ap leaf_bit (same z (omega (arith, level_under-pages z j (suc x.0) (key, x.1))))
            ∙ occ-all (λ p. leaf_bit (attribute_at b p) ≡ eqb j 0) z (level j h (index_tree b h)) (s.leaf_bits j (omega (arith, remove-low route h t)))
            (subst (λ (T : Tree (List ℕ) h). 0 < occ z (level j h T)) (sound-tree b s) (omega (arith, level-kept route j z h t (root-some some))));
        root = λ z o. ap root_bit (same z o) ∙ old (λ p. root_bit (attribute_at b p) ≡ eqb p (root_offset b)) s.root_bits z (was z o);
        small = λ z o. rw (same z o) (old (λ p. attribute_at b p ≤ 3) s.attributes z (was z o));
        count = λ z o. v.counts z (stays k key number b h ready strikes.long z o).0 (old (CountGood b k h) s.counts z (was z o)).1;
      }

  bits-lone : root_left ≡ [] → Bits x
  bits-lone none = subst Bits (lone-tree k key number b h ready strikes.long none) (lone (root-after k key number b h ready strikes.long none))
    where
      is_root : (z : ℕ) → 0 < occ z (root_offset b ∷ []) → z ≡ root_offset b
      is_root z o = either (eqb z (root_offset b)) (λ e. eqb-true z (root_offset b) e) (λ e. absurd (omega (arith, ap count_if e)))

      lone : Head b' (root_offset b) 3 0 no_page no_page → Bits (0, (root_offset b, []))
      lone v = record {
        leaf = λ j z l o.
            let bottom : j ≡ 0 = omega arith in
            let here : z ≡ root_offset b = is_root z (rw bottom at o) in
            rw (here, bottom, v.attribute_is);
        root = λ z o. rw (is_root z o, v.attribute_is, eq-eqb (root_offset b) (root_offset b) refl);
        small = λ z o. rw (is_root z o, v.attribute_is) (omega arith);
        count = λ z o. rw (is_root z o, v.count_is) (omega arith);
      }

  bits : Bits x
  bits = by_members root_left bits-kept bits-lone

  there_in : (z : ℕ) → 0 < occ z (pages x.0 (index_tree b' x.0)) → 0 < occ z (shrunk_pages x)
  there_in z o = subst (λ (T : Tree (List ℕ) x.0). 0 < occ z (pages x.0 T)) tree_is o

  sound-now : (n : Sound b') × (n.height ≡ x.0) × (n.free ≡ after.free)
  sound-now =
      let ps : List ℕ = pages x.0 (index_tree b' x.0) in
      index-sound b' x.0 after.free (min (length b) max_bytes) header-good
      (subst (λ (n : ℕ). SoundIndex (setting_of n (key_length b') (min (length b) max_bytes)) (index_of b' x.0 after.free)) (sym features-same)
      (subst (λ (n : ℕ). SoundIndex (setting_of (features b) n (min (length b) max_bytes)) (index_of b' x.0 after.free)) (sym key-same)
      (subst (SoundIndex kept_setting) (sym index_is) sound-after)))
      (subst (λ (T : Tree (List ℕ) x.0). AllLinked no_page (links_of b') x.0 T) (sym tree_is)
      (links-after k key number b h ready strikes.long proper linked))
      (all-occ (λ p. attribute_at b' p ≤ 3) ps (λ z o. bits.small z (there_in z o)))
      (all-occ (λ p. root_bit (attribute_at b' p) ≡ eqb p (root_offset b')) ps (λ z o. bits.root z (there_in z o) ∙ ap (eqb z) (sym root-same)))
      (λ j l. all-occ (λ p. leaf_bit (attribute_at b' p) ≡ eqb j 0) (level j x.0 (index_tree b' x.0))
      (λ z o. bits.leaf j z l (subst (λ (T : Tree (List ℕ) x.0). 0 < occ z (level j x.0 T)) tree_is o)))
      (all-occ (λ p. count_at b' p ≤ capacity (key_length b')) ps (λ z o. rw key-same (bits.count z (there_in z o))))
      free-list (all-occ (FreePage b') after.free free-page)

  -- attributes and right links stay numbers of two and of four bytes: those of the file's pages because the index is sound, those of other pages because they
  -- keep their bytes
  plain-after : Plain b'
  plain-after z p = either (is_page (file_size b) z)
      (λ e. sound-plain b' sound-now.0 z (rw size_same e))
      (λ e.
      let page : is_page (length b) z ≡ true = page-of z (sym long) p in
      let unused : occ z (pages h t) ≡ 0 =
      either (ltb 0 (occ z (pages h t)))
      (λ u. contra (once-page before sound-before.pages_once z (omega (arith, ltb-true 0 (occ z (pages h t)) u))) e)
      (λ u. omega (arith, ltb-false 0 (occ z (pages h t)) u)) in
      let same = outside-after k key number b h ready strikes.long proper linked z (not_inside z page unused) in
      rw (attribute-same b' b z same, right-same b' b z same) (strikes.plain z page))

-- what a removal that is accepted leaves: a sound index, the theory's removal from the old one; the old pairs without that one, for features 1 without the key;
-- and a header that differs in its free pointer alone. The removal is one for whatever size the index may grow to
pub record Removes (b key : List ℕ) (number : ℕ) (s : Sound b) : Type 0 where
  pub sound : Sound (removed_buffer (key_length b) b key number)
  pub index : (most : ℕ) → index_of (removed_buffer (key_length b) b key number) sound.height sound.free
      ≡ removed (setting_of (features b) (key_length b) most) (key, number) (index_of b s.height s.free)
  pub leaves : pairs sound.height (index_tree (removed_buffer (key_length b) b key number) sound.height)
      ≡ remove_pair (kept_by b).pair_le (key, number) (pairs s.height (index_tree b s.height))
  pub size : file_size (removed_buffer (key_length b) b key number) ≡ file_size b
  pub header : SameButFree b (removed_buffer (key_length b) b key number)
  pub key_is : key_length (removed_buffer (key_length b) b key number) ≡ key_length b
  pub features_are : features (removed_buffer (key_length b) b key number) ≡ features b
  pub as_long : length (removed_buffer (key_length b) b key number) ≡ length b
  pub plain : Plain (removed_buffer (key_length b) b key number)

-- Theorem: a removal that is accepted keeps the index sound
pub remove-keeps-sound : (b key : List ℕ) (number : ℕ) (strikes : Strikes b key number) → Removes b key number strikes.sound
remove-keeps-sound b key number strikes =
    let s = strikes.sound in
    let set = kept_setting b key number strikes in
    let now = sound-now b key number strikes in
    let old-index = subst (SoundIndex set) (before_is b key number strikes) (sound-before b key number strikes) in
    let same : index_of (b' b key number strikes) now.0.height now.0.free ≡ removed set (key, number) (index_of b s.height s.free) =
    ap₂ (index_of (b' b key number strikes)) now.1 now.2 ∙ index_is b key number strikes ∙ after_is b key number strikes
    ∙ ap (removed set (key, number)) (before_is b key number strikes) in
    record {
      sound = now.0;
      index = λ most. same;
      leaves = ap held same ∙ removed-pairs set (two b key number strikes) (index_of b s.height s.free) (key, number) old-index strikes.there;
      size = size_same b key number strikes;
      header = rest b key number strikes;
      key_is = key-same b key number strikes;
      features_are = features-same b key number strikes;
      as_long = long b key number strikes;
      plain = plain-after b key number strikes;
    }
