-- Laws: an insertion that is accepted keeps an index sound, and its leaf pairs are the old ones with the new pair. Cited by the claim about lists of calls.
-- Assumes nothing.
use Rattle.std.specs.Prelude.{◌≡◌, refl, true, false, cond, List, [], ◌∷◌, ℕ, zero, suc, ◌+◌, ◌^◌, ◌≤◌, ◌<◌, min, eqb, ltb, length, get_or}
use Rattle.std.proofs.Common.{sym, ap₂, ◌∙◌, subst, arith, ltb-true, ltb-false, eqb-true, eq-eqb, ne_eqb}
use Rattle.std.proofs.Math.Path.{ap}
use Rattle.std.proofs.lemmas.Bool.{eqb-false}
use Rattle.basis.specs.Lists.{All, all_map}
use Rattle.basis.specs.Tests.{either}
use Rattle.octets.specs.Store.{window}
use Rattle.octets.specs.StoreLaws.{get_d_window}
use Rattle.octets.specs.NumberLaws.{le16-same}
use Rattle.tree.specs.Clauses.{least, head_or, Linked, AllLinked}
use Rattle.tree.specs.Index.{Index, held, Setting, out_of_room, inserted}
use Rattle.tree.proofs.IndexLaws.{inserted-sound, inserted-linked}
use Rattle.tree.proofs.IndexPages.{pages-distinct, taken-unused}
use Rattle.tree.proofs.Insertion.Levels.{InsertedAfter, insert-level, level_under-pages, level_under-disjoint}
use Rattle.tree.proofs.Insertion.Needs.{insert-needs, root-splits}
use Rattle.tree.proofs.Insertion.Pairs.{insert-pairs}
use Rattle.tree.proofs.ClauseLaws.{sized-rooted}
use Rattle.tree.proofs.Insertion.Pages.{Injective, new_pages, insert-pages}
use Rattle.tree.specs.Insertion.{Grown}
use Rattle.tree.proofs.LinkLaws.{linked-same, head_or_differ, linked-right}
use Rattle.tree.proofs.ListLaws.{occ_append, occ-here, occ-all}
use Rattle.tree.specs.Lists.{concat_map, occ, count_if}
use Rattle.tree.specs.Pairs.{has, insert_pair}
use Rattle.tree.specs.Relinking.{path_page}
use Rattle.tree.specs.Room.{run, needs}
use Rattle.tree.specs.Store.{read_tree}
use Rattle.tree.specs.Supply.{taken_page}
use Rattle.tree.proofs.SoundIndex.{SoundIndex, LinkedIndex}
use Rattle.tree.specs.Tree.{Tree, pages_under, pages, pairs, level_under, level}
use Rattle.idx_page.specs.Header.{max_bytes, no_page, is_page, root_offset, free_pointer, file_size, key_length, features, free_good, header_good}
use Rattle.idx_page.specs.HeaderLaws.{GoodHeader, is-page, good-header, good-header-from}
use Rattle.idx_page.specs.KeyOrder.{bytes_order}
use Rattle.idx_page.specs.Page.{attribute_at, count_at, left_at, right_at, root_bit, leaf_bit, capacity}
use Rattle.idx_page.specs.Reading.{entries_at}
use Rattle.idx_page.proofs.ReadingLaws.{window-window}
use Rattle.idx_layout.specs.WriteLaws.{capacity-least}
use Rattle.idx_sound.specs.Sound.{index_tree, kept_by, links_of, FreePage, FreeList, Sound}
use Rattle.idx_sound.proofs.IndexLaws.{index_of, setting_of, sound-index, sound-linked, all-occ, once-page, index-sound}
use Rattle.idx_insert_page.specs.Insertion.{inserted_buffer}
use Rattle.idx_path.specs.Room.{path_to, no_room}
use Rattle.idx_supply.specs.declared.Supply.{Supply}
use Rattle.idx_supply.specs.Supply.{supply_of}
use Rattle.idx_layout_laws.specs.OtherPages.{SameButLeft, right_kept}
use Rattle.idx_layout_laws.specs.SupplyLaws.{SameRest}
use Rattle.idx_insert_laws.specs.TakenPages.{taken-all, left-all, left-head, left-chained}
use Rattle.idx_insert_laws.specs.Naming.{Naming, naming_of, FreeGiven, supplied, usable}
use Rattle.idx_insert_laws.specs.InsertionHeads.{Plain, unrooted}
use Rattle.idx_insert_laws.specs.InsertionBuffer.{tree_in, grown_by, Ready, tree-after, root-after, supply-after, length-after, header-after, untaken-after}
use Rattle.idx_insert_laws.specs.InsertionBuffer.{HeadsIn, Rising, stays, rises, heads_in, links_after}
use Rattle.idx_insert_laws.specs.AttributeLaws.{leaf-old, leaf-new, root_none, root-new, root-split, unrooted-same, small-old, small-new}
use Rattle.idx_insert_laws.specs.SoundReading.{page_longer, read_shorter, sound-free, sound-tree, sound-shaped}
use Rattle.idx_insert_laws.specs.FreePages.{relinked-left, free-kept, none-good, page-good}
use Rattle.idx_insert_laws.specs.RoomLaws.{room_is}

-- an insertion that is accepted, into a buffer that holds a sound index
pub record Accepts (b key : List ℕ) (r : ℕ) : Type 0 where
  pub sound : Sound b
  pub plain : Plain b
  pub long : length key ≡ key_length b
  pub positive : 0 < r
  pub r32 : r < 2 ^ 32
  pub absent : has (kept_by b).pair_le (key, r) (pairs sound.height (index_tree b sound.height)) ≡ false
  pub room : no_room b (path_to (key_length b) b key r) ≡ false

module _ (b key : List ℕ) (r : ℕ) (accepts : Accepts b key r) where
  abbrev k : ℕ
  k = key_length b

  abbrev h : ℕ
  h = accepts.sound.height

  -- the names of new pages
  abbrev N : Naming
  N = naming_of accepts.sound.free (file_size b)

  abbrev name : ℕ → ℕ
  name = taken_page accepts.sound.free (file_size b)

  abbrev t : Tree (List ℕ) accepts.sound.height
  t = tree_in (key_length b) b accepts.sound.height

  -- the index read up to the buffer's length, before the insertion and after it
  abbrev before : Index (List ℕ)
  before = record {
    height = accepts.sound.height;
    tree = tree_in (key_length b) b accepts.sound.height;
    free = accepts.sound.free;
    size = file_size b;
  }

  abbrev kept_setting : Setting (List ℕ)
  kept_setting = setting_of (features b) (key_length b) (min (length b) max_bytes)

  abbrev after : Index (List ℕ)
  after = inserted kept_setting (key, r) before

  abbrev x : Grown (List ℕ)
  x = grown_by (key_length b) (naming_of accepts.sound.free (file_size b)) accepts.sound.height b key r

  abbrev b'' : List ℕ
  b'' = inserted_buffer (key_length b) b key r

  good : GoodHeader b
  good = good-header b accepts.sound.header

  before_is : before ≡ index_of b h accepts.sound.free
  before_is = λ i. record { height = h; tree = sound-tree b accepts.sound i; free = accepts.sound.free; size = file_size b }

  two : 1 < capacity k
  two = omega (arith, capacity-least k good.key-high)

  sound-before : SoundIndex kept_setting before
  sound-before =
      subst (SoundIndex kept_setting) (sym before_is) (sound-index b accepts.sound (min (length b) max_bytes) (omega (arith, good.within, good.most)))

  sound-after : SoundIndex kept_setting after
  sound-after =
      inserted-sound kept_setting two before (key, r) accepts.positive
      (ap (λ (i : Index (List ℕ)). has (kept_by b).pair_le (key, r) (held i)) before_is ∙ accepts.absent)
      (ap (out_of_room kept_setting (key, r)) before_is ∙ sym (room_is b key r accepts.sound accepts.long accepts.r32) ∙ accepts.room) sound-before

  -- the pages before the insertion and after it are pages of the buffer
  old-page : (z : ℕ) → 0 < occ z (pages h t) → is_page (length b) z ≡ true
  old-page z o = page_longer z good.within (once-page before sound-before.pages_once z (omega arith))

  new-page : (z : ℕ) → 0 < occ z (pages x.0 x.1) → is_page (length b) z ≡ true
  new-page z o = page_longer z (omega (arith, sound-after.within_size)) (once-page after sound-after.pages_once z (omega arith))

  given : FreeGiven b accepts.sound.free
  given = sound-free b accepts.sound

  injective : Injective name
  injective = (supplied b accepts.sound.free given).distinct

  ready : Ready k N h b key r
  ready =
      let once = sound-before.pages_once in
      let new = usable b accepts.sound.free given x.2 sound-after.within_size in
      record {
        offered = record { supplied = supplied b accepts.sound.free given; two = two; long = accepts.long; r32 = accepts.r32 };
        levels = sound-before.within_levels;
        plain = accepts.plain;
        shaped = sound-shaped b accepts.sound;
        sized = sound-before.sized;
        once = pages-distinct before once;
        unused = taken-unused before once;
        room = new.0;
        storable = new.1;
      }

  -- the pages on the path, and how many of them are split
  abbrev path : ℕ → ℕ
  path j = path_page ((kept_by b).route (key, r)) j h t

  abbrev splits : ℕ
  splits = run ((kept_by b).route (key, r)) (capacity k) h t

  most : splits ≤ suc h
  most = (root-splits (kept_by b) (capacity k) name (key, r) h key t (omega (arith, two)) sound-before.sized).most

  need : x.2 ≡ needs ((kept_by b).route (key, r)) (capacity k) h t
  need = (insert-needs (kept_by b) (capacity k) name (key, r) h t (omega (arith, two)) sound-before.sized).0

  in_tree : (H j z : ℕ) (T : Tree (List ℕ) H) → 0 < occ z (level j H T) → 0 < occ z (pages H T)
  in_tree H j z T o = omega (arith, level_under-pages z j (suc H) (key, T))

  -- an old page is no new one
  old-new : (z : ℕ) → 0 < occ z (pages h t) → (j : ℕ) → z ≡ name j → ⊥
  old-new z o j e =
      let n : occ (name j) (pages h t) ≡ 0 = taken-unused before sound-before.pages_once j in
      let f : occ z (pages h t) ≡ 0 = ap (λ (y : ℕ). occ y (pages h t)) e ∙ n in
      omega arith

  abbrev Level : ℕ → Type 0
  Level j = InsertedAfter (path j) (name (0 + j)) (level j h t) (level j x.0 x.1)

  -- a page of a level after the insertion is an old page of that level, or the new one after the page on the path
  in_level : {X : Type 0} (j z : ℕ) → j ≤ h → 0 < occ z (level j x.0 x.1) → (0 < occ z (level j h t) → X) → (j < splits → z ≡ name j → X) → X
  in_level j z l o old new =
      let q = insert-level (kept_by b) (capacity k) name (key, r) h t j (omega (arith, two)) sound-before.sized l in
      either (ltb j splits)
      (λ e. let v : Level j = q.0 (ltb-true j splits e) in
      either (eqb z (name (0 + j)))
      (λ u. new (ltb-true j splits e) (eqb-true z (name (0 + j)) u ∙ ap name (omega arith)))
      (λ u.
      let p1 : occ z (level j x.0 x.1) ≡ occ z v.pre + (count_if (eqb z (path j)) + (count_if (eqb z (name (0 + j))) + occ z v.post)) =
      ap (occ z) v.now ∙ occ_append z v.pre (path j ∷ name (0 + j) ∷ v.post) in
      let p2 : occ z (level j h t) ≡ occ z v.pre + (count_if (eqb z (path j)) + occ z v.post) =
      ap (occ z) v.was ∙ occ_append z v.pre (path j ∷ v.post) in
      let p3 : count_if (eqb z (name (0 + j))) ≡ 0 = ap count_if u in
      old (omega arith)))
      (λ e. old (rw (← q.1 (ltb-false j splits e)) o))

  -- a page of the path that is split is a page of its level
  path-level : (j : ℕ) → j < splits → 0 < occ (path j) (level j h t)
  path-level j l =
      let q = insert-level (kept_by b) (capacity k) name (key, r) h t j (omega (arith, two)) sound-before.sized (omega (arith, most)) in
      let v : Level j = q.0 l in
      let p : occ (path j) (level j h t) ≡ occ (path j) v.pre + (count_if (eqb (path j) (path j)) + occ (path j) v.post) =
      ap (occ (path j)) v.was ∙ occ_append (path j) v.pre (path j ∷ v.post) in
      omega (arith, ap count_if (eq-eqb (path j) (path j) refl))

  path-old : (j : ℕ) → j < splits → 0 < occ (path j) (pages h t)
  path-old j l = in_tree h j (path j) t (path-level j l)

  -- a page of the tree after the insertion is an old page or a new one
  in_new : {X : Type 0} (n z : ℕ) → 0 < occ z (new_pages name n) → ((j : ℕ) → j < n → z ≡ name j → X) → X
  in_new zero z o f = absurd (omega arith)
  in_new (suc n) z o f = either (eqb z (name n))
      (λ e. f n (omega arith) (eqb-true z (name n) e))
      (λ e. in_new n z (omega (arith, ap count_if e)) (λ j l. f j (omega arith)))

  in_pages : {X : Type 0} (z : ℕ) → 0 < occ z (pages x.0 x.1) → (0 < occ z (pages h t) → X) → ((j : ℕ) → j < x.2 → z ≡ name j → X) → X
  in_pages z o old new =
      let p : occ z (pages x.0 x.1) ≡ occ z (pages h t) + occ z (new_pages name x.2) =
      insert-pages (kept_by b) (capacity k) name (key, r) z h t in
      either (ltb 0 (occ z (pages h t)))
      (λ e. old (ltb-true 0 (occ z (pages h t)) e))
      (λ e. let y = ltb-false 0 (occ z (pages h t)) e in in_new x.2 z (omega arith) new)

  -- the clauses of the old index, page by page
  old-attribute : (z : ℕ) → 0 < occ z (pages h t) → attribute_at b z ≤ 3
  old-attribute z o = occ-all (λ p. attribute_at b p ≤ 3) z (pages h (index_tree b h)) accepts.sound.attributes
      (subst (λ (T : Tree (List ℕ) h). 0 < occ z (pages h T)) (sound-tree b accepts.sound) o)

  old-root : (z : ℕ) → 0 < occ z (pages h t) → root_bit (attribute_at b z) ≡ eqb z (root_offset b)
  old-root z o =
      occ-all (λ p. root_bit (attribute_at b p) ≡ eqb p (root_offset b)) z (pages h (index_tree b h)) accepts.sound.root_bits
      (subst (λ (T : Tree (List ℕ) h). 0 < occ z (pages h T)) (sound-tree b accepts.sound) o)

  old-leaf : (j z : ℕ) → j ≤ h → 0 < occ z (level j h t) → leaf_bit (attribute_at b z) ≡ eqb j 0
  old-leaf j z l o =
      occ-all (λ p. leaf_bit (attribute_at b p) ≡ eqb j 0) z (level j h (index_tree b h)) (accepts.sound.leaf_bits j l)
      (subst (λ (T : Tree (List ℕ) h). 0 < occ z (level j h T)) (sound-tree b accepts.sound) o)

  old-count : (z : ℕ) → 0 < occ z (pages h t) → count_at b z ≤ capacity k
  old-count z o =
      (occ-all (λ p. (least h ≤ count_at b p) × (count_at b p ≤ capacity k)) z (pages h (index_tree b h)) accepts.sound.counts
      (subst (λ (T : Tree (List ℕ) h). 0 < occ z (pages h T)) (sound-tree b accepts.sound) o)).1

  -- the leaf bits of a level below a new root
  leaf-bits : (j z : ℕ) → j ≤ h → 0 < occ z (level j x.0 x.1) → leaf_bit (unrooted path name splits (attribute_at b) z) ≡ eqb j 0
  leaf-bits j z l o = in_level j z l o
      (λ f. leaf-old path name (attribute_at b) splits z (λ i m. old-new z (in_tree h j z t f) i) ∙ old-leaf j z l f)
      (λ m e. ap (λ (y : ℕ). leaf_bit (unrooted path name splits (attribute_at b) y)) e
      ∙ leaf-new path name (attribute_at b) injective splits (λ i i' q. old-new (path i) (path-old i q) i') j m
      ∙ old-leaf j (path j) l (path-level j m))

  -- the root is on the top level alone
  root-high : (j : ℕ) → j < splits → j < h → root_offset b ≡ path j → ⊥
  root-high j l m e =
      let c = level_under-disjoint (root_offset b) j h (suc h) (key, t) (λ q. omega arith) in
      let o = pages-distinct before sound-before.pages_once (root_offset b) in
      let y : 0 < occ (root_offset b) (level j h t) = subst (λ (u : ℕ). 0 < occ u (level j h t)) (sym e) (path-level j l) in
      let w : 0 < occ (root_offset b) (level_under h (suc h) (key, t)) = rw (eq-eqb h h refl) (occ-here (root_offset b) []) in
      omega arith

  root-old : 0 < occ (root_offset b) (pages h t)
  root-old = occ-here (root_offset b) (concat_map (pages_under h) t.1)

  path-small : (j : ℕ) → j < splits → attribute_at b (path j) ≤ 3
  path-small j l = old-attribute (path j) (path-old j l)

  -- the attributes of the pages after the insertion
  record Bits : Type 0 where
    leaf : (j z : ℕ) → j ≤ x.0 → 0 < occ z (level j x.0 x.1) → leaf_bit (attribute_at b'' z) ≡ eqb j 0
    root : (z : ℕ) → 0 < occ z (pages x.0 x.1) → root_bit (attribute_at b'' z) ≡ eqb z x.1.0
    small : (z : ℕ) → 0 < occ z (pages x.0 x.1) → attribute_at b'' z ≤ 3

  bits_stay : x.0 ≡ h → x.1.0 ≡ root_offset b → splits ≤ h
      → ((z : ℕ) → is_page (length b) z ≡ true → attribute_at b'' z ≡ unrooted path name splits (attribute_at b) z) → Bits
  bits_stay e0 e1 short at =
      let n2 : x.2 ≡ splits = rw (ne_eqb splits (suc h) (λ q. omega arith)) at need in
      record {
        leaf = λ j z l o. ap leaf_bit (at z (new-page z (in_tree x.0 j z x.1 o))) ∙ leaf-bits j z (omega arith) o;
        root = λ z o. rw (at z (new-page z o), e1) (in_pages z o
            (λ f. either (eqb z (root_offset b))
            (λ q. let v : z ≡ root_offset b = eqb-true z (root_offset b) q in
            rw (unrooted-same path name (attribute_at b) splits z (λ j l. (old-new z f j, (λ u. root-high j l (omega arith) (sym v ∙ u)))))
            (old-root z f))
            (λ q. rw q (root_none path name (attribute_at b) splits z (old-root z f ∙ q))))
            (λ j l v. rw (v, ne_eqb (name j) (root_offset b) (λ u. old-new (root_offset b) root-old j (sym u)))
            (root-new path name (attribute_at b) splits j (omega arith))));
        small = λ z o. rw (at z (new-page z o)) (in_pages z o
            (λ f. small-old path name (attribute_at b) splits path-small z (old-attribute z f))
            (λ j l v. rw v (small-new path name (attribute_at b) splits path-small j (omega arith))));
      }

  -- the path's page on the top level is the root
  path-top : path h ≡ root_offset b
  path-top = rw (eq-eqb h h refl)

  bits_rise : x.0 ≡ suc h → x.1.0 ≡ name (suc h) → splits ≡ suc h
      → ((z : ℕ) → is_page (length b) z ≡ true
      → attribute_at b'' z ≡ cond (eqb z (name (suc h))) 1 (unrooted path name (suc h) (attribute_at b) z)) → Bits
  bits_rise e0 e1 er at_top =
      let top : ℕ = name (suc h) in
      let n2 : x.2 ≡ suc splits = rw (eq-eqb splits (suc h) er) at need in
      let at : (z : ℕ) → is_page (length b) z ≡ true → attribute_at b'' z ≡ cond (eqb z top) 1 (unrooted path name splits (attribute_at b) z) =
      λ z p. at_top z p ∙ ap (λ (m : ℕ). cond (eqb z top) 1 (unrooted path name m (attribute_at b) z)) (sym er) in
      record {
        leaf = λ j z l o. ap leaf_bit (at z (new-page z (in_tree x.0 j z x.1 o)))
            ∙ either (eqb j (suc h))
            (λ q. let here : z ≡ top = top-page j z (eqb-true j (suc h) q ∙ sym e0) o ∙ e1 in
            rw (eq-eqb z top here, eqb-true j (suc h) q) (sym (ne_eqb (suc h) 0 (λ u. omega arith))))
            (λ q. let low : j ≤ h = omega (arith, eqb-false j (suc h) q) in
            rw (ne_eqb z top (below_top j z low o)) (leaf-bits j z low o));
        root = λ z o. rw (at z (new-page z o), e1) (either (eqb z top)
            (λ q. rw q)
            (λ q. rw q (in_pages z o
            (λ f. either (eqb z (root_offset b))
            (λ u. let v : z ≡ path h = eqb-true z (root_offset b) u ∙ sym path-top in
            rw v (root-split path name (attribute_at b) splits h (omega arith)))
            (λ u. root_none path name (attribute_at b) splits z (old-root z f ∙ u)))
            (λ j l v. rw v (root-new path name (attribute_at b) splits j (not_top j z q v (omega arith)))))));
        small = λ z o. rw (at z (new-page z o)) (either (eqb z top)
            (λ q. rw q (omega arith))
            (λ q. rw q (in_pages z o
            (λ f. small-old path name (attribute_at b) splits path-small z (old-attribute z f))
            (λ j l v. rw v (small-new path name (attribute_at b) splits path-small j (not_top j z q v (omega arith)))))));
      }
    where
      top-page : (j z : ℕ) → j ≡ x.0 → 0 < occ z (level j x.0 x.1) → z ≡ x.1.0
      top-page j z e o =
          let y : 0 < occ z (x.1.0 ∷ []) = rw (eq-eqb j x.0 e) at o in
          either (eqb z x.1.0) (λ u. eqb-true z x.1.0 u) (λ u. absurd (omega (arith, ap count_if u)))

      below_top : (j z : ℕ) → j ≤ h → 0 < occ z (level j x.0 x.1) → z ≡ name (suc h) → ⊥
      below_top j z l o e = in_level j z l o
          (λ f. old-new z (in_tree h j z t f) (suc h) e)
          (λ m u. let q : j ≡ suc h = injective j (suc h) (sym u ∙ e) in omega arith)

      not_top : (j z : ℕ) → eqb z (name (suc h)) ≡ false → z ≡ name j → j < suc splits → j < splits
      not_top j z q v l = either (eqb j splits)
          (λ u. absurd (eqb-false z (name (suc h)) q (v ∙ ap name (eqb-true j splits u ∙ er))))
          (λ u. omega (arith, eqb-false j splits u))

  heads : HeadsIn k N h b key r ready
  heads = heads_in k N h b key r ready

  bits : Bits
  bits = go heads.rising
    where
      go : Rising k N h b key r ready → Bits
      go (stays e0 e1 short at) = bits_stay e0 e1 short at
      go (rises e0 e1 er at) = bits_rise e0 e1 er at

  linked-before : LinkedIndex (links_of b) before
  linked-before = subst (LinkedIndex (links_of b)) (sym before_is) (sound-linked b accepts.sound)

  linked-after : AllLinked no_page (links_of b'') x.0 x.1
  linked-after j l =
      let e : AllLinked no_page (links_after k N h b key r ready) x.0 x.1 =
      inserted-linked kept_setting two before (key, r) (links_of b) sound-before sound-after linked-before in
      linked-same no_page (links_after k N h b key r ready) (links_of b'') no_page (level j x.0 x.1)
      (λ z o. heads.links z (new-page z (in_tree x.0 j z x.1 o))) (e j l)

  counts-after : (z : ℕ) → 0 < occ z (pages x.0 x.1) → count_at b'' z ≤ capacity k
  counts-after z o = in_pages z o
      (λ f. heads.counts z (old-page z f) (old-count z f))
      (λ j l e. rw e (heads.new_counts j l))

  -- the header: root offset and file size are the new ones, all else is as it was
  rest : SameRest b b''
  rest = header-after k N h b key r ready

  key-same : key_length b'' ≡ k
  key-same = le16-same b'' b 12 (sym (window-window b'' 12 500 0 2 (omega arith)) ∙ ap (λ (w : List ℕ). window w 0 2) rest
      ∙ window-window b 12 500 0 2 (omega arith))

  features-same : features b'' ≡ features b
  features-same = sym (get_d_window b'' 12 500 2 0 (omega arith)) ∙ ap (λ (w : List ℕ). get_or w 2 0) rest ∙ get_d_window b 12 500 2 0 (omega arith)

  free_is : free_pointer b'' ≡ head_or no_page after.free
  unfolding supply_of
  free_is = ap (λ (s : Supply). s.free.0) (supply-after k N h b key r ready)

  size_is : file_size b'' ≡ after.size
  unfolding supply_of
  size_is = ap (λ (s : Supply). s.end.0) (supply-after k N h b key r ready)

  long : length b'' ≡ length b
  long = length-after k N h b key r ready

  header-good : header_good b'' ≡ true
  header-good =
      let once = sound-after.pages_once in
      let aligned = once.aligned in
      let within = sound-after.within_size in
      let least_size = good.least in
      let pointers : All (λ p. free_good after.size p ≡ true) accepts.sound.free =
      all_map (λ p. is_page (file_size b) p ≡ true) (λ p. free_good after.size p ≡ true) (λ p t. page-good after.size p (page_longer p (omega arith) t))
      accepts.sound.free accepts.sound.free_inside in
      let root : is_page after.size x.1.0 ≡ true =
      once-page after once x.1.0 (omega (arith, occ-here x.1.0 (concat_map (pages_under x.0) x.1.1))) in
      good-header-from b'' (record {
        long = rw long good.long;
        whole = rw size_is aligned;
        least = rw size_is (omega arith);
        most = rw size_is (omega arith);
        within = rw (size_is, long) (omega arith);
        root = rw (size_is, root-after k N h b key r ready) root;
        key-low = rw key-same good.key-low;
        key-high = rw key-same good.key-high;
        free = rw (size_is, free_is) (left-head (λ p. free_good after.size p ≡ true) no_page accepts.sound.free x.2 (none-good after.size) pointers);
        plain = rw features-same good.plain;
      })

  -- the new tree, read up to the file's size
  tree_is : index_tree b'' x.0 ≡ x.1
  tree_is =
      let read : tree_in k b'' x.0 ≡ x.1 = tree-after k N h b key r ready in
      ap (λ (n : ℕ). read_tree (entries_at n (file_size b'') b'') x.0 (root_offset b'')) key-same
      ∙ read_shorter k (file_size b'') b'' x.0 (root_offset b'') (good-header b'' header-good).within
      (λ z o. rw size_is (once-page after sound-after.pages_once z
      (omega (arith, subst (λ (T : Tree (List ℕ) x.0). 0 < occ z (pages x.0 T)) read o))))
      ∙ read

  index_is : index_of b'' x.0 after.free ≡ after
  index_is = λ i. record { height = x.0; tree = tree_is i; free = after.free; size = size_is i }

  there : (z : ℕ) → 0 < occ z (pages x.0 (index_tree b'' x.0)) → 0 < occ z (pages x.0 x.1)
  there z o = subst (λ (T : Tree (List ℕ) x.0). 0 < occ z (pages x.0 T)) tree_is o

  -- page j of the supply, if it is free and is not taken
  module _ (j : ℕ) (late : x.2 ≤ j) (short : j < length accepts.sound.free) where
    -- a property of the free pages is one of it
    its : (P : ℕ → Type 0) → All P accepts.sound.free → P (name j)
    its P a = taken-all P accepts.sound.free (file_size b) (length accepts.sound.free) j short a (λ i l. absurd (omega arith))

    its-page : is_page (length b) (name j) ≡ true
    its-page = page_longer (name j) good.within (its (λ p. is_page (file_size b) p ≡ true) accepts.sound.free_inside)

    its-bytes : SameButLeft b b'' (name j)
    its-bytes = untaken-after k N h b key r ready j late its-page

    not_taken : (i : ℕ) → i < x.2 → name j ≡ name i → ⊥
    not_taken i l e = let same : j ≡ i = injective j i e in omega arith

    few : splits ≤ x.2
    few = either (eqb splits (suc h)) (λ e. omega (arith, rw e at need)) (λ e. omega (arith, rw e at need))

    -- it is not the right neighbour of a page of the path
    not_beyond : (i : ℕ) → i < splits → name j ≡ right_at b (path i) → ⊥
    not_beyond i l e =
        let v : Level i = (insert-level (kept_by b) (capacity k) name (key, r) h t i (omega (arith, two)) sound-before.sized (omega (arith, most))).0 l in
        let right : right_at b (path i) ≡ head_or no_page v.post =
        linked-right no_page (links_of b) (path i) no_page v.pre v.post
        (subst (Linked no_page (links_of b) no_page) v.was (linked-before i (omega (arith, most)))) in
        let counts : occ (name j) (level i h t) ≡ occ (name j) v.pre + (count_if (eqb (name j) (path i)) + occ (name j) v.post) =
        ap (occ (name j)) v.was ∙ occ_append (name j) v.pre (path i ∷ v.post) in
        let none : occ (name j) v.post ≡ 0 =
        omega (arith, taken-unused before sound-before.pages_once j, level_under-pages (name j) i (suc h) (key, t)) in
        head_or_differ no_page (name j) v.post none (λ q. omega (arith, (is-page (length b) (name j) its-page).whole)) (e ∙ right)

    not_root : name j ≡ x.1.0 → ⊥
    not_root e = in_pages x.1.0 (occ-here x.1.0 (concat_map (pages_under x.0) x.1.1))
        (λ f. old-new x.1.0 f j (sym e))
        (λ i l u. not_taken i l (e ∙ u))

    its-left : left_at b'' (name j) ≡ left_at b (name j)
    its-left =
        (heads.links (name j) its-page).0
        ∙ relinked-left ((kept_by b).route (key, r)) no_page name (capacity k) h t x (links_of b) (name j) (λ i l. not_taken i (omega (arith, few))) not_beyond
        not_root

    its-form : FreePage b'' (name j)
    its-form = free-kept b b'' (name j) long its-page its-bytes its-left (its (FreePage b) accepts.sound.free_pages)

  -- the free list after the insertion
  free-list : FreeList b'' after.free
  free-list =
      rw free_is (left-chained no_page (right_at b) (right_at b'') (free_pointer b) accepts.sound.free x.2 accepts.sound.free_list
      (left-all (λ z. right_at b'' z ≡ right_at b z) accepts.sound.free (file_size b) x.2 (λ j l m. right_kept (its-bytes j l m))))

  free-pages : All (FreePage b'') after.free
  free-pages = left-all (FreePage b'') accepts.sound.free (file_size b) x.2 its-form

  sound-now : (s : Sound b'') × (s.height ≡ x.0) × (s.free ≡ after.free)
  sound-now =
      let ps : List ℕ = pages x.0 (index_tree b'' x.0) in
      index-sound b'' x.0 after.free (min (length b) max_bytes) header-good
      (subst (λ (n : ℕ). SoundIndex (setting_of n (key_length b'') (min (length b) max_bytes)) (index_of b'' x.0 after.free)) (sym features-same)
      (subst (λ (n : ℕ). SoundIndex (setting_of (features b) n (min (length b) max_bytes)) (index_of b'' x.0 after.free)) (sym key-same)
      (subst (SoundIndex kept_setting) (sym index_is) sound-after)))
      (subst (λ (T : Tree (List ℕ) x.0). AllLinked no_page (links_of b'') x.0 T) (sym tree_is) linked-after)
      (all-occ (λ p. attribute_at b'' p ≤ 3) ps (λ z o. bits.small z (there z o)))
      (all-occ (λ p. root_bit (attribute_at b'' p) ≡ eqb p (root_offset b'')) ps
      (λ z o. bits.root z (there z o) ∙ ap (eqb z) (sym (root-after k N h b key r ready))))
      (λ j l. all-occ (λ p. leaf_bit (attribute_at b'' p) ≡ eqb j 0) (level j x.0 (index_tree b'' x.0))
      (λ z o. bits.leaf j z l (subst (λ (T : Tree (List ℕ) x.0). 0 < occ z (level j x.0 T)) tree_is o)))
      (all-occ (λ p. count_at b'' p ≤ capacity (key_length b'')) ps (λ z o. rw key-same (counts-after z (there z o))))
      free-list free-pages

-- what an insertion that is accepted leaves: a sound index, the theory's insertion into the old one; the new pair among the old ones; and a header that
-- differs in its root offset and supply alone
pub record Inserts (b key : List ℕ) (r : ℕ) (s : Sound b) : Type 0 where
  pub sound : Sound (inserted_buffer (key_length b) b key r)
  pub index : index_of (inserted_buffer (key_length b) b key r) sound.height sound.free
      ≡ inserted (setting_of (features b) (key_length b) (min (length b) max_bytes)) (key, r) (index_of b s.height s.free)
  pub leaves : pairs sound.height (index_tree (inserted_buffer (key_length b) b key r) sound.height)
      ≡ insert_pair (kept_by b).pair_le (key, r) (pairs s.height (index_tree b s.height))
  pub header : SameRest b (inserted_buffer (key_length b) b key r)
  pub key_is : key_length (inserted_buffer (key_length b) b key r) ≡ key_length b
  pub features_are : features (inserted_buffer (key_length b) b key r) ≡ features b
  pub as_long : length (inserted_buffer (key_length b) b key r) ≡ length b
  pub plain : Plain (inserted_buffer (key_length b) b key r)

-- Theorem: an insertion that is accepted keeps the index sound
pub insert-keeps-sound : (b key : List ℕ) (r : ℕ) (accepts : Accepts b key r) → Inserts b key r accepts.sound
insert-keeps-sound b key r accepts =
    let s = accepts.sound in
    let b'' : List ℕ = inserted_buffer (key_length b) b key r in
    let now = sound-now b key r accepts in
    let old = subst (SoundIndex (kept_setting b key r accepts)) (before_is b key r accepts) (sound-before b key r accepts) in
    let same : index_of b'' now.0.height now.0.free ≡ inserted (kept_setting b key r accepts) (key, r) (index_of b s.height s.free) =
    ap₂ (index_of b'') now.1 now.2 ∙ index_is b key r accepts ∙ ap (inserted (kept_setting b key r accepts) (key, r)) (before_is b key r accepts) in
    record {
      sound = now.0;
      index = same;
      leaves = ap held same
          ∙ insert-pairs (kept_by b) (capacity (key_length b)) (taken_page s.free (file_size b)) (key, r) s.height (index_tree b s.height)
          (sized-rooted (capacity (key_length b)) s.height (index_tree b s.height) old.sized) old.ordered;
      header = rest b key r accepts;
      key_is = key-same b key r accepts;
      features_are = features-same b key r accepts;
      as_long = long b key r accepts;
      plain = (heads b key r accepts).plain;
    }
