-- Laws: the whole buffer after an insertion that has room: the tree, the links, the attributes and the counts that it reads as, and its header. Cited by the
-- law that an insertion keeps an index sound. Assumes nothing.
use Rattle.std.specs.Prelude.{◌≡◌, refl, true, cond, eqb, length}
use Rattle.std.proofs.Common.{sym, ap, ap₂, ◌∙◌, arith, eqb-true, eq-eqb, ne_eqb}
use Rattle.std.proofs.Math.Path.{subst}
use mathlib.Core.List.{List, [], ◌∷◌}
use Prim.Native.Nat.{ℕ, suc, ◌^◌, ◌≤◌, ◌<◌}
use Rattle.std.proofs.lemmas.Bool.{eqb-false}
use Rattle.basis.specs.Lists.{All}
use Rattle.basis.specs.Tests.{either}
use Rattle.octets.specs.Bytes.{to_le32, to_be32}
use Rattle.octets.specs.Store.{put}
use Rattle.octets.specs.StoreLaws.{length-put, window-after}
use Rattle.octets.specs.NumberLaws.{length-to_le32, length-to_be32, le32-put, le32-same}
use Rattle.tree.specs.Clauses.{Sized, Links}
use Rattle.tree.proofs.Insertion.Needs.{insert-needs, root-splits}
use Rattle.tree.specs.Insertion.{Grown, insert}
use Rattle.tree.specs.Lists.{occ}
use Rattle.tree.specs.Pairs.{last_key}
use Rattle.tree.specs.Relinking.{path_page, relink, clear_links, relinked}
use Rattle.tree.specs.Room.{run, needs, levels_after}
use Rattle.tree.specs.Store.{Store, read_tree}
use Rattle.tree.proofs.Store.InsertionLaws.{insert-read}
use Rattle.tree.proofs.Store.RouteLaws.{route-read}
use Rattle.tree.specs.Store.Steps.{StoreReplacement, StoreGrown, store_reroot, store_insert, read_grown}
use Rattle.tree.specs.Tree.{Tree, pages}
use Rattle.idx_page.specs.Header.{max_levels, no_page, page_size, features, is_page, root_offset}
use Rattle.idx_page.specs.HeaderLaws.{is-page}
use Rattle.idx_page.specs.KeyOrder.{bytes_order}
use Rattle.idx_page.specs.Page.{attribute_at, count_at, left_at, right_at, capacity}
use Rattle.idx_page.specs.Reading.{Item}
use Rattle.idx_page.proofs.ReadingLaws.{window_in_page}
use Rattle.idx_supply.specs.declared.Supply.{Supply}
use Rattle.idx_supply.specs.declared.Taken.{Taken}
use Rattle.idx_supply.specs.Supply.{supply_of, take_page, with_supply}
use Rattle.idx_leaf.specs.Leaf.{items_in, stored}
use Rattle.idx_layout.specs.Layout.{new_page}
use Rattle.idx_leaf.specs.ItemLaws.{Fit}
use Rattle.idx_leaf.specs.EntryLaws.{items_in_fit}
use Rattle.idx_entries.proofs.GatherLaws.{length_last}
use Rattle.idx_sound.specs.Sound.{links_of, kept_by}
use Rattle.idx_insert_page.specs.Insertion.{Outcome, kept, split, bad, Step, insert_under, at_root, inserted_buffer}
use Rattle.idx_layout_laws.specs.EntryLaws.{entries_in, page-of, length-new}
use Rattle.idx_layout_laws.specs.HeadLaws.{Head, SameHead, SameHeader, put-header, new-head, new-header}
use Rattle.idx_layout_laws.specs.OtherPages.{SameButLeft, both-kept, header-other, new-other}
use Rattle.idx_layout_laws.specs.SupplyLaws.{Storable, SameRest, supply-stored}
use Rattle.idx_insert_laws.specs.Naming.{Naming, Usable, Untaken, next_of}
use Rattle.idx_insert_laws.specs.ItemLists.{passes, Shaped, shaped-page}
use Rattle.idx_insert_laws.specs.InsertionEntries.{OutcomeIs, StepIs, Offered, replacement, Free, own-page, inserts, top_key, RootIs}
use Rattle.idx_insert_laws.specs.InsertionEntries.{root_after, root-inserts}
use Rattle.idx_insert_laws.specs.InsertionHeads.{Plain, unrooted, one_of, HeadsAfter, insert-heads}

-- the tree that is read up to the buffer's length, as insertion's rule reads it
abbrev pub tree_in : ℕ → List ℕ → (h : ℕ) → Tree (List ℕ) h
tree_in k b h = read_tree (entries_in k b) h (root_offset b)

-- the theory's insertion into that tree, with new pages from N
abbrev pub grown_by : ℕ → Naming → ℕ → List ℕ → List ℕ → ℕ → Grown (List ℕ)
grown_by k N h b key r = insert (kept_by b) (capacity k) N.name (key, r) h (tree_in k b h)

-- what a sound index of h + 1 levels gives for an insertion that has room
pub record Ready (k : ℕ) (N : Naming) (h : ℕ) (b key : List ℕ) (r : ℕ) : Type 0 where
  pub offered : Offered k N key r b
  pub levels : h < max_levels
  pub plain : Plain b
  pub shaped : Shaped k h b (root_offset b)
  pub sized : Sized (capacity k) h (tree_in k b h)
  pub once : (z : ℕ) → occ z (pages h (tree_in k b h)) ≤ 1
  pub unused : (i : ℕ) → occ (N.name i) (pages h (tree_in k b h)) ≡ 0
  pub room : (j : ℕ) → j < (grown_by k N h b key r).2 → Usable b (N.name j)
  pub storable : Storable (N.left (grown_by k N h b key r).2)

reroot-more : (name : ℕ → ℕ) (h p : ℕ) (xs : List (List ℕ × ℕ)) (n : ℕ) (S : Store (List ℕ)) → n ≤ (store_reroot name h p xs n S).2
reroot-more name h p [] n S = omega arith
reroot-more name h p (x ∷ []) n S = omega arith
reroot-more name h p (x ∷ y ∷ ys) n S = omega arith

-- a field of every page after the root was written: a new root, at `top`, has the value v
abbrev crowned : ℕ → ℕ → Outcome → ℕ → (ℕ → ℕ) → ℕ
crowned v top (kept s) z f = f z
crowned v top (split q s) z f = cond (eqb z top) v (f z)
crowned v top bad z f = f z

-- what writing the root leaves of b': `root` is the page that is the root then, and the supply
record Rooted (root : Taken) (o : Outcome) (b' b'' : List ℕ) : Type 0 where
  as_long : length b'' ≡ length b'
  attributes : (z : ℕ) → is_page (length b') z ≡ true → attribute_at b'' z ≡ crowned 1 root.page.0 o z (attribute_at b')
  lefts : (z : ℕ) → is_page (length b') z ≡ true → left_at b'' z ≡ crowned no_page root.page.0 o z (left_at b')
  rights : (z : ℕ) → is_page (length b') z ≡ true → right_at b'' z ≡ crowned no_page root.page.0 o z (right_at b')
  counts : (z : ℕ) → is_page (length b') z ≡ true → count_at b'' z ≡ crowned 2 root.page.0 o z (count_at b')
  root_is : root_offset b'' ≡ root.page.0
  supply_is : supply_of b'' ≡ root.rest
  header : SameRest b' b''
  others : (z : ℕ) → is_page (length b') z ≡ true → (z ≡ root.page.0 → ⊥) → SameButLeft b' b'' z

-- the root is a page of the buffer
abbrev NewRoot : List ℕ → Outcome → Type 0
NewRoot b (kept s) = Unit {0}
NewRoot b (split q s) = is_page (length b) (take_page b s).page.0 ≡ true
NewRoot b bad = ⊥

module _ (k p : ℕ) (key : List ℕ) (two : 1 < capacity k) (long : length key ≡ k) (b : List ℕ) where
  at-root : (o : Outcome) → NewRoot b o → page_size ≤ length b → root_offset b ≡ p → (root_after b p o).page.0 < 2 ^ 32 → Storable (root_after b p o).rest
      → Rooted (root_after b p o) o b (at_root k b key p o)
  at-root bad new l er r32 small = absurd new
  at-root (kept s) new l er r32 small =
      let c = supply-stored b s l small in
      record {
        as_long = c.as_long;
        attributes = λ z t. (c.heads z t).attribute_is;
        lefts = λ z t. (c.heads z t).left_is;
        rights = λ z t. (c.heads z t).right_is;
        counts = λ z t. (c.heads z t).count_is;
        root_is = c.root ∙ er;
        supply_is = c.supply;
        header = c.header;
        others = λ z t ne. c.pages z t;
      }
  at-root (split q s) new l er r32 small =
      let top = (take_page b s).page.0 in
      let rest = (take_page b s).rest in
      let es : List Item = (last_key key (items_in k b p), to_be32 p) ∷ (last_key key (items_in k b q), to_be32 q) ∷ [] in
      let fits : (z : ℕ) → length (last_key key (items_in k b z)) ≡ k = λ z. length_last k key long (items_in k b z) (items_in_fit k b z) in
      let fit : All (Fit k) es = ((fits p, length-to_be32 p), ((fits q, length-to_be32 q), tt)) in
      let b1 = new_page b top 1 no_page no_page es in
      let b2 = put b1 0 (to_le32 top) in
      let n4 = length-to_le32 top in
      let l1 : length b1 ≡ length b = length-new b top 1 no_page no_page es in
      let l2 : length b2 ≡ length b = length-put b1 0 (to_le32 top) ∙ l1 in
      let c = supply-stored b2 rest (rw l2 l) small in
      let h1 : (z : ℕ) → is_page (length b) z ≡ true → Head b1 z (cond (eqb z top) 1 (attribute_at b z)) (cond (eqb z top) 2 (count_at b z))
      (cond (eqb z top) no_page (left_at b z)) (cond (eqb z top) no_page (right_at b z)) =
      new-head k b top 1 no_page no_page es new (omega arith) (omega arith) (omega arith) fit (omega arith) in
      let h2 : (z : ℕ) → is_page (length b) z ≡ true → SameHead b1 b2 z = λ z t. put-header b1 0 (to_le32 top) (omega arith) z (page-of z l1 t) in
      let h3 : (z : ℕ) → is_page (length b) z ≡ true → SameHead b2 (with_supply b2 rest) z = λ z t. c.heads z (page-of z l2 t) in
      let header : SameHeader b b1 = new-header k b top 1 no_page no_page es new (omega arith) (omega arith) (omega arith) fit (omega arith) in
      rw new (record {
        as_long = c.as_long ∙ l2;
        attributes = λ z t. (h3 z t).attribute_is ∙ (h2 z t).attribute_is ∙ (h1 z t).attribute_is;
        lefts = λ z t. (h3 z t).left_is ∙ (h2 z t).left_is ∙ (h1 z t).left_is;
        rights = λ z t. (h3 z t).right_is ∙ (h2 z t).right_is ∙ (h1 z t).right_is;
        counts = λ z t. (h3 z t).count_is ∙ (h2 z t).count_is ∙ (h1 z t).count_is;
        root_is = c.root ∙ le32-put b1 0 top r32 (omega arith);
        supply_is = c.supply;
        header = c.header ∙ window-after b1 0 (to_le32 top) 12 500 (omega arith) ∙ window_in_page b1 b 0 header 12 500 (omega arith);
        others = λ z t ne. both-kept (both-kept (new-other k b top new z t ne 1 no_page no_page es fit (omega arith))
            (header-other b1 0 (to_le32 top) (omega arith) z (page-of z l1 t))) (c.pages z (page-of z l2 t));
      })

module _ (k : ℕ) (N : Naming) (h : ℕ) (b key : List ℕ) (r : ℕ) (ready : Ready k N h b key r) where
  abbrev root : ℕ
  root = root_offset b

  abbrev a : List ℕ
  a = top_key k N key r b ready.offered h (root_offset b)

  abbrev W : StoreReplacement (List ℕ)
  W = replacement k N key r b h a (root_offset b)

  abbrev g : StoreGrown (List ℕ)
  g = store_insert (kept_by b) (passes k b (key, r)) (capacity k) N.name (key, r) h (root_offset b) (entries_in k b)

  abbrev s : Step
  s = insert_under k max_levels b (stored key r) (root_offset b) (supply_of b)

  -- the theory's insertion into the pages is its insertion into the tree
  seen : read_grown g ≡ grown_by k N h b key r
  seen =
      insert-read (kept_by b) (passes k b (key, r)) (capacity k) N.name ready.offered.supplied.distinct (key, r) (entries_in k b)
      (route-read bytes_order (key, r) (entries_in k b) (features b)) h
      (root_offset b) ready.once ready.unused

  room_store : (j : ℕ) → j < g.2 → Usable b (N.name j)
  room_store j l = ready.room j (subst (λ (x : Grown (List ℕ)). j < x.2) seen l)

  storable : Storable (N.left g.2)
  storable = subst (λ (x : Grown (List ℕ)). Storable (N.left x.2)) (sym seen) ready.storable

  free : Free k N key r b h a (root_offset b)
  free = (ready.once, ready.unused, (λ j l. room_store j (omega (arith, reroot-more N.name h (root_offset b) W.0 W.1 W.2))))

  step_is : StepIs k N b a (root_offset b) s W
  step_is = inserts k N key r b ready.offered h max_levels (root_offset b) a ready.levels ready.shaped free

  -- the page of level j on the path to the key
  abbrev pub path : ℕ → ℕ
  path j = path_page ((kept_by b).route (key, r)) j h (tree_in k b h)

  heads : HeadsAfter k N path h b W.1 s.outcome s.after
  heads = insert-heads k N key r b ready.offered path ready.plain h max_levels (root_offset b) a ready.levels ready.shaped free (λ j i. refl)

  old-root : Usable b (root_offset b)
  old-root = shaped-page k h b (root_offset b) ready.shaped

  low : page_size ≤ length b
  low = let p = is-page (length b) (root_offset b) old-root.0 in omega arith

  root_is_lem : RootIs k N (at_root k s.after key (root_offset b) s.outcome) (root_after s.after (root_offset b) s.outcome) g
  root_is_lem = root-inserts k N key r b ready.offered h (root_offset b) s old-root low step_is room_store storable

  same-header : (o : Outcome) (b' : List ℕ) → HeadsAfter k N path h b W.1 o b' → SameHeader b b'
  same-header (kept s') b' c = c.header
  same-header (split q s') b' c = c.1.header
  same-header bad b' c = absurd c

  -- the new root is the next page of the supply, and it is a page of the buffer
  new-taken : (q : ℕ) (s' : Supply) → OutcomeIs N a (root_offset b) (split q s') W → take_page s.after s' ≡ next_of N W.1
  new-taken q s' t = ap (take_page s.after) t.0 ∙ ready.offered.supplied.takes W.1 s.after step_is.as_long step_is.untaken

  new-usable : (q : ℕ) (s' : Supply) → OutcomeIs N a (root_offset b) (split q s') W → Usable b (N.name W.1)
  new-usable q s' t = let rooms : (j : ℕ) → j < suc W.1 → Usable b (N.name j) = rw t.1 at room_store in rooms W.1 (omega arith)

  new-root : (o : Outcome) → OutcomeIs N a (root_offset b) o W → NewRoot s.after o × ((root_after s.after (root_offset b) o).page.0 < 2 ^ 32)
  new-root (kept s') t = (tt, old-root.1)
  new-root bad t = absurd t
  new-root (split q s') t =
      let u = new-usable q s' t in
      rw (new-taken q s' t) (page-of (N.name W.1) step_is.as_long u.0, u.1)

  -- a page that is not taken is not the root
  root-apart : (o : Outcome) → OutcomeIs N a (root_offset b) o W → (j : ℕ) → g.2 ≤ j → N.name j ≡ (root_after s.after (root_offset b) o).page.0 → ⊥
  root-apart (kept s') t j l e = own-page k N key r b h a (root_offset b) free j (sym e)
  root-apart bad t j l e = absurd t
  root-apart (split q s') t j l e =
      let few : suc W.1 ≤ j = rw t.1 at l in
      let same : j ≡ W.1 = ready.offered.supplied.distinct j W.1 (e ∙ ap (λ (y : Taken). y.page.0) (new-taken q s' t)) in
      omega arith

  rooted : Rooted (root_after s.after (root_offset b) s.outcome) s.outcome s.after (inserted_buffer k b key r)
  unfolding inserted_buffer
  rooted =
      let new = new-root s.outcome step_is.told in
      at-root k (root_offset b) key ready.offered.two ready.offered.long s.after s.outcome new.0
      (rw step_is.as_long low)
      (le32-same s.after b 0 (window_in_page s.after b 0 (same-header s.outcome s.after heads) 0 4 (omega arith)))
      new.1 (rw root_is_lem.left_is storable)

  -- Theorem: the buffer after the insertion reads as the theory's insertion into the tree that the buffer read as
  pub tree-after : tree_in k (inserted_buffer k b key r) (grown_by k N h b key r).0 ≡ (grown_by k N h b key r).1
  unfolding inserted_buffer
  tree-after =
      let b'' : List ℕ = at_root k s.after key (root_offset b) s.outcome in
      subst (λ (x : Grown (List ℕ)). read_tree (entries_in k b'') x.0 (root_offset b'') ≡ x.1) seen
      (ap₂ (λ (S : Store (List ℕ)) (p : ℕ). read_tree S g.0 p) root_is_lem.entries (rooted.root_is ∙ root_is_lem.root_is))

  pub root-after : root_offset (inserted_buffer k b key r) ≡ (grown_by k N h b key r).1.0
  root-after = rooted.root_is ∙ root_is_lem.root_is ∙ ap (λ (x : Grown (List ℕ)). x.1.0) seen

  pub supply-after : supply_of (inserted_buffer k b key r) ≡ N.left (grown_by k N h b key r).2
  supply-after = rooted.supply_is ∙ root_is_lem.left_is ∙ ap (λ (x : Grown (List ℕ)). N.left x.2) seen

  pub length-after : length (inserted_buffer k b key r) ≡ length b
  length-after = rooted.as_long ∙ step_is.as_long

  pub header-after : SameRest b (inserted_buffer k b key r)
  header-after = rooted.header ∙ window_in_page s.after b 0 (same-header s.outcome s.after heads) 12 500 (omega arith)

  -- Theorem: the pages that are not taken keep their bytes, but for their left links
  pub untaken-after : Untaken N (grown_by k N h b key r).2 b (inserted_buffer k b key r)
  untaken-after j l t =
      let more = reroot-more N.name h (root_offset b) W.0 W.1 W.2 in
      let l' : g.2 ≤ j = subst (λ (x : Grown (List ℕ)). x.2 ≤ j) (sym seen) l in
      let not_root : N.name j ≡ (root_after s.after (root_offset b) s.outcome).page.0 → ⊥ = λ e. root-apart s.outcome step_is.told j l' e in
      both-kept (step_is.untaken j (omega arith) t) (rooted.others (N.name j) (page-of (N.name j) step_is.as_long t) not_root)

  -- the run of full pages, as the theory has it
  abbrev pub full_run : ℕ
  full_run = run ((kept_by b).route (key, r)) (capacity k) h (tree_in k b h)

  needed : ((grown_by k N h b key r).2 ≡ needs ((kept_by b).route (key, r)) (capacity k) h (tree_in k b h))
      × (suc (grown_by k N h b key r).0 ≡ levels_after ((kept_by b).route (key, r)) (capacity k) h (tree_in k b h))
  needed = insert-needs (kept_by b) (capacity k) N.name (key, r) h (tree_in k b h) (omega (arith, ready.offered.two)) ready.sized

  -- the theory's numbers at each outcome: the pages that were split, the height and the root
  record Numbers (m height top : ℕ) : Type 0 where
    splits : full_run ≡ m
    height_is : (grown_by k N h b key r).0 ≡ height
    root_is : (grown_by k N h b key r).1.0 ≡ top

  numbers-kept : (s' : Supply) → OutcomeIs N a (root_offset b) (kept s') W → Numbers W.1 h (root_offset b)
  numbers-kept s' t =
      let g0 : g.0 ≡ h = rw t.1 in
      let g1 : g.1 ≡ root_offset b = rw t.1 in
      let g2 : g.2 ≡ W.1 = rw t.1 in
      let h0 : (grown_by k N h b key r).0 ≡ h = ap (λ (x : Grown (List ℕ)). x.0) (sym seen) ∙ g0 in
      let h2 : (grown_by k N h b key r).2 ≡ W.1 = ap (λ (x : Grown (List ℕ)). x.2) (sym seen) ∙ g2 in
      let x : full_run ≡ W.1 = either (eqb full_run (suc h))
      (λ q. let y : suc (grown_by k N h b key r).0 ≡ suc (suc h) = rw q at needed.1 in absurd (omega arith))
      (λ q. let y : (grown_by k N h b key r).2 ≡ full_run = rw q at needed.0 in omega arith) in
      record { splits = x; height_is = h0; root_is = ap (λ (x : Grown (List ℕ)). x.1.0) (sym seen) ∙ g1 }

  numbers-split : (q : ℕ) (s' : Supply) → OutcomeIs N a (root_offset b) (split q s') W → Numbers (suc h) (suc h) (N.name W.1)
  numbers-split q s' t =
      let g0 : g.0 ≡ suc h = rw t.1 in
      let g1 : g.1 ≡ N.name W.1 = rw t.1 in
      let h0 : (grown_by k N h b key r).0 ≡ suc h = ap (λ (x : Grown (List ℕ)). x.0) (sym seen) ∙ g0 in
      let x : full_run ≡ suc h = either (eqb full_run (suc h))
      (λ e. eqb-true full_run (suc h) e)
      (λ e. let y : suc (grown_by k N h b key r).0 ≡ suc h = rw e at needed.1 in absurd (omega arith)) in
      record { splits = x; height_is = h0; root_is = ap (λ (x : Grown (List ℕ)). x.1.0) (sym seen) ∙ g1 }

  -- the theory's links after the insertion
  abbrev pub links_after : Links
  links_after = relinked ((kept_by b).route (key, r)) no_page N.name (capacity k) h (tree_in k b h) (grown_by k N h b key r) (links_of b)

  relinked-kept : (x : Grown (List ℕ)) → x.0 ≡ h
      → relinked ((kept_by b).route (key, r)) no_page N.name (capacity k) h (tree_in k b h) x (links_of b)
      ≡ relink path N.name full_run (links_of b)
  relinked-kept x e = rw (eq-eqb x.0 h e)

  relinked-split : (x : Grown (List ℕ)) (p : ℕ) → x.0 ≡ suc h → x.1.0 ≡ p
      → relinked ((kept_by b).route (key, r)) no_page N.name (capacity k) h (tree_in k b h) x (links_of b)
      ≡ clear_links no_page p (relink path N.name full_run (links_of b))
  relinked-split x p e f = rw (ne_eqb x.0 h (λ q. omega arith))
      (ap (λ (y : ℕ). clear_links no_page y (relink path N.name full_run (links_of b))) f)

  -- what the heads of the pages are, if the root stays and if it rises
  pub data Rising : Type 0 where
    stays : (grown_by k N h b key r).0 ≡ h → (grown_by k N h b key r).1.0 ≡ root_offset b → full_run ≤ h
        → ((z : ℕ) → is_page (length b) z ≡ true → attribute_at (inserted_buffer k b key r) z ≡ unrooted path N.name full_run
        (attribute_at b) z) → Rising
    rises : (grown_by k N h b key r).0 ≡ suc h → (grown_by k N h b key r).1.0 ≡ N.name (suc h) → full_run ≡ suc h
        → ((z : ℕ) → is_page (length b) z ≡ true
        → attribute_at (inserted_buffer k b key r) z
        ≡ cond (eqb z (N.name (suc h))) 1 (unrooted path N.name (suc h) (attribute_at b) z)) → Rising

  -- the heads of the pages after the insertion
  pub record HeadsIn : Type 0 where
    pub links : (z : ℕ) → is_page (length b) z ≡ true → (left_at (inserted_buffer k b key r) z ≡ links_after.left z) ×
        (right_at (inserted_buffer k b key r) z ≡ links_after.right z)
    pub rising : Rising
    pub counts : (z : ℕ) → is_page (length b) z ≡ true → count_at b z ≤ capacity k → count_at (inserted_buffer k b key r) z ≤ capacity k
    pub new_counts : (j : ℕ) → j < (grown_by k N h b key r).2 → count_at (inserted_buffer k b key r) (N.name j) ≤ capacity k
    pub plain : Plain (inserted_buffer k b key r)

  run_short : (grown_by k N h b key r).0 ≡ h → full_run ≤ h
  run_short h0 = either (eqb full_run (suc h))
      (λ q. let y : suc (grown_by k N h b key r).0 ≡ suc (suc h) = rw q at needed.1 in absurd (omega arith))
      (λ q. omega (
        arith,
        eqb-false full_run (suc h) q,
        (root-splits (kept_by b) (capacity k) N.name (key, r) h key (tree_in k b h) (omega (arith, ready.offered.two)) ready.sized).most,
      ))

  -- Theorem: the heads of the pages are the theory's
  pub heads_in : HeadsIn
  heads_in = go s.outcome step_is.told heads rooted
    where
      b'' : List ℕ
      b'' = inserted_buffer k b key r

      there : (z : ℕ) → is_page (length b) z ≡ true → is_page (length s.after) z ≡ true
      there z t = page-of z step_is.as_long t

      go : (o : Outcome) → OutcomeIs N a (root_offset b) o W → HeadsAfter k N path h b W.1 o s.after
          → Rooted (root_after s.after (root_offset b) o) o s.after b'' → HeadsIn
      go bad t v e = absurd t
      go (kept s') t v e =
          let x : Numbers W.1 h (root_offset b) = numbers-kept s' t in
          let short = run_short x.height_is in
          let few : (grown_by k N h b key r).2 ≡ full_run = rw (ne_eqb full_run (suc h) (λ q. omega arith)) at needed.0 in
          let f : links_after ≡ relink path N.name W.1 (links_of b) =
          relinked-kept (grown_by k N h b key r) x.height_is ∙ ap (λ (m : ℕ). relink path N.name m (links_of b)) x.splits in
          record {
            links = λ z p. (
              e.lefts z (there z p) ∙ v.lefts z p ∙ ap (λ (l : Links). l.left z) (sym f),
              e.rights z (there z p) ∙ v.rights z p ∙ ap (λ (l : Links). l.right z) (sym f),
            );
            rising = stays x.height_is x.root_is short
                (λ z p. e.attributes z (there z p) ∙ v.attributes z p ∙ ap (λ (m : ℕ). unrooted path N.name m (attribute_at b) z)
                (sym x.splits));
            counts = λ z p u. rw (e.counts z (there z p)) (v.counts z p u);
            new_counts = λ j l.
                let u = v.new_counts j (omega (arith, x.splits)) in
                rw (e.counts (N.name j) (there (N.name j) u.0)) u.1;
            plain = λ z p. let q = page-of z (sym length-after) p in rw (e.attributes z (there z q), e.rights z (there z q)) (v.plain z q);
          }
      go (split q s') t c e =
          let two = ready.offered.two in
          let x : Numbers (suc h) (suc h) (N.name W.1) = numbers-split q s' t in
          let P : ℕ = (take_page s.after s').page.0 in
          let named : P ≡ N.name W.1 = ap (λ (y : Taken). y.page.0) (new-taken q s' t) in
          let top : P ≡ N.name (suc h) = named ∙ ap N.name c.0 in
          let few : (grown_by k N h b key r).2 ≡ suc full_run = rw (eq-eqb full_run (suc h) x.splits) at needed.0 in
          let f : links_after ≡ clear_links no_page P (relink path N.name (suc h) (links_of b)) =
          relinked-split (grown_by k N h b key r) P x.height_is (x.root_is ∙ sym named)
          ∙ ap (λ (m : ℕ). clear_links no_page P (relink path N.name m (links_of b))) x.splits in
          let v = c.1 in
          let low : (z : ℕ) → is_page (length b) z ≡ true → count_at s.after z ≤ capacity k → count_at b'' z ≤ capacity k =
          λ z p u. rw (e.counts z (there z p)) (one_of (λ m. m ≤ capacity k) (eqb z P) 2 (count_at s.after z) two u) in
          record {
            links = λ z p. (
              e.lefts z (there z p) ∙ ap (cond (eqb z P) no_page) (v.lefts z p) ∙ ap (λ (l : Links). l.left z) (sym f),
              e.rights z (there z p) ∙ ap (cond (eqb z P) no_page) (v.rights z p) ∙ ap (λ (l : Links). l.right z) (sym f),
            );
            rising = rises x.height_is (x.root_is ∙ ap N.name c.0) x.splits
                (λ z p. e.attributes z (there z p) ∙ ap (cond (eqb z P) 1) (v.attributes z p)
                ∙ ap (λ (y : ℕ). cond (eqb z y) 1 (unrooted path N.name (suc h) (attribute_at b) z)) top);
            counts = λ z p u. low z p (v.counts z p u);
            new_counts = λ j l. either (eqb j (suc h))
                (λ y. let same : j ≡ suc h = eqb-true j (suc h) y in
                let page : is_page (length b) (N.name (suc h)) ≡ true = rw (← c.0) (new-usable q s' t).0 in
                rw (same, e.counts (N.name (suc h)) (there (N.name (suc h)) page), eq-eqb (N.name (suc h)) P (sym top)) two)
                (λ y. let u = v.new_counts j (omega (arith, x.splits, eqb-false j (suc h) y)) in low (N.name j) u.0 u.1);
            plain = λ z p. let w = page-of z (sym length-after) p in (
              rw (e.attributes z (there z w)) (one_of (λ m. m < 2 ^ 16) (eqb z P) 1 (attribute_at s.after z) (omega arith) (v.plain z w).0),
              rw (e.rights z (there z w)) (one_of (λ m. m < 2 ^ 32) (eqb z P) no_page (right_at s.after z) (omega arith) (v.plain z w).1),
            );
          }
