-- Laws: attributes, links and counts of all pages, and the header, after insertion's steps on bytes: the lowest pages of the path were split, and no other head
-- changed. Cited by the laws of the whole buffer. Assumes nothing.
use Rattle.std.specs.Prelude.{◌≡◌, Bool, true, false, cond, length, take, drop, leb, ltb, eqb}
use Rattle.std.proofs.Math.Path.{refl, sym, ap}
use Rattle.std.proofs.Common.{◌∙◌, subst, arith, length-take, length-drop, leb-true, lt-ltb, eqb-true, eq-eqb, ne_eqb}
use mathlib.Core.List.{List, [], ◌∷◌, map}
use Prim.Native.Nat.{ℕ, zero, suc, ◌+◌, ◌^◌, ◌≤◌, ◌<◌}
use Rattle.std.proofs.lemmas.Bool.{eqb-false}
use Rattle.basis.specs.Lists.{All}
use Rattle.basis.specs.Tests.{either}
use Rattle.octets.specs.Bytes.{to_be32}
use Rattle.octets.specs.NumberLaws.{le16-small, le32-small}
use Rattle.tree.specs.Keeping.{Route}
use Rattle.tree.specs.Lists.{half}
use Rattle.tree.specs.Order.{larger}
use Rattle.tree.specs.Pairs.{last_key, insert_pair}
use Rattle.tree.specs.Position.{choose}
use Rattle.tree.specs.Relinking.{path_page_under, relink}
use Rattle.tree.specs.Room.{at_chosen}
use Rattle.tree.proofs.RouteLaws.{choose_map}
use Rattle.tree.specs.Store.{Store, read_entry, read_tree}
use Rattle.tree.proofs.Store.RouteLaws.{route-read}
use Rattle.tree.specs.Store.Steps.{StoreReplacement, store_split_if_over, store_insert_among}
use Rattle.tree.specs.Tree.{Tree}
use Rattle.idx_page.specs.Header.{features, is_page}
use Rattle.idx_page.specs.KeyOrder.{bytes_order}
use Rattle.idx_page.specs.Page.{attribute_at, count_at, left_at, right_at, capacity}
use Rattle.idx_page.specs.Reading.{Item, numbered}
use Rattle.idx_page.specs.EntryOrder.{item_order}
use Rattle.idx_supply.specs.declared.Supply.{Supply}
use Rattle.idx_supply.specs.Supply.{supply_of, take_page}
use Rattle.idx_leaf.specs.Leaf.{items_in, stored, item_of}
use Rattle.idx_route.specs.Route.{chosen_at, child_of}
use Rattle.idx_layout.specs.Layout.{with_entries, without_root, split_page}
use Rattle.idx_entries.specs.Entries.{replaced, raised, two_for}
use Rattle.idx_leaf.specs.ItemLaws.{Fit}
use Rattle.idx_leaf.specs.EntryLaws.{items_in_fit}
use Rattle.idx_entries.proofs.FitLaws.{length-insert, length-replaced, pair_fit, two-fit}
use Rattle.idx_sound.specs.Sound.{links_of, kept_by}
use Rattle.idx_insert_page.specs.Insertion.{Outcome, kept, split, bad, Step, take_in, after_child, insert_under}
use Rattle.idx_layout_laws.specs.EntryLaws.{entries_in, page-of, items-few}
use Rattle.idx_layout_laws.specs.HeadLaws.{Head, SameHead, SameHeader, with_head, with_header, raised-head, raised-header, split-head, split-header}
use Rattle.idx_insert_laws.specs.ItemLists.{passes, Shaped}
use Rattle.idx_layout_laws.specs.OtherPages.{unchanged}
use Rattle.idx_insert_laws.specs.Naming.{Naming, Usable, Untaken, next_of, Supplied}
use Rattle.idx_insert_laws.specs.InsertionEntries.{OutcomeIs, Offered, under, replacement, Inserts, Free, own-page, inserts, items_longer, among_leaf}
use Rattle.idx_insert_laws.specs.InsertionEntries.{kept_case, split-case, number, child, child_page, child_among, child-free, child-page-shaped}
use Rattle.idx_insert_laws.specs.InsertionEntries.{child-rest, page_is, child-numbered, child-within}

-- attributes and right links that are numbers of two and four bytes
abbrev pub Plain : List ℕ → Type 0
Plain b = (z : ℕ) → is_page (length b) z ≡ true → (attribute_at b z < 2 ^ 16) × (right_at b z < 2 ^ 32)

pub octets_plain : (b : List ℕ) → All (λ x. x < 256) b → Plain b
octets_plain b a z t = (le16-small b a z, le32-small b a (z + 8))

-- the attributes after the lowest m pages of a path were split: both halves without the root bit
abbrev pub unrooted : (ℕ → ℕ) → (ℕ → ℕ) → ℕ → (ℕ → ℕ) → ℕ → ℕ
unrooted path name zero A z = A z
unrooted path name (suc m) A z =
    let a : ℕ = without_root (unrooted path name m A (path m)) in
    cond (eqb z (name m)) a (cond (eqb z (path m)) a (unrooted path name m A z))

-- b' is b after m splits along a path, from the leaf up, and no other change of heads: `path j` is the page of level j
pub record Heads (k : ℕ) (N : Naming) (path : ℕ → ℕ) (m : ℕ) (b b' : List ℕ) : Type 0 where
  pub lefts : (z : ℕ) → is_page (length b) z ≡ true → left_at b' z ≡ (relink path N.name m (links_of b)).left z
  pub rights : (z : ℕ) → is_page (length b) z ≡ true → right_at b' z ≡ (relink path N.name m (links_of b)).right z
  pub attributes : (z : ℕ) → is_page (length b) z ≡ true → attribute_at b' z ≡ unrooted path N.name m (attribute_at b) z
  -- counts that are within the capacity stay so, and the new pages' are
  pub counts : (z : ℕ) → is_page (length b) z ≡ true → count_at b z ≤ capacity k → count_at b' z ≤ capacity k
  pub new_counts : (j : ℕ) → j < m → (is_page (length b) (N.name j) ≡ true) × (count_at b' (N.name j) ≤ capacity k)
  pub header : SameHeader b b'
  pub plain : (z : ℕ) → is_page (length b) z ≡ true → (attribute_at b' z < 2 ^ 16) × (right_at b' z < 2 ^ 32)

-- a step that changes no attribute and no link, and keeps counts within the capacity
record EntriesOnly (k : ℕ) (b b' : List ℕ) : Type 0 where
  attribute : (z : ℕ) → is_page (length b) z ≡ true → attribute_at b' z ≡ attribute_at b z
  left : (z : ℕ) → is_page (length b) z ≡ true → left_at b' z ≡ left_at b z
  right : (z : ℕ) → is_page (length b) z ≡ true → right_at b' z ≡ right_at b z
  counts : (z : ℕ) → is_page (length b) z ≡ true → count_at b z ≤ capacity k → count_at b' z ≤ capacity k
  header : SameHeader b b'

-- a property of both arms is one of the arm that a test gives
pub one_of : (P : ℕ → Type 0) (s : Bool) (x y : ℕ) → P x → P y → P (cond s x y)
one_of P true x y i j = i
one_of P false x y i j = j

module _ (k : ℕ) where
  with_only : (b : List ℕ) (p : ℕ) (es : List Item) → is_page (length b) p ≡ true → All (Fit k) es → length es ≤ capacity k
      → EntriesOnly k b (with_entries b p es)
  with_only b p es tp f few =
      let h : (z : ℕ) → is_page (length b) z ≡ true → Head (with_entries b p es) z (attribute_at b z) (cond (eqb z p) (length es) (count_at b z))
      (left_at b z) (right_at b z) = with_head k b p es tp f few in
      record {
        attribute = λ z t. (h z t).attribute_is;
        left = λ z t. (h z t).left_is;
        right = λ z t. (h z t).right_is;
        counts = λ z t c. rw (h z t).count_is (one_of (λ n. n ≤ capacity k) (eqb z p) (length es) (count_at b z) few c);
        header = with_header k b p es tp f few;
      }

  raised_only : (b key : List ℕ) (p i : ℕ) → is_page (length b) p ≡ true → length key ≡ k → EntriesOnly k b (raised k b key p i)
  raised_only b key p i tp long =
      let h : (z : ℕ) → is_page (length b) z ≡ true → SameHead b (raised k b key p i) z = raised-head k b key p i tp long in
      record {
        attribute = λ z t. (h z t).attribute_is;
        left = λ z t. (h z t).left_is;
        right = λ z t. (h z t).right_is;
        counts = λ z t c. rw (h z t).count_is c;
        header = raised-header k b key p i tp long;
      }

module _ (k : ℕ) (N : Naming) (path : ℕ → ℕ) (b : List ℕ) where
  heads-none : Plain b → Heads k N path 0 b b
  heads-none plain = record {
    lefts = λ z t. refl;
    rights = λ z t. refl;
    attributes = λ z t. refl;
    counts = λ z t c. c;
    new_counts = λ j l. absurd (omega arith);
    header = refl;
    plain = plain;
  }

  heads-entries : (m : ℕ) (b' b'' : List ℕ) → length b' ≡ length b → Heads k N path m b b' → EntriesOnly k b' b'' → Heads k N path m b b''
  heads-entries m b' b'' n v q =
      let here : (z : ℕ) → is_page (length b) z ≡ true → is_page (length b') z ≡ true = λ z t. page-of z n t in
      record {
        lefts = λ z t. q.left z (here z t) ∙ v.lefts z t;
        rights = λ z t. q.right z (here z t) ∙ v.rights z t;
        attributes = λ z t. q.attribute z (here z t) ∙ v.attributes z t;
        counts = λ z t c. q.counts z (here z t) (v.counts z t c);
        new_counts = λ j l. let c = v.new_counts j l in (c.0, q.counts (N.name j) (here (N.name j) c.0) c.1);
        header = q.header ∙ v.header;
        plain = λ z t. rw (q.attribute z (here z t), q.right z (here z t)) (v.plain z t);
      }

  -- one page more is split
  heads-split : (m : ℕ) (b' : List ℕ) (es : List Item) → Usable b (path m) → Usable b (N.name m) → (path m ≡ N.name m → ⊥)
      → All (Fit k) es → 1 < capacity k → length es ≤ suc (capacity k) → length b' ≡ length b
      → Heads k N path m b b' → Heads k N path (suc m) b (split_page b' (path m) es (N.name m))
  heads-split m b' es tp tq ne f two few n v =
      let p = path m in
      let q = N.name m in
      let here : (z : ℕ) → is_page (length b) z ≡ true → is_page (length b') z ≡ true = λ z t. page-of z n t in
      let pp = v.plain p tp.0 in
      let i = half (length es) in
      let lower : length (take i es) ≤ capacity k = simp length-take (omega arith) in
      let upper : length (drop i es) ≤ capacity k = simp length-drop (omega arith) in
      let s : (z : ℕ) → is_page (length b) z ≡ true
      → Head (split_page b' p es q) z
      (cond (eqb z q) (without_root (attribute_at b' p)) (cond (eqb z p) (without_root (attribute_at b' p)) (attribute_at b' z)))
      (cond (eqb z q) (length (drop i es)) (cond (eqb z p) (length (take i es)) (count_at b' z)))
      (cond (eqb z q) p (cond (eqb z (right_at b' p)) q (left_at b' z)))
      (cond (eqb z p) q (cond (eqb z q) (right_at b' p) (right_at b' z))) =
      λ z t. split-head k b' p es q (here p tp.0) (here q tq.0) ne f two few tp.1 tq.1 pp.0 pp.1 z (here z t) in
      let few-there : (z : ℕ) → is_page (length b) z ≡ true → count_at b' z ≤ capacity k → count_at (split_page b' p es q) z ≤ capacity k =
      λ z t c. rw (s z t).count_is (one_of (λ n. n ≤ capacity k) (eqb z q) (length (drop i es)) _ upper
      (one_of (λ n. n ≤ capacity k) (eqb z p) (length (take i es)) (count_at b' z) lower c)) in
      let a : ℕ = without_root (attribute_at b' p) in
      let a16 : a < 2 ^ 16 = omega (arith, pp.0) in
      record {
        lefts = λ z t. (s z t).left_is ∙ rw (v.rights p tp.0, v.lefts z t);
        rights = λ z t. (s z t).right_is ∙ rw (v.rights p tp.0, v.rights z t);
        attributes = λ z t. (s z t).attribute_is ∙ rw (v.attributes p tp.0, v.attributes z t);
        counts = λ z t c. few-there z t (v.counts z t c);
        new_counts = λ j l. either (eqb j m)
            (λ e. let same : j ≡ m = eqb-true j m e in rw same (tq.0, rw ((s q tq.0).count_is, eq-eqb q q refl) upper))
            (λ e. let c = v.new_counts j (omega (arith, eqb-false j m e)) in (c.0, few-there (N.name j) c.0 c.1));
        header = split-header k b' p es q (here p tp.0) (here q tq.0) ne f two few tp.1 tq.1 pp.0 pp.1 ∙ v.header;
        plain = λ z t. (
          rw (s z t).attribute_is (one_of (λ n. n < 2 ^ 16) (eqb z q) a _ a16 (one_of (λ n. n < 2 ^ 16) (eqb z p) a (attribute_at b' z) a16 (v.plain z t).0)),
          rw (s z t).right_is (one_of (λ n. n < 2 ^ 32) (eqb z p) q _ tq.1
              (one_of (λ n. n < 2 ^ 32) (eqb z q) (right_at b' p) (right_at b' z) pp.1 (v.plain z t).1)),
        );
      }

-- n pages were split: at a page with h levels under it that is split, one on each level up to it
abbrev pub HeadsAfter : ℕ → Naming → (ℕ → ℕ) → ℕ → List ℕ → ℕ → Outcome → List ℕ → Type 0
HeadsAfter k N path h b n (kept s) b' = Heads k N path n b b'
HeadsAfter k N path h b n (split q s) b' = (n ≡ suc h) × Heads k N path (suc h) b b'
HeadsAfter k N path h b n bad b' = ⊥

-- the page of the path on the level of a page, and on the levels below it
path-own : (route : Route (List ℕ)) (h : ℕ) (a : List ℕ) (t : Tree (List ℕ) h) → path_page_under route h (suc h) (a, t) ≡ t.0
path-own route h a t = rw (eq-eqb h h refl)

path-below : (k : ℕ) (key b : List ℕ) (r h j p : ℕ) (a : List ℕ) (y : Item) (ys : List Item) → items_in k b p ≡ y ∷ ys → (j ≡ suc h → ⊥)
    → let i = chosen_at b (stored key r) (y ∷ ys) in
    choose (passes k b (key, r) (suc h)) (numbered y) (map numbered (y ∷ ys)) ≡ numbered (item_of i (y ∷ ys))
    → path_page_under ((kept_by b).route (key, r)) j (suc (suc h)) (a, read_tree (entries_in k b) (suc h) p)
    ≡ path_page_under ((kept_by b).route (key, r)) j (suc h)
    (larger bytes_order (item_of i (y ∷ ys)).0 key, read_tree (entries_in k b) h (child_of i (y ∷ ys)))
path-below k key b r h j p a y ys es ne chosen =
    let route : Route (List ℕ) = (kept_by b).route (key, r) in
    let S : Store (List ℕ) = entries_in k b in
    rw (ne_eqb j (suc h) ne)
    (ap (λ (l : List Item). at_chosen (route (suc h)) 0 (path_page_under route j (suc h)) (map (read_entry S (suc h)) (map numbered l))) es
    ∙ ap (path_page_under route j (suc h))
    (choose_map (read_entry S (suc h)) (passes k b (key, r) (suc h)) (route (suc h)) (route-read bytes_order (key, r) S (features b) (suc h))
    (numbered y) (map numbered (y ∷ ys)))
    ∙ ap (λ (e : List ℕ × ℕ). path_page_under route j (suc h) (read_entry S (suc h) e)) chosen)

module _ (k : ℕ) (N : Naming) (path : ℕ → ℕ) (two : 1 < capacity k) (b : List ℕ) (given : Supplied N b) where
  -- a page that gets entries, with h levels under it, after h pages were split: w is what the theory gathers for it
  take_in_heads : (h : ℕ) (b' : List ℕ) (p : ℕ) (a : List ℕ) (w : StoreReplacement (List ℕ)) (es : List Item) (s : Supply) → p ≡ path h → s ≡ N.left h
      → w.1 ≡ h → Usable b p → length b' ≡ length b → All (Fit k) es → length es ≤ suc (capacity k) → ((j : ℕ) → p ≡ N.name j → ⊥) → Untaken N h b b'
      → ((j : ℕ) → j < (store_split_if_over (capacity k) N.name a p w).1 → Usable b (N.name j))
      → OutcomeIs N a p (take_in k b' p es s).outcome (store_split_if_over (capacity k) N.name a p w) → Heads k N path h b b'
      → HeadsAfter k N path h b (store_split_if_over (capacity k) N.name a p w).1 (take_in k b' p es s).outcome (take_in k b' p es s).after
  unfolding take_in
  take_in_heads h b' p a w es s ep en ew tp lb f few ne un room t v =
      let W : StoreReplacement (List ℕ) = store_split_if_over (capacity k) N.name a p w in
      let new : take_page b' s ≡ next_of N h = ap (take_page b') en ∙ given.takes h b' lb un in
      either (leb (length es) (capacity k))
      (λ e. let told : OutcomeIs N a p (kept s) W = rw e at t in
      rw (e, kept_case (capacity k) N.name a p w (a, p) told.1, ew)
      (heads-entries k N path b h b' (with_entries b' p es) lb v (with_only k b' p es (page-of p lb tp.0) f (leb-true (length es) (capacity k) e))))
      (λ e. either (is_page (length b') (N.name h))
      (λ u. let told : OutcomeIs N a p (split (N.name h) (N.left (suc h))) W = rw (e, new, u) at t in
      let many : W.1 ≡ suc h = (split-case (capacity k) N.name a p w (last_key a (W.2 p), p) (a, N.name h) told.1).1 ∙ ap suc ew in
      rw (e, new, u) (many, rw ep (heads-split k N path b h b' es (rw (← ep) tp) (room h (omega arith)) (rw (← ep) (ne h)) f two few lb v)))
      (λ u. absurd (rw (e, new, u) at t)))

module _ (k : ℕ) (N : Naming) (key : List ℕ) (r : ℕ) (b : List ℕ) (o : Offered k N key r b) (path : ℕ → ℕ) (plain : Plain b) where
  -- a page above, after the step at its child at c: v is the theory's replacement for the child, w what the theory gathers for the page
  after-child-heads : (h : ℕ) (b' : List ℕ) (p : ℕ) (a A : List ℕ) (i c : ℕ) (out : Outcome) (v w : StoreReplacement (List ℕ))
      → OutcomeIs N A c out v → HeadsAfter k N path h b v.1 out b' → w.1 ≡ v.1 → length b' ≡ length b → Untaken N v.1 b b'
      → i < length (items_in k b' p) → p ≡ path (suc h) → Usable b p → ((j : ℕ) → p ≡ N.name j → ⊥)
      → ((j : ℕ) → j < (store_split_if_over (capacity k) N.name a p w).1 → Usable b (N.name j))
      → OutcomeIs N a p (after_child k b' key p i c out).outcome (store_split_if_over (capacity k) N.name a p w)
      → HeadsAfter k N path (suc h) b (store_split_if_over (capacity k) N.name a p w).1 (after_child k b' key p i c out).outcome
      (after_child k b' key p i c out).after
  after-child-heads h b' p a A i c (kept s) v w told x ew lb un inside ep tp ne room t =
      rw (kept_case (capacity k) N.name a p w (a, p) t.1, ew)
      (heads-entries k N path b v.1 b' (raised k b' key p i) lb x (raised_only k b' key p i (page-of p lb tp.0) o.long))
  after-child-heads h b' p a A i c bad v w told x ew lb un inside ep tp ne room t = absurd x
  after-child-heads h b' p a A i c (split q s) v w told x ew lb un inside ep tp ne room t =
      let es : List Item = replaced i (two_for k b' key c q) (items_in k b' p) in
      let le : length es ≡ 1 + length (items_in k b' p) = length-replaced i (two_for k b' key c q) 1 (λ e. refl) (items_in k b' p) inside in
      let test : ltb i (length (items_in k b' p)) ≡ true = lt-ltb i (length (items_in k b' p)) inside in
      rw test (take_in_heads k N path o.two b o.supplied (suc h) b' p a w es s ep (told.0 ∙ ap N.left x.0) (ew ∙ x.0) tp lb
      (two-fit k b' key o.long i c q (items_in k b' p) inside (items_in_fit k b' p)) (omega (arith, items-few k b' p)) ne (rw x.0 at un) room
      (rw test at t) x.1)

  -- the heads after insertion's step at the page at p
  abbrev Goes : ℕ → ℕ → List ℕ → ℕ → Type 0
  Goes h left a p =
      let d : Step = insert_under k left b (stored key r) p (supply_of b) in
      HeadsAfter k N path h b (replacement k N key r b h a p).1 d.outcome d.after

  abbrev OnPath : ℕ → List ℕ → ℕ → Type 0
  OnPath h a p = (j : ℕ) → j ≤ h → path j ≡ path_page_under ((kept_by b).route (key, r)) j (suc h) (a, read_tree (entries_in k b) h p)

  -- Theorem: insertion's step splits the lowest pages of the path to the key, and changes no other head
  pub insert-heads : (h left p : ℕ) (a : List ℕ) → h < left → Shaped k h b p → Free k N key r b h a p → OnPath h a p → Goes h left a p
  unfolding insert_under
  insert-heads zero zero p a l f u x = absurd (omega arith)
  insert-heads (suc h) zero p a l f u x = absurd (omega arith)
  insert-heads zero (suc left) p a l f u x =
      let es : List Item = insert_pair (item_order (features b)) (stored key r) (items_in k b p) in
      let w : StoreReplacement (List ℕ) =
      store_insert_among (kept_by b) (passes k b (key, r)) (key, r) zero (under k N key r b zero) (entries_in k b p) 0 (entries_in k b) in
      let t : OutcomeIs N a p (take_in k b p es (supply_of b)).outcome (store_split_if_over (capacity k) N.name a p w) =
      rw (f.0.0, f.1) at (inserts k N key r b o zero (suc left) p a l f u).told in
      let none : w.1 ≡ 0 = ap (λ (y : StoreReplacement (List ℕ)). y.1) (among_leaf k b (key, r) (entries_in k b) (capacity k) N.name (entries_in k b p)) in
      rw (f.0.0, f.1)
      (take_in_heads k N path o.two b o.supplied zero b p a w es (supply_of b)
      (sym (path-own ((kept_by b).route (key, r)) zero a (read_tree (entries_in k b) zero p)) ∙ sym (x zero (omega arith))) o.supplied.starts none f.0 refl
      (pair_fit k b key o.long (item_order (features b)) r p)
      (omega (arith, items-few k b p, length-insert (item_order (features b)) (stored key r) (items_in k b p)))
      (own-page k N key r b zero a p u) (λ j i y. unchanged b (N.name j)) u.2 t
      (heads-none k N path b plain))
  insert-heads (suc h) (suc left) p a l f u x = go (λ c y g w. insert-heads h left c y (omega arith) g w) (items_in k b p) refl
    where
      UpperGoes : List Item → Type 0
      UpperGoes es =
          let i : ℕ = chosen_at b (stored key r) es in
          let d : Step = insert_under k left b (stored key r) (child_of i es) (supply_of b) in
          HeadsAfter k N path (suc h) b (replacement k N key r b (suc h) a p).1 (after_child k d.after key p i (child_of i es) d.outcome).outcome
          (after_child k d.after key p i (child_of i es) d.outcome).after

      go : ((c : ℕ) (y : List ℕ) → Shaped k h b c → Free k N key r b h y c → OnPath h y c → Goes h left y c) → (es : List Item) → items_in k b p ≡ es
          → Goes (suc h) (suc left) a p
      go rec [] e = absurd (rw e at f.2)
      go rec (y ∷ ys) e =
          let i : ℕ = number k N key r b o h p a y ys e u f in
          let c : ℕ = child_page k N key r b o h p a y ys e u f in
          let A : List ℕ = larger bytes_order (child k N key r b o h p a y ys e u f).0 key in
          let v : StoreReplacement (List ℕ) = replacement k N key r b h A c in
          let w : StoreReplacement (List ℕ) =
          store_insert_among (kept_by b) (passes k b (key, r)) (key, r) (suc h) (under k N key r b (suc h)) (entries_in k b p) 0 (entries_in k b) in
          let ew : w.1 ≡ v.1 = sym (ap (λ (y : StoreReplacement (List ℕ)). y.1) (child_among k N key r b o h p a y ys e u f)) in
          let free = child-free k N key r b o h p a y ys e u f in
          let shaped : Shaped k h b c = child-page-shaped k N key r b o h p a y ys e u f in
          let below : Inserts k N key r b h left A c = inserts k N key r b o h left c A (omega arith) shaped free in
          let d : Step = insert_under k left b (stored key r) c (supply_of b) in
          let on : OnPath h A c = λ j i. x j (omega arith) ∙ path-below k key b r h j p a y ys e (λ q. omega arith)
          (child-numbered k N key r b o h p a y ys e u f) in
          let there : entries_in k d.after p ≡ map numbered (y ∷ ys) = child-rest k N key r b o h p a y ys e u f left below in
          let t : OutcomeIs N a p (after_child k d.after key p i c d.outcome).outcome (replacement k N key r b (suc h) a p) =
          (page_is k N key r b o h p a y ys e u f left f.0.0 below).told in
          rw (f.0.0, f.1) (subst UpperGoes (sym e)
          (after-child-heads h d.after p a A i c d.outcome v w below.told (rec c A shaped free on) ew below.as_long below.untaken
          (items_longer k d.after p (y ∷ ys) there (child-within k N key r b o h p a y ys e u f))
          (sym (path-own ((kept_by b).route (key, r)) (suc h) a (read_tree (entries_in k b) (suc h) p)) ∙ sym (x (suc h) (omega arith))) f.0
          (own-page k N key r b (suc h) a p u) u.2 t))
