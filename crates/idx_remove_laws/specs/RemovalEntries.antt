-- Laws: the entries of all pages after removal's steps on bytes are those after the theory's steps on the same entries. Cited by the laws of the whole buffer.
-- Assumes nothing.
use Rattle.std.specs.Prelude.{◌≡◌, refl, true, false, List, [], ◌∷◌, ◌++◌, map, eqb, ltb}
use Rattle.std.proofs.Common.{sym, ap, ◌∙◌, subst, arith, ltb-true, ltb-false, lt-ltb, eqb-true}
use Rattle.std.proofs.Math.Path.{fun_ext}
use Prim.Native.Nat.{ℕ, zero, suc, ◌≤◌, ◌<◌}
use Rattle.std.proofs.Math.ListN.{length}
use Rattle.std.proofs.lemmas.List.{length-map}
use Rattle.std.proofs.lemmas.Bool.{eqb-false}
use Rattle.basis.specs.Lists.{All, all_map}
use Rattle.basis.specs.Tests.{either}
use Rattle.tree.proofs.Insertion.Pages.{Distinct}
use Rattle.tree.specs.Lists.{NonEmpty, occ}
use Rattle.tree.proofs.ListLaws.{occ_append, occ-head, occ-behind, occ_not_head}
use Rattle.tree.specs.Removal.{replace_by, if_emptied}
use Rattle.tree.specs.Store.{Store, read_tree}
use Rattle.tree.proofs.Store.InsertionLaws.{pages_of}
use Rattle.tree.proofs.Store.Laws.{write-here, write-other}
use Rattle.tree.specs.Store.Removal.{StoreRemoved, entry_unless_emptied, store_position, store_remove_among, store_remove_under, store_remove}
use Rattle.tree.proofs.Store.RemovalLaws.{remove-others}
use Rattle.tree.specs.Store.Steps.{write}
use Rattle.tree.specs.Tree.{pages}
use Rattle.idx_page.specs.Header.{max_levels, no_page, is_page}
use Rattle.idx_page.specs.Page.{attribute_at, leaf_bit, capacity}
use Rattle.idx_page.specs.Reading.{Item, numbered}
use Rattle.idx_leaf.specs.Leaf.{items_in, place_in}
use Rattle.idx_route.specs.Route.{chosen_at, child_of}
use Rattle.idx_layout.specs.Layout.{unlinked, freed}
use Rattle.idx_entries.specs.Entries.{without_entry}
use Rattle.idx_leaf.specs.ItemLaws.{Fit}
use Rattle.idx_leaf.specs.EntryLaws.{items_in_fit}
use Rattle.idx_entries.proofs.FitLaws.{without_all, length_without}
use Rattle.idx_remove_page.specs.Removal.{Outcome, kept, emptied, bad, Step, left_with, take_out, after_child, remove_under, at_root}
use Rattle.idx_layout_laws.specs.EntryLaws.{entries_in, Usable, page-of, items-few, entries_with, length_with, entries-new}
use Rattle.idx_layout_laws.specs.FreeLaws.{length-unlinked, length-freed, entries-unlinked, entries-freed}
use Rattle.idx_insert_laws.specs.ItemLists.{Shaped}
use Rattle.idx_remove_laws.specs.EntryLists.{route_of, entry_at, leaf_is, leaf-inside, route_is, route-inside}
use Rattle.idx_remove_laws.specs.EntryLists.{entry-numbered, without-numbered, member_is, replace_same, entry-all, entry-pages}

-- what an outcome says of the entries that a page is left with
abbrev pub OutcomeIs : Outcome → List (List ℕ × ℕ) → Type 0
OutcomeIs kept es = NonEmpty es
OutcomeIs emptied es = es ≡ []
OutcomeIs bad es = ⊥

-- a step at the page at p leaves the entries of the store T, in a buffer of `size` bytes, and its outcome says what the page is left with
pub record StepIs (k size p : ℕ) (s : Step) (T : Store (List ℕ)) : Type 0 where
  pub entries : entries_in k s.after ≡ T
  pub as_long : length s.after ≡ size
  pub told : OutcomeIs s.outcome (T p)

-- a store whose page p gets what it has
write_same : (S : Store (List ℕ)) (p : ℕ) (es : List (List ℕ × ℕ)) → S p ≡ es → write S p es ≡ S
write_same S p es e = fun_ext (λ z. either (eqb z p) (λ u. rw u (sym (ap S (eqb-true z p u) ∙ e))) (λ u. rw u))

left-with : (es : List Item) → OutcomeIs (left_with es) (map numbered es)
left-with [] = refl
left-with (x ∷ xs) = tt

-- the theory's removal by the route of an entry, from the page at p with h levels under it: the pages emptied, and the store
module _ (b : List ℕ) (item : Item) (S : Store (List ℕ)) where
  abbrev pub emptied_from : (h p : ℕ) → List ℕ
  emptied_from h p = (store_remove (route_of b item) h p S).2

  abbrev pub store_after : (h p : ℕ) → Store (List ℕ)
  store_after h p = (store_remove (route_of b item) h p S).3

  -- among the entries of a page, of which entry i is gone through
  among_is : (h i : ℕ) (es : List (List ℕ × ℕ)) (g : List ℕ × ℕ → StoreRemoved (List ℕ)) → store_position (route_of b item) h S es ≡ i → i < length es
      → store_remove_among (route_of b item) h g es S ≡ (replace_by i (λ x. (g (entry_at i es)).0) es, (g (entry_at i es)).1, (g (entry_at i es)).2)
  among_is h i es g e l = rw (e, member_is i es l)

  -- from a leaf, and from a page above
  module _ (i p : ℕ) (l : i < length (S p)) where
    leaf-after : store_position (route_of b item) zero S (S p) ≡ i → store_after zero p ≡ write S p (replace_by i (λ x. []) (S p))
    leaf-after e = ap (λ (w : StoreRemoved (List ℕ)). write w.2 p w.0) (among_is zero i (S p) (λ c. ([], [], S)) e l)

    pub leaf-emptied : store_position (route_of b item) zero S (S p) ≡ i → emptied_from zero p ≡ []
    leaf-emptied e = ap (λ (w : StoreRemoved (List ℕ)). w.1) (among_is zero i (S p) (λ c. ([], [], S)) e l)

    module _ (h : ℕ) (e : store_position (route_of b item) (suc h) S (S p) ≡ i) where
      abbrev child : List ℕ × ℕ
      child = entry_at i (S p)

      abbrev child_left : List (List ℕ × ℕ)
      child_left = (store_remove_among (route_of b item) h (λ c. store_remove_under (route_of b item) h c S) (S child.1) S).0

      child-left : store_after h child.1 child.1 ≡ child_left
      child-left =
          write-here (store_remove_among (route_of b item) h (λ c. store_remove_under (route_of b item) h c S) (S child.1) S).2 child.1 child_left

      upper-after : store_after (suc h) p ≡ write (store_after h child.1) p
          (replace_by i (λ x. entry_unless_emptied child.0 child.1 (store_after h child.1 child.1)) (S p))
      upper-after = rw child-left
          (ap (λ (w : StoreRemoved (List ℕ)). write w.2 p w.0)
          (among_is (suc h) i (S p) (λ c. store_remove_under (route_of b item) (suc h) c S) e l))

      pub upper-emptied : emptied_from (suc h) p ≡ emptied_from h child.1 ++ if_emptied child.1 (store_after h child.1 child.1)
      upper-emptied = rw child-left
          (ap (λ (w : StoreRemoved (List ℕ)). w.1) (among_is (suc h) i (S p) (λ c. store_remove_under (route_of b item) (suc h) c S) e l))

module _ (k : ℕ) where
  -- entry i goes from the page at p
  taken : (b : List ℕ) (p i : ℕ) → is_page (length b) p ≡ true → i < length (items_in k b p)
      → StepIs k (length b) p (take_out k b p i) (write (entries_in k b) p (replace_by i (λ x. []) (entries_in k b p)))
  unfolding take_out
  taken b p i tp l =
      let es = items_in k b p in
      let fewer = without_entry i es in
      let few : length fewer ≤ capacity k = omega (arith, length_without i es l, items-few k b p) in
      rw (lt-ltb i (length es) l, ← without-numbered i es) (record {
        entries = entries_with k b p fewer tp (without_all (Fit k) i es (items_in_fit k b p)) few;
        as_long = length_with k b p fewer;
        told = rw (write-here (entries_in k b) p (map numbered fewer)) (left-with fewer);
      })

  -- the page at c is unlinked and joins the free list
  length-out : (b : List ℕ) (c : ℕ) → length (freed (unlinked b c) c) ≡ length b
  length-out b c = length-freed (unlinked b c) c ∙ length-unlinked b c

  entries-out : (b : List ℕ) (c : ℕ) → is_page (length b) c ≡ true → entries_in k (freed (unlinked b c) c) ≡ write (entries_in k b) c []
  entries-out b c t = entries-freed k (unlinked b c) c (page-of c (length-unlinked b c) t) ∙ ap (λ (S : Store (List ℕ)). write S c []) (entries-unlinked k b c)

  -- the page at p after the step at its child at c, which is under entry i and the key a, and which left the store T
  module _ (b : List ℕ) (p i c : ℕ) (a : List ℕ) (T : Store (List ℕ)) (tp : is_page (length b) p ≡ true) (tc : is_page (length b) c ≡ true)
      (left : entries_in k b ≡ T) (l : i < length (T p)) (e : entry_at i (T p) ≡ (a, c)) where
    abbrev store_above : Store (List ℕ)
    store_above = write T p (replace_by i (λ x. entry_unless_emptied a c (T c)) (T p))

    above_kept : NonEmpty (T c) → store_above ≡ T
    above_kept s = go (T c) refl s
      where
        go : (es : List (List ℕ × ℕ)) → T c ≡ es → NonEmpty es → store_above ≡ T
        go [] q s = absurd s
        go (y ∷ ys) q s = rw (q, ← e) (write_same T p (replace_by i (λ x. entry_at i (T p) ∷ []) (T p)) (sym (replace_same i (T p) l)))

    above-emptied : T c ≡ [] → store_above ≡ write T p (replace_by i (λ x. []) (T p))
    above-emptied q = rw q

    -- what the buffer reads as once the emptied child is free
    child-free : T c ≡ [] → entries_in k (freed (unlinked b c) c) ≡ T
    child-free q = entries-out b c tc ∙ rw left (write_same T c [] q)

    after-child_is : (o : Outcome) → OutcomeIs o (T c) → StepIs k (length b) p (after_child k b p i c o) store_above
    after-child_is kept s = rw (above_kept s) (record { entries = left; as_long = refl; told = non_empty-inside (T p) i l })
      where
        non_empty-inside : (es : List (List ℕ × ℕ)) (i : ℕ) → i < length es → NonEmpty es
        non_empty-inside [] i l = absurd (omega arith)
        non_empty-inside (x ∷ xs) i l = tt
    after-child_is emptied q =
        let b' = freed (unlinked b c) c in
        let n : length b' ≡ length b = length-out b c in
        let own : entries_in k b' p ≡ T p = ap (λ (S : Store (List ℕ)). S p) (child-free q) in
        let inside : i < length (items_in k b' p) = rw (← length-map (items_in k b' p) numbered, own) l in
        let s = taken b' p i (page-of p n tp) inside in
        rw (above-emptied q) (record {
          entries = s.entries ∙ ap (λ (U : Store (List ℕ)). write U p (replace_by i (λ x. []) (U p))) (child-free q);
          as_long = s.as_long ∙ n;
          told = subst (λ (U : Store (List ℕ)). OutcomeIs (take_out k b' p i).outcome (write U p (replace_by i (λ x. []) (U p)) p)) (child-free q) s.told;
        })
    after-child_is bad f = absurd f

-- the page at p, with h levels under it, and every page under it is a page of the buffer, has the leaf bit at the bottom only, has entries, and no more levels
-- under it than an index may have
abbrev pub Filled : ℕ → (h : ℕ) → List ℕ → ℕ → Type 0
Filled k zero b p = Usable b p × (leaf_bit (attribute_at b p) ≡ true) × NonEmpty (entries_in k b p)
Filled k (suc h) b p =
    Usable b p × (leaf_bit (attribute_at b p) ≡ false) × NonEmpty (entries_in k b p) × All (λ e. Filled k h b e.1) (entries_in k b p) × (h < max_levels)

pub filled-page : (k h : ℕ) (b : List ℕ) (p : ℕ) → Filled k h b p → Usable b p
filled-page k zero b p f = f.0
filled-page k (suc h) b p f = f.0

-- so it has the shape that the route asks for
pub filled-shaped : (k h : ℕ) (b : List ℕ) (p : ℕ) → Filled k h b p → Shaped k h b p
filled-shaped k zero b p f = (f.0, f.1)
filled-shaped k (suc h) b p f =
    let shapes = all_map (λ e. Filled k h b e.1) (λ e. Shaped k h b e.1) (λ e g. filled-shaped k h b e.1 g) (entries_in k b p) f.3 in
    (f.0, f.1, f.2, shapes, f.4)

-- the entry that the route goes through, above the leaves
pub filled-route : (k : ℕ) (b : List ℕ) (item : Item) (h p : ℕ) → length item.0 ≡ k → Filled k (suc h) b p
    → store_position (route_of b item) (suc h) (entries_in k b) (entries_in k b p) ≡ chosen_at b item (items_in k b p)
filled-route k b item h p long f = route_is k b item h (items_in k b p) long f.4 (filled-shaped k (suc h) b p f).3

-- the pages of such a tree are pages of the buffer
module _ (k : ℕ) (b : List ℕ) (z : ℕ) where
  under-pages : (h : ℕ) → ((p : ℕ) → Filled k h b p → 0 < occ z (pages h (read_tree (entries_in k b) h p)) → is_page (length b) z ≡ true)
      → (es : List (List ℕ × ℕ)) → All (λ e. Filled k h b e.1) es → 0 < occ z (pages_of (entries_in k b) (suc h) es) → is_page (length b) z ≡ true
  under-pages h ok [] f o = absurd (omega arith)
  under-pages h ok (e ∷ es) f o =
      let here = pages h (read_tree (entries_in k b) h e.1) in
      let both = occ_append z here (pages_of (entries_in k b) (suc h) es) in
      either (ltb 0 (occ z here))
      (λ u. ok e.1 f.0 (ltb-true 0 (occ z here) u))
      (λ u. under-pages h ok es f.1 (omega (arith, ltb-false 0 (occ z here) u)))

  pub filled-pages : (h p : ℕ) → Filled k h b p → 0 < occ z (pages h (read_tree (entries_in k b) h p)) → is_page (length b) z ≡ true
  filled-pages zero p f o = either (eqb z p)
      (λ e. rw (eqb-true z p e) f.0.0)
      (λ e. let S = entries_in k b in
      let rest : 0 < occ z (pages_of S zero (S p)) = occ-behind z p (pages_of S zero (S p)) (eqb-false z p e) o in
      absurd (omega (arith, no_pages S (S p))))
    where
      no_pages : (S : Store (List ℕ)) (es : List (List ℕ × ℕ)) → occ z (pages_of S zero es) ≡ 0
      no_pages S [] = refl
      no_pages S (e ∷ es) = no_pages S es
  filled-pages (suc h) p f o = either (eqb z p)
      (λ e. rw (eqb-true z p e) f.0.0)
      (λ e. under-pages h (λ q g u. filled-pages h q g u) (entries_in k b p) f.3
      (occ-behind z p (pages_of (entries_in k b) (suc h) (entries_in k b p)) (eqb-false z p e) o))

some-items : (es : List Item) → NonEmpty (map numbered es) → 0 < length es
some-items [] s = absurd s
some-items (x ∷ xs) s = omega arith

module _ (k : ℕ) (item : Item) (b : List ℕ) where
  -- the entry that removal takes out of a leaf at p, and the one that it goes through at a page above, by their numbers
  abbrev pub place : ℕ → ℕ
  place p = place_in b item (items_in k b p)

  abbrev pub through : ℕ → ℕ
  through p = chosen_at b item (items_in k b p)

  abbrev pub below : ℕ → ℕ
  below p = (entry_at (through p) (entries_in k b p)).1

  -- removal's step at the page at p, with `left` levels left, is the theory's
  abbrev pub Removes : (h left p : ℕ) → Type 0
  Removes h left p = StepIs k (length b) p (remove_under k left b item p) (store_after b item (entries_in k b) h p)

  module _ (p : ℕ) (s : NonEmpty (entries_in k b p)) where
    pub some : 0 < length (items_in k b p)
    some = some-items (items_in k b p) s

    pub place_inside : place p < length (entries_in k b p)
    place_inside = rw (length-map (items_in k b p) numbered) (leaf-inside b item (items_in k b p) some)

    pub inside : through p < length (entries_in k b p)
    inside = rw (length-map (items_in k b p) numbered) (route-inside b item (items_in k b p) some)

    pub child_is : child_of (through p) (items_in k b p) ≡ below p
    child_is = ap (λ (e : List ℕ × ℕ). e.1) (sym (entry-numbered (through p) (items_in k b p)))

    -- the pages under the child are distinct, and the page at p is none of them, nor is it changed by the removal from the child
    module _ (h : ℕ) (d : Distinct (pages (suc h) (read_tree (entries_in k b) (suc h) p))) where
      pub child-distinct : Distinct (pages h (read_tree (entries_in k b) h (below p)))
      child-distinct z = omega (arith, d z, entry-pages (entries_in k b) (suc h) z (through p) (entries_in k b p) inside)

      pub child-apart : occ p (pages h (read_tree (entries_in k b) h (below p))) ≡ 0
      child-apart =
          let under = pages_of (entries_in k b) (suc h) (entries_in k b p) in
          omega (arith, d p, occ-head p under, entry-pages (entries_in k b) (suc h) p (through p) (entries_in k b p) inside)

      child-differs : p ≡ below p → ⊥
      child-differs e = occ_not_head p (below p) (pages_of (entries_in k b) h (entries_in k b (below p))) child-apart e

      own-kept : store_after b item (entries_in k b) h (below p) p ≡ entries_in k b p
      own-kept = remove-others (route_of b item) h (below p) (entries_in k b) child-distinct p child-apart

      -- the page at p has entry i still, once the child's step was made and the child freed
      pub still_inside : (s : Step) → StepIs k (length b) (below p) s (store_after b item (entries_in k b) h (below p)) → is_page (length b) (below p) ≡ true
          → through p < length (items_in k (freed (unlinked s.after (below p)) (below p)) p)
      still_inside s w tc =
          let c = below p in
          let b' = freed (unlinked s.after c) c in
          let own : entries_in k b' p ≡ entries_in k b p =
          ap (λ (T : Store (List ℕ)). T p) (entries-out k s.after c (page-of c w.as_long tc))
          ∙ write-other (entries_in k s.after) c [] p child-differs
          ∙ ap (λ (T : Store (List ℕ)). T p) w.entries
          ∙ own-kept in
          rw (← length-map (items_in k b' p) numbered, own) inside

  -- Theorem: removal's step at the page at p, with h levels under it, is the theory's
  pub removes : length item.0 ≡ k → (h left p : ℕ) → h < left → Filled k h b p → Distinct (pages h (read_tree (entries_in k b) h p)) → Removes h left p
  unfolding remove_under
  removes long zero zero p l f d = absurd (omega arith)
  removes long (suc h) zero p l f d = absurd (omega arith)
  removes long zero (suc left) p l f d =
      let S = entries_in k b in
      let es = items_in k b p in
      let more = some p f.2 in
      rw (f.0.0, f.1, leaf-after b item S (place p) p (place_inside p f.2) (leaf_is b item S es))
      (taken k b p (place p) f.0.0 (leaf-inside b item es more))
  removes long (suc h) (suc left) p l f d =
      rw (f.0.0, f.1) (subst UpperIs (sym (child_is p f.2)) (upper (λ c g o. removes long h left c (omega arith) g o)))
    where
      UpperIs : ℕ → Type 0
      UpperIs c =
          let s : Step = remove_under k left b item c in
          StepIs k (length b) p (after_child k s.after p (through p) c s.outcome) (store_after b item (entries_in k b) (suc h) p)

      upper : ((c : ℕ) → Filled k h b c → Distinct (pages h (read_tree (entries_in k b) h c)) → Removes h left c) → UpperIs (below p)
      upper rec =
          let S = entries_in k b in
          let c = below p in
          let s : Step = remove_under k left b item c in
          let under : Filled k h b c = entry-all (λ e. Filled k h b e.1) (through p) (S p) (inside p f.2) f.3 in
          let w : Removes h left c = rec c under (child-distinct p f.2 h d) in
          let own = own-kept p f.2 h d in
          let there : through p < length (store_after b item S h c p) = rw own (inside p f.2) in
          let entry : entry_at (through p) (store_after b item S h c p) ≡ ((entry_at (through p) (S p)).0, c) = ap (entry_at (through p)) own in
          let u = after-child_is k s.after p (through p) c (entry_at (through p) (S p)).0 (store_after b item S h c)
          (page-of p w.as_long f.0.0) (page-of c w.as_long (filled-page k h b c under).0) w.entries there entry s.outcome w.told in
          let same : store_after b item S (suc h) p
          ≡ store_above k s.after p (through p) c (entry_at (through p) (S p)).0 (store_after b item S h c)
          (page-of p w.as_long f.0.0) (page-of c w.as_long (filled-page k h b c under).0) w.entries there entry =
          upper-after b item S (through p) p (inside p f.2) h (filled-route k b item h p long f) ∙ rw own in
          rw same (record { entries = u.entries; as_long = u.as_long ∙ w.as_long; told = u.told })

  -- the root: it has what it is left with
  pub root_is : (p : ℕ) (s : Step) (T : Store (List ℕ)) → is_page (length b) p ≡ true → StepIs k (length b) p s T
      → entries_in k (at_root s.after p s.outcome) ≡ T
  root_is p s T tp w = go s.outcome w.told
    where
      go : (o : Outcome) → OutcomeIs o (T p) → entries_in k (at_root s.after p o) ≡ T
      go kept t = w.entries
      go emptied t =
          entries-new k s.after p 3 no_page no_page [] (page-of p w.as_long tp) tt (omega arith) ∙ rw w.entries (write_same T p [] t)
      go bad t = absurd t
