-- Laws: the path of a key in the bytes of a sound index is the theory's in the tree that they read as: its leaf says whether the key is there, and the rule for
-- refusal 30 is the theory's. Cited by the laws of insertion and by the claim about lists of calls. Assumes nothing.
use Rattle.std.specs.Prelude.{◌≡◌, refl, Bool, true, false, cond, ◌||◌, ◌&&◌, eqb, leb, ltb, length}
use Rattle.std.proofs.Common.{sym, ◌∙◌, add-zero, add-one, arith, ltb-true, ltb-false, lt-ltb, le-ltb}
use Rattle.std.proofs.Math.Path.{ap, subst}
use mathlib.Core.List.{List, [], ◌∷◌, map}
use Prim.Native.Nat.{ℕ, zero, suc, ◌+◌, ◌^◌, ◌<◌, min}
use Rattle.std.proofs.Math.ListN.{length-map}
use Rattle.basis.specs.Lists.{All}
use Rattle.basis.specs.Tests.{either}
use Rattle.octets.specs.Bytes.{to_be32}
use Rattle.octets.specs.NumberLaws.{be32-to_be32}
use Rattle.tree.specs.Index.{out_of_room}
use Rattle.tree.specs.Keeping.{Route}
use Rattle.tree.proofs.LeafLaws.{leaf-has}
use Rattle.tree.proofs.ClauseLaws.{sized-rooted}
use Rattle.tree.specs.Pairs.{has, present}
use Rattle.tree.specs.Room.{at_chosen, route_leaf, run}
use Rattle.tree.specs.Store.{Store}
use Rattle.tree.proofs.Store.LookupLaws.{leaf-read, run-read}
use Rattle.tree.proofs.Store.RouteLaws.{route-read}
use Rattle.tree.specs.Store.Steps.{store_leaf, store_run}
use Rattle.tree.specs.Supply.{size_after}
use Rattle.idx_page.specs.Header.{max_bytes, max_levels, root_offset, file_size, key_length, features}
use Rattle.idx_page.specs.HeaderLaws.{good-header}
use Rattle.idx_page.specs.KeyOrder.{bytes_order}
use Rattle.idx_page.specs.Page.{capacity}
use Rattle.idx_page.specs.Reading.{Item, numbered}
use Rattle.idx_page.specs.EntryOrder.{item_order}
use Rattle.idx_page.specs.ItemLaws.{present-numbered}
use Rattle.idx_leaf.specs.Leaf.{items_in, stored, item_of}
use Rattle.idx_route.specs.Route.{chosen_at, child_of}
use Rattle.idx_sound.specs.Sound.{index_tree, kept_by, Sound, leaf_pairs}
use Rattle.idx_sound.proofs.IndexLaws.{index_of, setting_of, sound-index}
use Rattle.idx_path.specs.declared.Path.{Path}
use Rattle.idx_path.specs.Room.{on_top, path_from, path_to, no_room}
use Rattle.idx_layout_laws.specs.EntryLaws.{entries_in}
use Rattle.idx_insert_laws.specs.Naming.{left_is, naming_of, supplied}
use Rattle.idx_insert_laws.specs.ItemLists.{passes, Shaped, child-shaped, chosen-numbered}
use Rattle.idx_insert_laws.specs.SoundReading.{sound-free, sound-tree, sound-shaped}

and_comm : (a b : Bool) → (a && b) ≡ (b && a)
and_comm true true = refl
and_comm true false = refl
and_comm false true = refl
and_comm false false = refl

-- one page more on top of a path
on-top : (full : Bool) (h d : ℕ) (there : Bool) → on_top full (record { levels = h; run = d; present = there })
    ≡ record { levels = suc h; run = cond (eqb d h && full) (suc d) d; present = there }
on-top full h d there = rw (add-one h, add-one d, and_comm full (eqb d h))

module _ (k : ℕ) (key : List ℕ) (r : ℕ) (b : List ℕ) where
  -- the path that the theory has from the page at p, with h levels under it
  abbrev path_of : ℕ → ℕ → Path
  path_of h p = record {
    levels = suc h;
    run = store_run (passes k b (key, r)) (capacity k) h p (entries_in k b);
    present = present (kept_by b).pair_le (key, r) (store_leaf (passes k b (key, r)) h p (entries_in k b));
  }

  module _ (long : length key ≡ k) (r32 : r < 2 ^ 32) where
    -- what f gives for the entry gone through, of a page with the entries y ∷ ys
    at-chosen : {B : Type 0} (z : B) (f : List ℕ × ℕ → B) (h p : ℕ) (y : Item) (ys : List Item) → items_in k b p ≡ y ∷ ys → h < max_levels
        → All (λ e. Shaped k h b e.1) (map numbered (y ∷ ys))
        → at_chosen (passes k b (key, r) (suc h)) z f (entries_in k b p) ≡ f (numbered (item_of (chosen_at b (stored key r) (y ∷ ys)) (y ∷ ys)))
    at-chosen z f h p y ys e l s =
        ap (λ (m : List Item). at_chosen (passes k b (key, r) (suc h)) z f (map numbered m)) e
        ∙ ap f (chosen-numbered k b key (to_be32 r) r long (be32-to_be32 r r32) h y ys l s)

    -- the path of a key from a page is the theory's
    path_is : (h left p : ℕ) → h < left → Shaped k h b p → path_from k left b (stored key r) p ≡ path_of h p
    unfolding path_from
    path_is zero zero p l f = absurd (omega arith)
    path_is (suc h) zero p l f = absurd (omega arith)
    path_is zero (suc left) p l f =
        let there : present (item_order (features b)) (stored key r) (items_in k b p) ≡ present (kept_by b).pair_le (key, r) (entries_in k b p) =
        present-numbered (features b) (stored key r) (items_in k b p)
        ∙ ap (λ (n : ℕ). present (kept_by b).pair_le (key, n) (entries_in k b p)) (be32-to_be32 r r32) in
        rw (f.0.0, f.1, length-map (items_in k b p) numbered, there)
        (on-top (leb (capacity k) (length (items_in k b p))) 0 0 (present (kept_by b).pair_le (key, r) (entries_in k b p)))
    path_is (suc h) (suc left) p l f = rw (f.0.0, f.1) (go (λ c g. path_is h left c (omega arith) g) (items_in k b p) refl)
      where
        go : ((c : ℕ) → Shaped k h b c → path_from k left b (stored key r) c ≡ path_of h c) → (es : List Item) → items_in k b p ≡ es
            → on_top (leb (capacity k) (length (items_in k b p)))
            (path_from k left b (stored key r) (child_of (chosen_at b (stored key r) (items_in k b p)) (items_in k b p))) ≡ path_of (suc h) p
        go rec [] e = absurd (rw e at f.2)
        go rec (y ∷ ys) e =
            let shapes : All (λ z. Shaped k h b z.1) (map numbered (y ∷ ys)) =
            subst (λ (m : List Item). All (λ z. Shaped k h b z.1) (map numbered m)) e f.3 in
            let c : ℕ = child_of (chosen_at b (stored key r) (y ∷ ys)) (y ∷ ys) in
            let below : path_from k left b (stored key r) (child_of (chosen_at b (stored key r) (items_in k b p)) (items_in k b p)) ≡ path_of h c =
            ap (λ (l : List Item). path_from k left b (stored key r) (child_of (chosen_at b (stored key r) l) l)) e
            ∙ rec c (child-shaped k b key (to_be32 r) r long (be32-to_be32 r r32) h y ys f.4 shapes) in
            rw (
              below,
              at-chosen 0 (λ x. store_run (passes k b (key, r)) (capacity k) h x.1 (entries_in k b)) h p y ys e f.4 shapes,
              at-chosen [] (λ x. store_leaf (passes k b (key, r)) h x.1 (entries_in k b)) h p y ys e f.4 shapes,
              length-map (items_in k b p) numbered,
            )
            (on-top (leb (capacity k) (length (items_in k b p))) (suc h) (path_of h c).run (path_of h c).present)

-- a pair of a key and a record number of four bytes, on a sound index with keys of that length
module _ (b key : List ℕ) (r : ℕ) (s : Sound b) (long : length key ≡ key_length b) (r32 : r < 2 ^ 32) where
  sound-path : path_to (key_length b) b key r ≡ path_of (key_length b) key r b s.height (root_offset b)
  sound-path = path_is (key_length b) key r b long r32 s.height max_levels (root_offset b) (omega (arith, s.levels)) (sound-shaped b s)

  -- Theorem: the path of any pair has as many levels as the index
  pub sound-levels : (path_to (key_length b) b key r).levels ≡ suc s.height
  sound-levels = ap (λ (path : Path). path.levels) sound-path

  -- Theorem: the leaf on the path has the pair, or for features 1 the key, exactly if a leaf of the index has it
  pub present_is : (path_to (key_length b) b key r).present ≡ has (kept_by b).pair_le (key, r) (leaf_pairs b s)
  present_is =
      let h = s.height in
      let g = good-header b s.header in
      let i = sound-index b s max_bytes g.most in
      let S : Store (List ℕ) = entries_in (key_length b) b in
      let route : Route (List ℕ) = (kept_by b).route (key, r) in
      ap (λ (path : Path). path.present) sound-path
      ∙ ap (present (kept_by b).pair_le (key, r))
      (sym (leaf-read route (passes (key_length b) b (key, r)) S (route-read bytes_order (key, r) S (features b)) h (root_offset b))
      ∙ ap (route_leaf route h) (sound-tree b s))
      ∙ leaf-has (kept_by b) (key, r) h (index_tree b h) (sized-rooted (capacity (key_length b)) h (index_tree b h) i.sized) i.ordered

-- F would pass the buffer or 16,777,216 exactly if it would pass the lesser
less_both : (a b c : ℕ) → ltb (min a b) c ≡ (ltb a c || ltb b c)
less_both a b c = either (ltb a c)
    (λ e. rw e (lt-ltb (min a b) c (omega (arith, ltb-true a c e))))
    (λ e. either (ltb b c)
    (λ f. rw (e, f) (lt-ltb (min a b) c (omega (arith, ltb-true b c f))))
    (λ f. rw (e, f) (le-ltb (min a b) c (omega (arith, ltb-false a c e, ltb-false b c f)))))

-- one more if a test holds
one_if : (t : Bool) (n : ℕ) → n + cond t 1 0 ≡ cond t (suc n) n
one_if true n = add-one n
one_if false n = add-zero n

or_assoc : (a b c : Bool) → (a || (b || c)) ≡ ((a || b) || c)
or_assoc true b c = refl
or_assoc false b c = refl

-- Theorem: refusal 30 by the bytes and by the tree
pub room_is : (b key : List ℕ) (r : ℕ) (s : Sound b) → length key ≡ key_length b → r < 2 ^ 32
    → no_room b (path_to (key_length b) b key r)
    ≡ out_of_room (setting_of (features b) (key_length b) (min (length b) max_bytes)) (key, r) (index_of b s.height s.free)
unfolding no_room
room_is b key r s long r32 =
    let k = key_length b in
    let h = s.height in
    let route : Route (List ℕ) = (kept_by b).route (key, r) in
    let d = store_run (passes k b (key, r)) (capacity k) h (root_offset b) (entries_in k b) in
    let same : run route (capacity k) h (index_tree b h) ≡ d =
    ap (run route (capacity k) h) (sym (sound-tree b s))
    ∙ run-read route (passes k b (key, r)) (entries_in k b) (route-read bytes_order (key, r) (entries_in k b) (features b)) (capacity k) h (root_offset b) in
    let all = eqb d (suc h) in
    let needed : ℕ = cond all (suc d) d in
    let size = size_after s.free (file_size b) needed in
    let left = left_is (naming_of s.free (file_size b)) b (supplied b s.free (sound-free b s)) needed in
    rw (sound-path b key r s long r32, same, less_both (length b) max_bytes size, one_if all d, one_if all (suc h), left)
    (or_assoc (ltb (length b) size) (ltb max_bytes size) _)
