-- Laws: what is done to a list of stored entries is done to the list with their numbers, which the theory has, by the header's features: the entry that a pair
-- goes under is the theory's, in a tree whose pages have the leaf bit at the bottom only. Cited by the laws of insertion and of removal on bytes. Assumes
-- nothing.
use Rattle.std.specs.Prelude.{◌≡◌, refl, true, false, length, get_or, leb}
use Rattle.std.proofs.Common.{sym, ap, ◌∙◌, subst, arith, le-leb}
use mathlib.Core.List.{List, [], ◌∷◌, map}
use Prim.Native.Nat.{ℕ, zero, suc, ◌<◌}
use Rattle.std.proofs.Math.ListN.{get_or-map}
use Rattle.basis.specs.Lists.{All}
use Rattle.basis.specs.Tests.{either}
use Rattle.octets.specs.Bytes.{be32}
use Rattle.octets.specs.Order.{bytes_le}
use Rattle.tree.proofs.Insertion.Pairs.{leaf-place}
use Rattle.tree.proofs.KeepingOf.{keeping_of}
use Rattle.tree.specs.Lists.{NonEmpty}
use Rattle.tree.specs.Pairs.{last_key, by_record, insert_pair}
use Rattle.tree.specs.Position.{Passes, position, choose, replace_at}
use Rattle.tree.proofs.RouteLaws.{position-within, choose-all}
use Rattle.tree.specs.Store.{Store}
use Rattle.tree.specs.Store.Route.{store_first_under, store_route}
use Rattle.tree.specs.Tree.{first_among}
use Rattle.idx_page.specs.Header.{max_levels, features}
use Rattle.idx_page.specs.KeyOrder.{bytes_order}
use Rattle.idx_page.specs.Page.{attribute_at, leaf_bit}
use Rattle.idx_page.specs.Reading.{Item, numbered}
use Rattle.idx_page.specs.EntryOrder.{item_order}
use Rattle.idx_leaf.specs.Leaf.{items_in, item_of}
use Rattle.idx_route.specs.Route.{first_up_to, passes_above, chosen_at, child_of}
use Rattle.idx_sound.specs.Sound.{kept_by}
use Rattle.idx_layout_laws.specs.EntryLaws.{entries_in, Usable}

-- the tests of a pair's route on the entries of the pages of a buffer
abbrev pub passes : ℕ → List ℕ → List ℕ × ℕ → ℕ → Passes (List ℕ × ℕ)
passes k b e h = store_route bytes_order (features b) e (entries_in k b) h

pub last_key-numbered : (a : List ℕ) (es : List Item) → last_key a (map numbered es) ≡ last_key a es
last_key-numbered a [] = refl
last_key-numbered a (x ∷ xs) = last_key-numbered x.0 xs

-- an entry of a list is the same whatever stands for one that the list does not have
get_any : {A : Type 0} (d d' : A) (i : ℕ) (xs : List A) → i < length xs → get_or xs i d ≡ get_or xs i d'
get_any d d' i [] h = absurd (omega arith)
get_any d d' zero (x ∷ xs) h = refl
get_any d d' (suc i) (x ∷ xs) h = get_any d d' i xs (omega arith)

-- the page at p, with h levels under it, and every page under it is a page of the buffer and has the leaf bit at the bottom only; above it has entries, and no
-- more levels under it than an index may have
abbrev pub Shaped : ℕ → (h : ℕ) → List ℕ → ℕ → Type 0
Shaped k zero b p = Usable b p × (leaf_bit (attribute_at b p) ≡ true)
Shaped k (suc h) b p =
    Usable b p × (leaf_bit (attribute_at b p) ≡ false) × NonEmpty (entries_in k b p) × All (λ e. Shaped k h b e.1) (entries_in k b p) × (h < max_levels)

pub shaped-page : (k h : ℕ) (b : List ℕ) (p : ℕ) → Shaped k h b p → Usable b p
shaped-page k zero b p s = s.0
shaped-page k (suc h) b p s = s.0

-- record number 0 comes first
zero_record : (a key : List ℕ) (r : ℕ) → by_record bytes_order (a, 0) (key, r) ≡ bytes_le a key
zero_record a key r = either (bytes_le a key)
    (λ u. either (bytes_le key a) (λ v. rw (u, v) (le-leb 0 r (omega arith))) (λ v. rw (u, v)))
    (λ u. rw u)

-- the entry gone through, for a key of k bytes with the record number r, whose bytes are c
module _ (k : ℕ) (b key c : List ℕ) (r : ℕ) (long : length key ≡ k) (number : be32 c 0 ≡ r) where
  same-order : (y : Item) → by_record bytes_order (numbered y) (key, r) ≡ item_order 0 y (key, c)
  same-order y = ap (λ (n : ℕ). by_record bytes_order (numbered y) (key, n)) (sym number)

  -- the first leaf pair under an entry
  first_is : (h left : ℕ) (x : Item) → h < left → Shaped k h b (be32 x.1 0)
      → by_record bytes_order (store_first_under (entries_in k b) (suc h) (numbered x)) (key, r) ≡ first_up_to left b (key, c) x
  unfolding first_up_to
  first_is zero zero x l f = absurd (omega arith)
  first_is (suc h) zero x l f = absurd (omega arith)
  first_is zero (suc left) x l f = rw (long, f.1) (leaf (items_in k b (be32 x.1 0)))
    where
      leaf : (es : List Item) → by_record bytes_order (first_among (store_first_under (entries_in k b) zero) (x.0, 0) (map numbered es)) (key, r)
          ≡ first_among (λ y. item_order 0 y (key, c)) (bytes_le x.0 key) es
      leaf [] = zero_record x.0 key r
      leaf (y ∷ ys) = same-order y
  first_is (suc h) (suc left) x l f = rw (long, f.1) (upper (λ y g. first_is h left y (omega arith) g) (items_in k b (be32 x.1 0)) f.3)
    where
      upper : ((y : Item) → Shaped k h b (be32 y.1 0)
          → by_record bytes_order (store_first_under (entries_in k b) (suc h) (numbered y)) (key, r) ≡ first_up_to left b (key, c) y)
          → (es : List Item) → All (λ e. Shaped k h b e.1) (map numbered es)
          → by_record bytes_order (first_among (store_first_under (entries_in k b) (suc h)) (x.0, 0) (map numbered es)) (key, r)
          ≡ first_among (λ y. first_up_to left b (key, c) y) (bytes_le x.0 key) es
      upper rec [] g = zero_record x.0 key r
      upper rec (y ∷ ys) g = rec y g.0

  -- the tests of the route, for any features
  route-for : (f h : ℕ) (x y : Item) → h < max_levels → Shaped k h b (be32 y.1 0)
      → store_route bytes_order f (key, r) (entries_in k b) (suc h) (numbered x) (numbered y) ≡ passes_above f b (key, c) x y
  route-for zero h x y l s = first_is h max_levels y l s
  route-for (suc n) h x y l s = refl

  -- Theorem: the number of the entry gone through is the theory's
  pub position-numbered : (h : ℕ) (es : List Item) → h < max_levels → All (λ e. Shaped k h b e.1) (map numbered es)
      → position (passes k b (key, r) (suc h)) (map numbered es) ≡ chosen_at b (key, c) es
  position-numbered h [] l f = refl
  position-numbered h (x ∷ []) l f = refl
  position-numbered h (x ∷ y ∷ ys) l f =
      rw (route-for (features b) h x y l f.1.0)
      (either (passes_above (features b) b (key, c) x y) (λ u. rw u (ap suc (position-numbered h (y ∷ ys) l f.1))) (λ u. rw u))

  pub chosen-within : (y : Item) (ys : List Item) → chosen_at b (key, c) (y ∷ ys) < length (y ∷ ys)
  chosen-within y ys = position-within (passes_above (features b) b (key, c)) y ys

  pub chosen-numbered : (h : ℕ) (y : Item) (ys : List Item) → h < max_levels → All (λ e. Shaped k h b e.1) (map numbered (y ∷ ys))
      → choose (passes k b (key, r) (suc h)) (numbered y) (map numbered (y ∷ ys)) ≡ numbered (item_of (chosen_at b (key, c) (y ∷ ys)) (y ∷ ys))
  chosen-numbered h y ys l f =
      ap (λ (i : ℕ). get_or (map numbered (y ∷ ys)) i (numbered y)) (position-numbered h (y ∷ ys) l f)
      ∙ get_or-map numbered (y ∷ ys) (chosen_at b (key, c) (y ∷ ys)) y
      ∙ ap numbered (get_any y ([], []) (chosen_at b (key, c) (y ∷ ys)) (y ∷ ys) (chosen-within y ys))

  pub child-shaped : (h : ℕ) (y : Item) (ys : List Item) → h < max_levels → All (λ e. Shaped k h b e.1) (map numbered (y ∷ ys))
      → Shaped k h b (child_of (chosen_at b (key, c) (y ∷ ys)) (y ∷ ys))
  child-shaped h y ys l f =
      subst (λ (z : List ℕ × ℕ). Shaped k h b z.1) (chosen-numbered h y ys l f)
      (choose-all (passes k b (key, r) (suc h)) (λ z. Shaped k h b z.1) (numbered y) (numbered y) (map numbered ys) f)

-- in a leaf the route on the store is the theory's
pub leaf-route : (f : ℕ) (e : List ℕ × ℕ) (S : Store (List ℕ)) → store_route bytes_order f e S zero ≡ (keeping_of bytes_order f).route e zero
leaf-route zero e S = refl
leaf-route (suc n) e S = refl

-- the insertion of a pair beside the entry gone through is its insertion into the list
pub insert_pair-place : (k : ℕ) (b : List ℕ) (e d x : List ℕ × ℕ) (xs : List (List ℕ × ℕ))
    → replace_at (position (passes k b e zero) (x ∷ xs)) (insert_pair (kept_by b).pair_le e (choose (passes k b e zero) d (x ∷ xs) ∷ [])) (x ∷ xs)
    ≡ insert_pair (kept_by b).pair_le e (x ∷ xs)
insert_pair-place k b e d x xs =
    ap (λ (P : Passes (List ℕ × ℕ)). replace_at (position P (x ∷ xs)) (insert_pair (kept_by b).pair_le e (choose P d (x ∷ xs) ∷ [])) (x ∷ xs))
    (leaf-route (features b) e (entries_in k b))
    ∙ leaf-place (kept_by b) e d x xs
