-- Laws: the cases of the path to a key, each from what leads to it, and how long it is. Cited by the proofs of the functions. Assumes nothing.
use Prim.Native.Nat.{ℕ, zero, suc, ◌+◌, ◌-◌, ◌≤◌}
use Rattle.std.specs.Prelude.{◌≡◌, refl, Bool, ◌&&◌, ◌||◌, List, length, eqb, leb, ltb}
use Rattle.std.proofs.Common.{◌∙◌}
use native.Mathlib.Omega.{arith}
use Rattle.basis.specs.Tests.{either}
use Rattle.tree.specs.Pairs.{present}
use Rattle.idx_page.specs.Header.{max_bytes, max_levels, is_page, root_offset, key_length, features}
use Rattle.idx_page.specs.Page.{attribute_at, leaf_bit, capacity}
use Rattle.idx_page.specs.Reading.{Item}
use Rattle.idx_page.specs.EntryOrder.{item_order}
use Rattle.idx_page.specs.declared.PageOffset.{PageOffset}
use Rattle.idx_leaf.specs.Leaf.{items_in, stored}
use Rattle.idx_route.specs.Route.{chosen_at, child_of}
use Rattle.idx_supply.specs.declared.Supply.{Supply}
use Rattle.idx_supply.specs.Supply.{supply_of, supply_after}
use Rattle.idx_path.specs.Room.{nowhere, on_top, path_from, path_to, root_split, no_room}
use Rattle.idx_route.specs.Visits.{visit_of}
use Rattle.idx_route.specs.VisitLaws.{visited-bad, visited-leaf, visited-child}
use Rattle.idx_path.specs.declared.Path.{Path}
use Rattle.idx_route.specs.declared.Visit.TheVariants as visit

-- with a page on top, the run has no more pages than the path has levels
top-run : (full : Bool) (path : Path) → path.run ≤ path.levels → (on_top full path).run ≤ (on_top full path).levels
top-run full path h = either (full && eqb path.run path.levels) (λ e. rw e (omega arith)) (λ e. rw e (omega arith))

-- a path has no more levels than were left
pub path-levels : (k left : ℕ) (b : List ℕ) (item : Item) (p : ℕ) → (path_from k left b item p).levels ≤ left
unfolding path_from
path-levels k zero b item p = omega arith
path-levels k (suc left) b item p = either (is_page (length b) p)
    (λ t. either (leaf_bit (attribute_at b p))
    (λ u. rw (t, u) (omega arith))
    (λ u. rw (t, u) (omega (arith, path-levels k left b item (child_of (chosen_at b item (items_in k b p)) (items_in k b p))))))
    (λ t. rw t (omega arith))

-- the path, by cases of the visit
module _ (b : List ℕ) (item : Item) (p : ℕ) where
  pub path-bad : (levels : ℕ) → (levels ≡ 0 → ⊥) → visit.Bad ≡ visit_of b item p → nowhere ≡ path_from (length item.0) levels b item p
  unfolding path_from
  path-bad zero s e = absurd (s refl)
  path-bad (suc left) s e = rw (visited-bad b item p e)

  module _ {full : Bool} (f : full ≡ leb (capacity (length item.0)) (length (items_in (length item.0) b p))) where
    pub path-leaf : (levels : ℕ) {there : Bool} → (levels ≡ 0 → ⊥) → visit.Leaf ≡ visit_of b item p
        → there ≡ present (item_order (features b)) item (items_in (length item.0) b p)
        → on_top full (record { levels = 0; run = 0; present = there }) ≡ path_from (length item.0) levels b item p
    unfolding path_from
    path-leaf zero s e t = absurd (s refl)
    path-leaf (suc left) s e t = let v = visited-leaf b item p e in rw (v.0, v.1, f, t)

    pub path-child : (levels i : ℕ) (c : PageOffset) {path : Path} → (levels ≡ 0 → ⊥) → visit.Child i c ≡ visit_of b item p
        → path ≡ path_from (length item.0) (levels - 1) b item c.0 → on_top full path ≡ path_from (length item.0) levels b item p
    unfolding path_from
    path-child zero i c s e q = absurd (s refl)
    path-child (suc left) i c s e q =
        let v = visited-child b item p i c e in
        let l : suc left - 1 ≡ left = omega arith in
        rw (v.0, v.1, f, q, l, v.3)

-- the run has no more pages than the path has levels
pub path-run : (k left : ℕ) (b : List ℕ) (item : Item) (p : ℕ) → (path_from k left b item p).run ≤ (path_from k left b item p).levels
unfolding path_from
path-run k zero b item p = omega arith
path-run k (suc left) b item p =
    let full = leb (capacity k) (length (items_in k b p)) in
    let c = child_of (chosen_at b item (items_in k b p)) (items_in k b p) in
    let leaf : Path = record { levels = 0; run = 0; present = present (item_order (features b)) item (items_in k b p) } in
    either (is_page (length b) p)
    (λ t. either (leaf_bit (attribute_at b p))
    (λ u. rw (t, u) (top-run full leaf (omega arith)))
    (λ u. rw (t, u) (top-run full (path_from k left b item c) (path-run k left b item c))))
    (λ t. rw t (omega arith))

-- at most one root is split
pub root-once : (path : Path) → root_split path ≤ 1
root-once path = either (eqb path.run path.levels) (λ e. rw e (omega arith)) (λ e. rw e (omega arith))

-- the path from the root on
pub path-told : (b key : List ℕ) (r : ℕ) {path : Path} {root : ℕ} → length key ≡ key_length b → root ≡ root_offset b
    → path ≡ path_from (length key) max_levels b (stored key r) root → path ≡ path_to (key_length b) b key r
path-told b key r ek er ep = ep ∙ rw (er, ek)

-- the tests of room, on the path's numbers
pub room-told : (b : List ℕ) (path : Path) {more : ℕ} {supply after : Supply} → let size = after.end.0 in
    more ≡ root_split path → supply ≡ supply_of b → after ≡ supply_after (path.run + more) b supply
    → (ltb (length b) size || (ltb max_bytes size || ltb max_levels (path.levels + more))) ≡ no_room b path
unfolding no_room
room-told b path em es ea = rw (ea, em, es)
