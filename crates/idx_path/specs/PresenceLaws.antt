-- Laws: whether the leaf at the end of a path has the pair, by cases of the visit. Cited by the proofs of the functions. Assumes nothing.
use Prim.Native.Nat.{ℕ, zero, suc, ◌-◌}
use Rattle.std.specs.Prelude.{◌≡◌, refl, false, List, length}
use native.Mathlib.Omega.{arith}
use Rattle.tree.specs.Pairs.{present}
use Rattle.idx_page.specs.Header.{max_levels, root_offset, key_length, features}
use Rattle.idx_page.specs.Reading.{Item}
use Rattle.idx_page.specs.EntryOrder.{item_order}
use Rattle.idx_page.specs.declared.PageOffset.{PageOffset}
use Rattle.idx_leaf.specs.Leaf.{items_in, stored}
use Rattle.idx_route.specs.Visits.{visit_of}
use Rattle.idx_route.specs.VisitLaws.{visited-bad, visited-leaf, visited-child}
use Rattle.idx_path.specs.Presence.{there_from, is_there}
use Rattle.idx_route.specs.declared.Visit.TheVariants as visit

-- whether the pair is there, by cases of the visit
module _ (b : List ℕ) (item : Item) (p : ℕ) where
  pub there-bad : (levels : ℕ) → (levels ≡ 0 → ⊥) → visit.Bad ≡ visit_of b item p → false ≡ there_from (length item.0) levels b item p
  unfolding there_from
  there-bad zero some e = absurd (some refl)
  there-bad (suc left) some e = rw (visited-bad b item p e)

  pub there-leaf : (levels : ℕ) → (levels ≡ 0 → ⊥) → visit.Leaf ≡ visit_of b item p
      → present (item_order (features b)) item (items_in (length item.0) b p) ≡ there_from (length item.0) levels b item p
  unfolding there_from
  there-leaf zero some e = absurd (some refl)
  there-leaf (suc left) some e = let v = visited-leaf b item p e in rw (v.0, v.1)

  pub there-child : (levels i : ℕ) (c : PageOffset) → (levels ≡ 0 → ⊥) → visit.Child i c ≡ visit_of b item p
      → there_from (length item.0) (levels - 1) b item c.0 ≡ there_from (length item.0) levels b item p
  unfolding there_from
  there-child zero i c some e = absurd (some refl)
  there-child (suc left) i c some e =
      let v = visited-child b item p i c e in
      let f : suc left - 1 ≡ left = omega arith in
      rw (v.0, v.1, v.3, f)

pub there-told : (b key : List ℕ) (r : ℕ) {root : ℕ} → length key ≡ key_length b → root ≡ root_offset b
    → there_from (length key) max_levels b (stored key r) root ≡ is_there (key_length b) b key r
there-told b key r ek er = rw (ek, er)
