-- Laws: the right neighbour of a leaf, and a step of a lookup for features 0. Cited by the proofs of this crate's functions. Assumes nothing.
use Rattle.std.specs.Prelude.{ℕ, suc, ◌+◌, ◌-◌, ◌≤◌, ◌≡◌, refl, Bool, true, false, ◌&&◌, ◌||◌, not, List, length, eqb, leb, Err}
use Rattle.std.proofs.Common.{eq-eqb, ne_eqb, eqb-true, leb-true}
use Rattle.std.specs.Bool.{beq}
use Rattle.basis.specs.Tests.{either, both, contra}
use Rattle.idx_page.specs.Header.{max_levels, no_page, file_size, is_page}
use Rattle.idx_page.specs.Page.{attribute_at, count_at, root_bit, leaf_bit, capacity, key_at, attribute_good, count_good, page_good}
use Rattle.idx_page.specs.Page.{first_at_or_above}
use Rattle.idx_lookup.specs.FirstRecord.{entry_decides, neighbour_decides, first_from}
use Rattle.idx_lookup.specs.Ways.{entry_way, search_way, way_from, way_decides}
use Rattle.idx_lookup.specs.Answer.{absent, and_then}

-- a good page that is not the first has entries: only the root may have none
pub page-some : (b : List ℕ) (k size p : ℕ) (last : Bool) → page_good b k size p false last ≡ true → 1 ≤ count_at b p
unfolding page_good attribute_good count_good
page-some b k size p last t =
    let a = attribute_at b p in
    let n = count_at b p in
    let checks = (both (is_page size p) (attribute_good a false last && count_good k a n) t).1 in
    let each = both (attribute_good a false last) (count_good k a n) checks in
    let bits = (both (leb a 3) (beq (root_bit a) false && (leaf_bit a || not last)) each.0).1 in
    let root = (both (beq (root_bit a) false) (leaf_bit a || not last) bits).0 in
    let count = (both (leb n (capacity k)) (leb 1 n || eqb a 3) each.1).1 in
    either (leb 1 n)
    (λ u. leb-true 1 n u)
    (λ u. either (eqb a 3)
    (λ v. let three : a ≡ 3 = eqb-true a 3 v in contra (rw three at root) refl)
    (λ v. contra (rw (u, v) at count) refl))

-- the right neighbour decides
module _ (b key : List ℕ) (pages q : ℕ) where
  pub neighbour_none : q ≡ no_page → absent pages ≡ neighbour_decides b key pages q
  unfolding neighbour_decides
  neighbour_none e = rw (eq-eqb q no_page e, neighbour_decides)

  module _ (ne : q ≡ no_page → ⊥) where
    pub neighbour_bad : page_good b (length key) (file_size b) q false true ≡ false → Err 25 ≡ neighbour_decides b key pages q
    unfolding neighbour_decides
    neighbour_bad t = rw (ne_eqb q no_page ne, t, neighbour_decides)

    pub neighbour_good : page_good b (length key) (file_size b) q false true ≡ true → entry_decides b key (pages + 1) q 0 ≡ neighbour_decides b key pages q
    unfolding neighbour_decides
    neighbour_good t = rw (ne_eqb q no_page ne, t, neighbour_decides)

-- the way decides the lookup
pub way_is : (left pages : ℕ) (b key : List ℕ) (p : ℕ) → max_levels - left ≡ pages →
    and_then (way_from b key p (eqb pages 1) (eqb left 0)) (way_decides (first_from left b key) b key pages p) ≡ first_from (suc left) b key p
unfolding way_from search_way entry_way first_from
way_is left pages b key p same =
    rw (← same)
    (let i = first_at_or_above (key_at b (length key) p) key (count_at b p) 0 in
    either (page_good b (length key) (file_size b) p (eqb (max_levels - left) 1) (eqb left 0))
    (λ g. either (eqb i (count_at b p))
    (λ c. either (eqb (max_levels - left) 1)
    (λ f. rw (g, c, f, way_from, first_from))
    (λ f. either (leaf_bit (attribute_at b p)) (λ l. rw (g, c, f, l, way_from, first_from)) (λ l. rw (g, c, f, l, way_from, first_from))))
    (λ c. either (leaf_bit (attribute_at b p)) (λ l. rw (g, c, l, way_from, first_from)) (λ l. rw (g, c, l, way_from, first_from))))
    (λ g. rw (g, way_from, first_from)))

-- no level is left
pub first_end : (b key : List ℕ) (p : ℕ) → first_from 0 b key p ≡ Err 25
unfolding first_from
first_end b key p = refl
