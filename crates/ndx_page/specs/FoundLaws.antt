-- Laws: "a found key is an equal one in the leaf", on any bytes, and the leaf passes lookup's checks. It is the law of IDX, over the pages of an NDX index.
-- Assumes nothing.
use Rattle.std.specs.Prelude.{ℕ, zero, suc, ◌-◌, ◌≤◌, ◌≡◌, true, List, length, eqb, Ok}
use Rattle.std.proofs.Common.{arith}
use Rattle.refusal.specs.Checks.{unless}
use Rattle.basis.specs.Tests.{either, impossible}
use Rattle.octets.specs.Order.{ordering, is_equal}
use Rattle.idx_page.specs.Page.{first_at_or_above}
use Rattle.idx_page.specs.PageLaws.{first_bound}
use Rattle.idx_page.specs.declared.RecordNumber.{RecordNumber}
use Rattle.idx_lookup.specs.Answer.{found}
use Rattle.idx_lookup.specs.FoundLaws.{Pages, FoundIn, not_absent, not_child, not_refused, same_number, same_visit, found-entry, decided-found, last-visited}
use Rattle.idx_lookup.specs.FoundLaws.{found-checked}
use Rattle.idx_lookup.specs.Visit as visit
use Rattle.ndx_page.specs.Header.{max_levels, root_page, key_length, header_good}
use Rattle.ndx_page.specs.Page.{count_at, record_at, key_at, is_leaf, page_good}
use Rattle.ndx_page.specs.Lookup.{leaf_says, entry_says, page_says, visit_rule, lookup_from, lookup_rule}

-- an NDX index. A leaf passes the checks: its number is that of a page other than the first, and its count is good
abbrev pub ndx_pages : List ℕ → Pages
ndx_pages b = record { good = page_good b; leaf = is_leaf b; count = count_at b; keys = key_at b; numbers = record_at b }

abbrev pub FoundAt : List ℕ → List ℕ → RecordNumber → ℕ → Type 0
FoundAt b key r n = FoundIn (ndx_pages b) key r n

-- the n-th page visited
module _ (b key : List ℕ) (p n : ℕ) (visits : (1 ≤ n) × (n ≤ max_levels)) where
  entry_found : (i : ℕ) (r : RecordNumber) → page_good b p (eqb n 1) (eqb n max_levels) ≡ true → i ≤ count_at b p
      → entry_says b key p i ≡ visit.Found r → FoundAt b key r n
  unfolding entry_says leaf_says
  entry_found i r g h e = either (is_leaf b p)
      (λ l. either (eqb i (count_at b p))
      (λ u. not_absent (rw (l, u) at e))
      (λ u. either (is_equal (ordering (key_at b p i) key))
      (λ q. found-entry (ndx_pages b) key p n i visits g h u l q (same_number (rw (l, u, q) at e)))
      (λ q. not_absent (rw (l, u, q) at e))))
      (λ l. not_child (rw l at e))

  visit-found : (r : RecordNumber) → visit_rule b key p (eqb n 1) (eqb n max_levels) ≡ Ok (visit.Found r) → FoundAt b key r n
  unfolding visit_rule page_says
  visit-found r e = either (page_good b p (eqb n 1) (eqb n max_levels))
      (λ g.
      let bound = first_bound (key_at b p) key (count_at b p) 0 in
      entry_found (first_at_or_above (key_at b p) key (count_at b p) 0) r g (omega arith) (same_visit (rw (g, visit_rule) at e)))
      (λ g. not_refused 25 (rw (g, visit_rule) at e))

from_found : (levels : ℕ) (b key : List ℕ) (p : ℕ) (r : RecordNumber) (n : ℕ) → levels ≤ max_levels → lookup_from levels b key p ≡ found r n
    → FoundAt b key r n
unfolding lookup_from
from_found zero b key p r n l e = impossible (cc)
from_found (suc left) b key p r n l e =
    decided-found (max_levels - left) (visit_rule b key p (eqb (max_levels - left) 1) (eqb left 0)) e
    (λ q same.
    let visits : (1 ≤ max_levels - left) × (max_levels - left ≤ max_levels) = (omega arith, omega arith) in
    let there = visit-found b key p (max_levels - left) visits r (rw (last-visited left (omega arith)) at q) in
    rw same at there)
    (λ c q. from_found left b key c.0 r n (omega arith) q)

-- Theorem: a key that lookup finds after n pages is the key of an entry in the n-th page visited, a leaf that passes lookup's checks, and the record is the
-- entry's
pub found_is_equal : (b key : List ℕ) (r : RecordNumber) (n : ℕ) → lookup_rule b key ≡ found r n → FoundAt b key r n
unfolding lookup_rule unless
found_is_equal b key r n e =
    from_found max_levels b key (root_page b) r n (omega arith) (found-checked (header_good b) (eqb (length key) (key_length b)) e)
