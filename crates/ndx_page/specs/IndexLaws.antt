-- Laws: what a good header gives the functions on pages, and the steps of lookup. Cited by the proofs of this crate's functions. Assumes nothing.
use Rattle.std.specs.Prelude.{refl, cond, ℕ, suc, ◌-◌, ◌*◌, ◌≤◌, ◌≡◌, Bool, true, false, List, length, eqb, Err}
use Rattle.std.proofs.Common.{arith, eq-eqb, ne_eqb}
use Rattle.refusal.specs.Checks.{unless}
use Rattle.idx_page.specs.KeyOrderLaws.{below, at_or_above, reached}
use Rattle.idx_page.specs.PageLaws.{loop_end, loop_here, loop_later}
use Rattle.idx_page.specs.Page.{first_at_or_above}
use Rattle.octets.specs.Order.{ordering, is_equal}
use Rattle.idx_lookup.specs.Lookup.{record_of, decided}
use Rattle.idx_lookup.specs.Visit as visit
use Rattle.idx_lookup.specs.SearchLaws.{last_level}
use Rattle.ndx_page.specs.Header.{page_size, max_levels, root_page, page_count, key_length, entry_size, entry_area, is_page, header_good}
use Rattle.ndx_page.specs.HeaderLaws.{good-header, is-page}
use Rattle.ndx_page.specs.Page.{count_at, lower_at, record_at, key_at, is_leaf, page_good}
use Rattle.ndx_page.specs.PageLaws.{within-page, good-page, within-fewer, lower-inside, entry-inside, key-within}
use Rattle.ndx_page.specs.Within.{Within}
use Rattle.ndx_page.specs.Lookup.{page_of, leaf_says, entry_says, page_says, visit_rule, lookup_from, lookup_rule}

pub ruleset within_steps = (within-fewer, lower-inside, entry-inside, key-within)

pub ruleset search_steps = (within_steps, loop_end, loop_here, loop_later, below, at_or_above, reached)

pub entries_fit : (b : List ℕ) (p i : ℕ) → Within b p i → i * entry_size b ≤ entry_area
entries_fit b p i w = w.entries

module _ (b : List ℕ) (good : header_good b ≡ true) where
  pub header_long : page_size ≤ length b
  header_long = (good-header b good).long

  -- there is a root beside the header
  pub some_pages : 2 ≤ page_count b
  some_pages = let root = is-page (page_count b) (root_page b) (good-header b good).root in omega arith

  -- a page whose number is one
  pub page_within : (p : ℕ) → is_page (page_count b) p ≡ true → Within b p 0
  page_within p e = within-page b p 0 good e (omega arith)

  -- a page that passes its checks
  pub good_within : (p : ℕ) (first last : Bool) → page_good b p first last ≡ true → Within b p (count_at b p)
  good_within p first last e = let g = good-page b p first last e in within-page b p (count_at b p) good g.0 g.1

  -- the rule past its two checks
  pub rule_steps : (key : List ℕ) → length key ≡ key_length b → lookup_rule b key ≡ lookup_from max_levels b key (root_page b)
  unfolding lookup_rule unless
  rule_steps key fits = rw (good, eq-eqb (length key) (key_length b) fits)

  pub rule_key : (key : List ℕ) → (length key ≡ key_length b → ⊥) → lookup_rule b key ≡ Err 27
  unfolding lookup_rule unless
  rule_key key other = rw (good, ne_eqb (length key) (key_length b) other)

pub rule_header : (b key : List ℕ) → header_good b ≡ false → lookup_rule b key ≡ Err 24
unfolding lookup_rule unless
rule_header b key bad = rw bad

-- what page p says
pub page_cases : (b key : List ℕ) (p : ℕ) → let i = first_at_or_above (key_at b p) key (count_at b p) 0 in
    page_says b key p
    ≡ cond (is_leaf b p)
    (cond (eqb i (count_at b p)) visit.Absent
    (cond (is_equal (ordering (key_at b p i) key)) (visit.Found (record_of (record_at b p i))) visit.Absent))
    (visit.Child (page_of (lower_at b p i)))
unfolding page_says entry_says leaf_says
page_cases b key p = refl

pub ruleset page_steps = (within_steps, page_cases)

-- the rule's step on page p, the `pages`th that is visited
module _ (b key : List ℕ) (p pages : ℕ) (some : 1 ≤ pages) (few : pages ≤ max_levels) where
  pub visit_good : page_good b p (eqb pages 1) (eqb pages max_levels) ≡ true
      → decided (λ c. lookup_from (max_levels - pages) b key c.0) pages (page_says b key p) ≡ lookup_from (suc (max_levels - pages)) b key p
  unfolding lookup_from visit_rule
  visit_good good =
      let same : max_levels - (max_levels - pages) ≡ pages = omega arith in
      rw (same, last_level pages some few, good, visit_rule)

  pub visit_bad : page_good b p (eqb pages 1) (eqb pages max_levels) ≡ false → lookup_from (suc (max_levels - pages)) b key p ≡ Err 25
  unfolding lookup_from visit_rule
  visit_bad bad =
      let same : max_levels - (max_levels - pages) ≡ pages = omega arith in
      rw (same, last_level pages some few, bad, visit_rule)
