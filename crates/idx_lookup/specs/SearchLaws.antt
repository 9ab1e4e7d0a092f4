-- Laws: what a good header and a key of its length give a search. Cited by the proofs of this crate's functions. Assumes nothing.
use Rattle.std.specs.Prelude.{ℕ, suc, ◌-◌, ◌≤◌, ◌≡◌, Bool, true, false, List, length, eqb, Err}
use Rattle.std.proofs.Common.{sym, ◌∙◌, arith, eq-eqb, ne_eqb, eqb-true}
use Rattle.std.proofs.lemmas.Bool.{eqb-false}
use Rattle.basis.specs.Tests.{either}
use Rattle.idx_page.specs.Header.{page_size, max_key, max_levels, root_offset, file_size, key_length, features, header_good}
use Rattle.idx_page.specs.HeaderLaws.{good-header}
use Rattle.idx_page.specs.Page.{count_at, page_good}
use Rattle.idx_page.specs.PageLaws.{within-page}
use Rattle.idx_page.specs.Within.{Within}
use Rattle.refusal.specs.Checks.{unless}
use Rattle.idx_lookup.specs.FirstRecord.{first_from}
use Rattle.idx_lookup.specs.LookupLaws.{steps_record, steps-key}
use Rattle.idx_lookup.specs.Lookup.{page_says, visit_rule, decided, lookup_from, lookup_rule}
use Rattle.idx_lookup.specs.Ways.{search_way, way_from, way_decides}
use Rattle.idx_lookup.specs.WayLaws.{page-some, way_is, neighbour_none, neighbour_bad, neighbour_good}

module _ (b : List ℕ) (header : header_good b ≡ true) where
  pub header_long : page_size ≤ length b
  header_long = (good-header b header).long

  pub header_within : file_size b ≤ length b
  header_within = (good-header b header).within

  module _ (key : List ℕ) (fits : length key ≡ key_length b) where
    pub key_short : length key ≤ max_key
    key_short = let h = good-header b header in omega arith

    -- the rule past its two checks, by the header's features
    pub rule_first : eqb (features b) 0 ≡ true → lookup_rule b key ≡ first_from max_levels b key (root_offset b)
    unfolding lookup_rule unless
    rule_first several = rw (header, eq-eqb (length key) (key_length b) fits) (steps_record b key (features b) several)

    pub rule_only : eqb (features b) 0 ≡ false → lookup_rule b key ≡ lookup_from max_levels b key (root_offset b)
    unfolding lookup_rule unless
    rule_only one = rw (header, eq-eqb (length key) (key_length b) fits) (steps-key b key (features b) one)

    module _ (p : ℕ) (first last : Bool) (good : page_good b (length key) (file_size b) p first last ≡ true) where
      pub page_within : Within b (length key) p (count_at b p)
      page_within = within-page b (length key) (file_size b) p first last key_short header_within good

-- a check fails
pub rule_header : (b key : List ℕ) → header_good b ≡ false → lookup_rule b key ≡ Err 24
unfolding lookup_rule unless
rule_header b key bad = rw bad

pub rule_key : (b key : List ℕ) → header_good b ≡ true → (length key ≡ key_length b → ⊥) → lookup_rule b key ≡ Err 27
unfolding lookup_rule unless
rule_key b key header other = rw (header, ne_eqb (length key) (key_length b) other)

pub page_filled : (b key : List ℕ) (p : ℕ) (first last : Bool) → page_good b (length key) (file_size b) p first last ≡ true → first ≡ false
    → 1 ≤ count_at b p
page_filled b key p first last good other = page-some b (length key) (file_size b) p last (rw other at good)

-- the page after which no level is left is the 15th
pub last_level : (pages : ℕ) → 1 ≤ pages → pages ≤ max_levels → eqb (max_levels - pages) 0 ≡ eqb pages max_levels
last_level pages some few = either (eqb pages max_levels)
    (λ e. eq-eqb (max_levels - pages) 0 (omega (arith, eqb-true pages max_levels e)) ∙ sym e)
    (λ e. ne_eqb (max_levels - pages) 0 (λ q. omega (arith, eqb-false pages max_levels e, q)) ∙ sym e)

-- the rules' step on the page at p, the `pages`th that is visited
module _ (b key : List ℕ) (p pages : ℕ) (some : 1 ≤ pages) (few : pages ≤ max_levels) where
  abbrev Checked : Bool → Type 0
  Checked t = page_good b (length key) (file_size b) p (eqb pages 1) (eqb pages max_levels) ≡ t

  pub visit_good : Checked true → decided (λ c. lookup_from (max_levels - pages) b key c.0) pages (page_says b key p)
      ≡ lookup_from (suc (max_levels - pages)) b key p
  unfolding lookup_from visit_rule
  visit_good good =
      let same : max_levels - (max_levels - pages) ≡ pages = omega arith in
      rw (same, last_level pages some few, good, visit_rule)

  pub visit_bad : Checked false → lookup_from (suc (max_levels - pages)) b key p ≡ Err 25
  unfolding lookup_from visit_rule
  visit_bad bad =
      let same : max_levels - (max_levels - pages) ≡ pages = omega arith in
      rw (same, last_level pages some few, bad, visit_rule)

  pub way_good : Checked true → way_decides (first_from (max_levels - pages) b key) b key pages p (search_way b key p (eqb pages 1))
      ≡ first_from (suc (max_levels - pages)) b key p
  unfolding way_from
  way_good good =
      let step = way_is (max_levels - pages) pages b key p (omega arith) in
      rw (last_level pages some few, good, way_from) at step

  pub way_bad : Checked false → first_from (suc (max_levels - pages)) b key p ≡ Err 25
  unfolding way_from
  way_bad bad =
      let step = way_is (max_levels - pages) pages b key p (omega arith) in
      sym (rw (last_level pages some few, bad, way_from) at step)

-- what the proofs of the functions on pages cite
pub ruleset visit_steps = (page_within, visit_good, visit_bad)

pub ruleset way_steps = (page_within, page_filled, way_good, way_bad)

pub ruleset neighbour_steps = (page_within, page_filled, neighbour_none, neighbour_bad, neighbour_good)
