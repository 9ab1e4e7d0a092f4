-- Rules: what a sound NDX index is, in K13's words, on the tree that the bytes are read as.
use Rattle.std.specs.Prelude.{ℕ, ◌+◌, ◌≤◌, ◌<◌, ◌≡◌, List, true, false, ◌↔◌, ◌⊎◌, eqb}
use Rattle.basis.specs.Lists.{All}
use Rattle.tree.specs.Lists.{occ}
use Rattle.tree.specs.Pairs.{by_key, Ascending}
use Rattle.tree.specs.Tree.{pages, level}
use Rattle.tree.proofs.KeepingOf.{distinct_keys}
use Rattle.tree.specs.Clauses.{least, Ceilings}
use Rattle.tree.proofs.Top.{top}
use Rattle.idx_page.specs.KeyOrder.{bytes_order}
use Rattle.ndx_page.specs.Header.{max_levels, page_count, keys_per_page, is_page, header_good}
use Rattle.ndx_page.specs.Page.{count_at, lower_at, is_leaf}
use Rattle.ndx_sound.specs.Reading.{index_tree, leaf_pairs}

-- the pages reached from the root, h levels under it
abbrev pub index_pages : List ℕ → ℕ → List ℕ
index_pages b h = pages h (index_tree b h)

-- the count that page p has in its bytes: "from 1 to keys per page, 0 for a lone root leaf"
abbrev pub CountGood : List ℕ → ℕ → ℕ → Type 0
CountGood b h p = (least h ≤ count_at b p) × (count_at b p ≤ keys_per_page b)

-- no entry of page p has a lower page
abbrev pub NoLower : List ℕ → ℕ → Type 0
NoLower b p = (i : ℕ) → i < count_at b p → lower_at b p i ≡ 0

pub record Sound (b : List ℕ) : Type 0 where
  -- "Header good"
  pub header : header_good b ≡ true
  -- the number of levels under the root
  pub height : ℕ
  -- "every page but the first is reached once": only such pages are reached, and each of them once
  pub inside : All (λ p. is_page (page_count b) p ≡ true) (index_pages b height)
  pub once : (p : ℕ) → is_page (page_count b) p ≡ true → occ p (index_pages b height) ≡ 1
  -- "leaves on one level", which is level 0
  pub leaves : (j : ℕ) → j ≤ height → All (λ p. is_leaf b p ≡ eqb j 0) (level j height (index_tree b height))
  -- "a leaf, all of whose entries have 0"
  pub no_lower : All (NoLower b) (level 0 height (index_tree b height))
  -- "limits as K9": the root's level and those under it are 15 at most
  pub levels : height + 1 ≤ max_levels
  -- "Counts run from 1 to keys per page, 0 for a lone root leaf"
  pub counts : All (CountGood b height) (index_pages b height)
  -- "leaf keys ascend strictly"
  pub ascending : Ascending (by_key bytes_order) (leaf_pairs b height)
  -- "records above 0"
  pub records : All (λ e. 0 < e.1) (leaf_pairs b height)
  -- "A key above is a ceiling as in K1, the extra child having none": at or above every leaf key under its child, and below the first leaf key
  -- under the next child of the same page; the extra child's, which is none, is above all
  pub ceilings : Ceilings (distinct_keys (top bytes_order)) height (index_tree b height)

-- the audit's answer: 24 exactly where the header is not good, 0 exactly where the index is sound, 25 in every other case
pub record Audited (b : List ℕ) (r : ℕ) : Type 0 where
  pub bad : (r ≡ 24) ↔ (header_good b ≡ false)
  pub sound : (r ≡ 0) ↔ Sound b
  pub other : (r ≡ 24) ⊎ (r ≡ 0) ⊎ (r ≡ 25)
