-- Rules: what a sound index is, in document 01's clauses, order and words ("Sound: good header; every page ..", The index), and for keys above pages and equal
-- keys in change requests K1's and K12's, on the tree that the bytes are read as. The audit's contract cites `Audited`; the match's contract and the claim
-- about lists of calls cite `Sound`. The rules of insertion and removal compute with the test of AuditTest, and the laws of idx_book/InsertionAnswers and
-- RemovalAnswers say their answers by `Sound`.
use Rattle.std.specs.Prelude.{ℕ, ◌+◌, ◌≤◌, ◌<◌, ◌≡◌, List, ◌++◌, true, false, ◌↔◌, ◌⊎◌, replicate, eqb}
use Rattle.basis.specs.Lists.{All}
use Rattle.octets.specs.Store.{window}
use Rattle.tree.specs.Lists.{occ}
use Rattle.tree.specs.Pairs.{Ascending}
use Rattle.tree.specs.Tree.{Tree, pairs, pages, level}
use Rattle.tree.specs.Clauses.{least, Ceilings, Links, AllLinked}
use Rattle.tree.specs.Keeping.{Keeping}
use Rattle.tree.proofs.KeepingOf.{keeping_of}
use Rattle.tree.specs.FreeChain.{Chained}
use Rattle.idx_page.specs.Header.{max_levels, no_page, root_offset, free_pointer, file_size, key_length, features, is_page, header_good}
use Rattle.idx_page.specs.Page.{attribute_at, count_at, left_at, right_at, root_bit, leaf_bit, capacity, right_place, entries_start, entry_area}
use Rattle.idx_page.specs.KeyOrder.{bytes_order}
use Rattle.idx_page.specs.Reading.{tree_of}

-- the tree that the bytes are read as by the header's numbers, with h levels under the root
abbrev pub index_tree : (b : List ℕ) (h : ℕ) → Tree (List ℕ) h
index_tree b h = tree_of (key_length b) (file_size b) b h

-- the pages of that tree, "reached from the root"
abbrev pub index_pages : List ℕ → ℕ → List ℕ
index_pages b h = pages h (index_tree b h)

-- the left and the right link of every page
abbrev pub links_of : List ℕ → Links
links_of b = record { left = left_at b; right = right_at b }

-- the count in the bytes of the page at p, in an index with h levels under the root: "1 to capacity, save that a lone root leaf may have 0"
abbrev pub CountGood : List ℕ → ℕ → ℕ → ℕ → Type 0
CountGood b k h p = (least h ≤ count_at b p) × (count_at b p ≤ capacity k)

-- how the index keeps its leaf pairs, by the header's features
abbrev pub kept_by : List ℕ → Keeping (List ℕ)
kept_by b = keeping_of bytes_order (features b)

-- n bytes of zero
abbrev pub zeros : ℕ → List ℕ
zeros n = replicate n 0

-- "a free page is zero but for bytes 8-11": the page at p
abbrev pub FreePage : List ℕ → ℕ → Type 0
FreePage b p = (window b p right_place ≡ zeros right_place) × (window b (p + entries_start) entry_area ≡ zeros entry_area)

-- the list is the free list: "Header 4-7 may now name a page", its first, and bytes 8-11 of each "name the next or none"
abbrev pub FreeList : List ℕ → List ℕ → Type 0
FreeList b ps = Chained no_page (right_at b) (free_pointer b) ps

-- "Sound": the clauses, each with the paper's words
pub record Sound (b : List ℕ) : Type 0 where
  -- "good header"
  pub header : header_good b ≡ true
  -- the number of levels under the root
  pub height : ℕ
  -- the free list
  pub free : List ℕ
  pub free_list : FreeList b free
  -- "each page but the first is in the tree once or, in that form, on the free list once": only pages other than the first are there, and each of them once
  pub inside : All (λ p. is_page (file_size b) p ≡ true) (index_pages b height)
  pub free_inside : All (λ p. is_page (file_size b) p ≡ true) free
  pub once : (p : ℕ) → is_page (file_size b) p ≡ true → occ p (index_pages b height ++ free) ≡ 1
  pub free_pages : All (FreePage b) free
  -- "attributes 0 to 3"
  pub attributes : All (λ p. attribute_at b p ≤ 3) (index_pages b height)
  -- "root bit on the root only"
  pub root_bits : All (λ p. root_bit (attribute_at b p) ≡ eqb p (root_offset b)) (index_pages b height)
  -- "leaf bit on the bottom level only", which is level 0
  pub leaf_bits : (j : ℕ) → j ≤ height → All (λ p. leaf_bit (attribute_at b p) ≡ eqb j 0) (level j height (index_tree b height))
  -- "all leaves on one level": in the type of the tree, whose leaves all have `height` levels above them
  -- "at most 15 levels": the root's and those under it
  pub levels : height + 1 ≤ max_levels
  -- "counts 1 to capacity, save that a lone root leaf may have 0"
  pub counts : All (CountGood b (key_length b) height) (index_pages b height)
  -- "leaf keys strictly ascending left to right as unsigned bytes"; for features 0 "leaf pairs, not leaf keys, ascend strictly, by key, then record number"
  pub ascending : Ascending (kept_by b).pair_le (pairs height (index_tree b height))
  -- "record numbers above 0"
  pub records : All (λ e. 0 < e.1) (pairs height (index_tree b height))
  -- "the key above a child is at or above every leaf key under it, and below the first leaf key under the next child of the same page"; "For 0, the next
  -- child's keys may equal the key above"
  pub ceilings : Ceilings (kept_by b) height (index_tree b height)
  -- "left and right name the neighbours on the level"
  pub links : AllLinked no_page (links_of b) height (index_tree b height)

-- the entries of a sound index: the pairs of key and record number of its leaves, left to right
abbrev pub leaf_pairs : (b : List ℕ) → Sound b → List (List ℕ × ℕ)
leaf_pairs b s = pairs s.height (index_tree b s.height)

-- the audit's answer: 24 exactly if the header is not good, 0 exactly if the index is sound, 25 in every other case
pub record Audited (b : List ℕ) (r : ℕ) : Type 0 where
  pub bad : (r ≡ 24) ↔ (header_good b ≡ false)
  pub sound : (r ≡ 0) ↔ Sound b
  pub other : (r ≡ 24) ⊎ (r ≡ 0) ⊎ (r ≡ 25)
