-- Steps: the audit's test as it is computed, in two passes, each page by page and level by level. The inner functions of the audit and of the match cite its
-- parts; the rules of insertion and removal, which have to compute, tell 25 by `pages_good`. A reader need not believe the test: Accepted proves that it
-- accepts exactly the sound indexes, and idx_book/InsertionAnswers and RemovalAnswers say what 25 means by `Sound`.
-- The first pass, from the root down, tests all but the keys above pages: the shape. Each of its checks is local to a page and its left neighbour; it carries
-- the left neighbour along, and how many pages of the file are left, which it counts a row at a time: the children of one page. No page can be met twice, as
-- DistinctLaws proves: so every page but the first was met once if as many were met as the file has. The second pass, from the leaves up, tests each key above
-- a page once: the links are good by then, and the height is known. It carries along whether the level below is exact, which says where the last leaf key under
-- a child stands.
use Rattle.std.specs.Prelude.{ℕ, zero, suc, ◌+◌, ◌-◌, ◌/◌, List, [], ◌∷◌, map, Bool, true, false, cond, not, ◌&&◌, ◌||◌, length, eqb, leb}
use Rattle.std.proofs.Math.Option.{Option, none, some}
use Rattle.octets.specs.Store.{window}
use Rattle.octets.specs.Order.{ordering, is_below, is_equal}
use Rattle.tree.specs.Keeping.{pair_order, covers_for}
use Rattle.idx_page.specs.Header.{max_bytes, max_levels, page_size, no_page, root_offset, free_pointer, file_size, key_length, features, is_page}
use Rattle.idx_page.specs.Page.{attribute_at, count_at, left_at, right_at, leaf_bit, count_good, right_place, entries_start, entry_area}
use Rattle.idx_page.specs.KeyOrder.{bytes_order}
use Rattle.idx_page.specs.Reading.{entries_at}
use Rattle.idx_page.specs.Children.{is_leaf, children_of, first_child}
use Rattle.idx_sound.specs.Sound.{zeros}

abbrev pub Entries : Type 0
Entries = List (List ℕ × ℕ)

-- the largest number of pages
abbrev pub max_pages : ℕ
max_pages = max_bytes / page_size

-- the first key of entries; and the last, o if there are none
abbrev pub first_of : Entries → Option (List ℕ)
first_of [] = none
first_of (e ∷ es) = some e.0

abbrev pub last_of : Option (List ℕ) → Entries → Option (List ℕ)
last_of o [] = o
last_of o (e ∷ es) = last_of (some e.0) es

-- the last of entries, o if there are none
abbrev pub last_pair : Option (List ℕ × ℕ) → Entries → Option (List ℕ × ℕ)
last_pair o [] = o
last_pair o (e ∷ es) = last_pair (some e) es

-- by a header's features f, the pair x is above the other pair, if there is one
abbrev pub is_above : ℕ → Option (List ℕ × ℕ) → List ℕ × ℕ → Bool
is_above f none x = true
is_above f (some a) x = not (pair_order bytes_order f x a)

-- the entries of a leaf, after the pair o: each pair is above the pair before it, each record number above 0
unfoldable pub leaf_entries_good : ℕ → Option (List ℕ × ℕ) → Entries → Bool
leaf_entries_good f o [] = true
leaf_entries_good f o (e ∷ es) = (not (eqb e.1 0) && is_above f o e) && leaf_entries_good f (some e) es

-- the number of the last entry, n if there is none
abbrev pub last_number : ℕ → Entries → ℕ
last_number n [] = n
last_number n (e ∷ es) = last_number e.1 es

-- the page that f leads to in h steps from the page at p
unfoldable pub down : (ℕ → ℕ) → ℕ → ℕ → ℕ
down f zero p = p
down f (suc h) p = down f h (f p)

-- the key x over a child is a ceiling, if `next` says whether x may stand before the first leaf key under the next child: x is the last leaf key under the
-- child, and then may stand before the next anyway, since leaf pairs ascend; or x is above the last leaf key, and may stand before the next
abbrev pub is_ceiling : Option (List ℕ) → List ℕ → Bool → Bool
is_ceiling none x next = false
is_ceiling (some a) x next = is_equal (ordering a x) || (is_below (ordering a x) && next)

-- the key x over a child is the last leaf key under it
abbrev pub is_last : Option (List ℕ) → List ℕ → Bool
is_last none x = false
is_last (some a) x = is_equal (ordering a x)

-- by a header's features f, the key x may stand before the other key, and there is one: it is below it, or for features 0 at or below it
abbrev pub is_under : ℕ → List ℕ → Option (List ℕ) → Bool
is_under f x none = false
is_under f x (some a) = not (covers_for bytes_order f x a)

-- the attribute of the pages of a level: 1 root, 2 leaf, summed
abbrev pub attribute_of : Bool → Bool → ℕ
attribute_of root leaf = cond root 1 0 + cond leaf 2 0

-- what the audit knows of the pages met on a level: whether all were good, the last page met, the page that its right link names, and how many pages of the
-- file are left that were not met
pub record Progress : Type 0 where
  pub good : Bool
  pub last : ℕ
  pub next : ℕ
  pub left : ℕ

-- what the audit knows of a level: whether it is good, whether its pages are leaves, its first page, and how many pages of the file are left after it
pub record Level : Type 0 where
  pub good : Bool
  pub leaf : Bool
  pub first : ℕ
  pub left : ℕ

-- what the audit knows of keys above pages: whether all are ceilings; and, if they are, whether each page met is exact: its own last key is the last leaf key
-- under it
pub record Keys : Type 0 where
  pub good : Bool
  pub exact : Bool

-- good keys, then what comes after them; or keys that are not all good
unfoldable pub onward : Keys → (Bool → Keys) → Keys
onward r after = elim r.good [ true ↦ after r.exact | false ↦ r ]

-- the start of a level, whose first page has to be `first`, with `left` pages left
abbrev pub start : ℕ → ℕ → Progress
start first left = record { good = true; last = no_page; next = first; left = left }

-- a page was not good, or too few were left: nothing else is kept, so that the loops over pages and entries have nothing to carry for it
abbrev pub refused : Progress
refused = record { good = false; last = no_page; next = no_page; left = 0 }

-- n pages more, if as many are left
unfoldable pub counted : ℕ → Progress → Progress
counted n s = cond (s.good && leb n s.left) (record { good = true; last = s.last; next = s.next; left = s.left - n }) refused

-- the pages from p on, n at most, each named by the right link of the one before it
unfoldable pub chain : List ℕ → ℕ → ℕ → ℕ → List ℕ
chain b size zero p = []
chain b size (suc n) p = elim (is_page size p) [ true ↦ p ∷ chain b size n (right_at b p) | false ↦ [] ]

-- a level at its end: it is good if no page is on the right of its last page
abbrev pub closed : Bool → ℕ → Progress → Level
closed leaf first s = record { good = s.good && eqb s.next no_page; leaf = leaf; first = first; left = s.left }

-- the page at p is zero but for bytes 8-11
unfoldable pub is_free_page : List ℕ → ℕ → Bool
is_free_page b p =
    is_equal (ordering (window b p right_place) (zeros right_place))
    && is_equal (ordering (window b (p + entries_start) entry_area) (zeros entry_area))

-- the page at p is a free page of the file
unfoldable pub free_fits : List ℕ → ℕ → ℕ → Bool
free_fits b size p = is_page size p && is_free_page b p

-- the free list from p on has n pages: each fits, and the last names none
unfoldable pub check_free : List ℕ → ℕ → ℕ → ℕ → Bool
check_free b size zero p = eqb p no_page
check_free b size (suc n) p = elim (free_fits b size p) [ true ↦ check_free b size n (right_at b p) | false ↦ false ]

module _ (b : List ℕ) (k size : ℕ) where
  abbrev pub entries_of : ℕ → Entries
  entries_of p = entries_at k size b p

  -- the entries of the page at p are good if it is a leaf, with the page `last` on its left
  unfoldable pub entries_fit : ℕ → ℕ → ℕ → Bool
  entries_fit a last p = cond (leaf_bit a) (leaf_entries_good (features b) (last_pair none (entries_of last)) (entries_of p)) true

  -- the page at p has the attribute a, a good count, links that agree with the page `last` on its left, and good entries
  unfoldable pub page_fits : ℕ → ℕ → ℕ → ℕ → Bool
  page_fits a p last next =
      is_page size p
      && (eqb (attribute_at b p) a
      && (count_good k a (count_at b p) && (eqb (left_at b p) last && (eqb next p && entries_fit a last p))))

  -- one page more
  unfoldable pub check_page : ℕ → ℕ → Progress → Progress
  check_page a p s =
      cond (s.good && page_fits a p s.last s.next) (record { good = true; last = p; next = right_at b p; left = s.left }) refused

  -- one page after another
  unfoldable pub check_pages : ℕ → List ℕ → Progress → Progress
  check_pages a [] s = s
  check_pages a (p ∷ ps) s = check_pages a ps (check_page a p s)

  -- one row of pages after another, each counted before it is looked at
  unfoldable pub check_rows : ℕ → List (List ℕ) → Progress → Progress
  check_rows a [] s = s
  check_rows a (r ∷ rs) s = check_rows a rs (check_pages a r (counted (length r) s))

  -- a level of these rows, of which `first` has to be the first page, with `left` pages left before it
  abbrev pub check_level : Bool → ℕ → List (List ℕ) → ℕ → Level
  check_level root first rows left = closed (is_leaf b size first) first (check_rows (attribute_of root (is_leaf b size first)) rows (start first left))

  -- the root's level
  unfoldable pub root_level : ℕ → ℕ → Level
  root_level root left = check_level true root ((root ∷ []) ∷ []) left

  -- the level under a good one whose first page is `first`: a row for the children of each of its pages
  abbrev pub rows_under : ℕ → List (List ℕ)
  rows_under first = map (children_of b k size) (chain b size max_pages first)

  unfoldable pub next_level : ℕ → ℕ → Level
  next_level first left = check_level false (first_child b k size first) (rows_under first) left

  -- the levels under a level, l at most, down to the leaves or the first fault
  unfoldable pub levels_under : ℕ → Level → Level
  levels_under zero v = v
  levels_under (suc l) v = elim (v.good && not v.leaf) [ true ↦ levels_under l (next_level v.first v.left) | false ↦ v ]

  -- the last level is good, its pages are leaves, and the pages that are left are the free list
  abbrev pub complete : ℕ → Level → Bool
  complete free v = v.good && (v.leaf && check_free b size v.left free)

  -- the number of levels under the page at p, l at most, which the first children show
  unfoldable pub height_of : ℕ → ℕ → ℕ
  height_of zero p = 0
  height_of (suc l) p = elim (is_leaf b size p) [ true ↦ 0 | false ↦ suc (height_of l (first_child b k size p)) ]

  -- the last child, or the link to no page if there is none
  abbrev pub last_child : ℕ → ℕ
  last_child p = last_number no_page (entries_of p)

  -- the first and the last of the leaf keys under the page at p, which has h levels under it: down by first entries, and by last entries
  abbrev pub first_leaf_key : ℕ → ℕ → Option (List ℕ)
  first_leaf_key h p = first_of (entries_of (down (first_child b k size) h p))

  abbrev pub last_leaf_key : ℕ → ℕ → Option (List ℕ)
  last_leaf_key h p = last_of none (entries_of (down last_child h p))

  -- the key x may stand before the first leaf key under the next child: the child of the first of the entries es, with h levels under it, if there is one
  abbrev pub below_next : ℕ → List ℕ → Entries → Bool
  below_next h x [] = true
  below_next h x (e ∷ es) = is_under (features b) x (first_leaf_key h e.1)

  -- the key of the entry e, before the entries es of its page: e's child has h levels under it, and the last leaf key under it is looked for d steps down
  abbrev pub upper_entry : ℕ → ℕ → List ℕ × ℕ → Entries → Keys
  upper_entry d h e es =
      record { good = is_ceiling (last_leaf_key d e.1) e.0 (below_next h e.0 es); exact = is_last (last_leaf_key d e.1) e.0 }

  -- the entries of a page above the leaves, after an entry that is exact if x is true: the page is exact if its last entry is
  unfoldable pub upper_entries : ℕ → ℕ → Bool → Entries → Keys
  upper_entries d h x [] = record { good = true; exact = x }
  upper_entries d h x (e ∷ es) = onward (upper_entry d h e es) (λ y. upper_entries d h y es)

  -- the pages of a level above the leaves, after pages that are exact if x is true
  unfoldable pub upper_pages : ℕ → ℕ → Bool → List ℕ → Keys
  upper_pages d h x [] = record { good = true; exact = x }
  upper_pages d h x (p ∷ ps) = onward (upper_entries d h true (entries_of p)) (λ y. upper_pages d h (x && y) ps)

  -- the level whose first page is `first`, which has h levels under it, after those levels: if the level below is exact, the last leaf key under a child is the
  -- child's own last key, and no test has to go down for it
  unfoldable pub upper_levels : ℕ → ℕ → Keys
  upper_levels zero first = record { good = true; exact = true }
  upper_levels (suc h) first =
      onward (upper_levels h (first_child b k size first)) (λ y. upper_pages (cond y 0 h) h true (chain b size max_pages first))

  -- the keys above pages under the root, which has h levels under it
  abbrev pub keys_under_good : ℕ → ℕ → Bool
  keys_under_good h root = (upper_levels h root).good

-- the pages of a file but the first
abbrev pub later_pages : ℕ → ℕ
later_pages size = size / page_size - 1

-- all but the keys above pages, of an index whose header is good
unfoldable pub shape_good : List ℕ → Bool
shape_good b =
    complete b (key_length b) (file_size b) (free_pointer b)
    (levels_under b (key_length b) (file_size b) (max_levels - 1) (root_level b (key_length b) (file_size b) (root_offset b) (later_pages (file_size b))))

-- the keys above pages
unfoldable pub keys_above_good : List ℕ → Bool
keys_above_good b =
    keys_under_good b (key_length b) (file_size b) (height_of b (key_length b) (file_size b) (max_levels - 1) (root_offset b)) (root_offset b)

-- all pages
unfoldable pub pages_good : List ℕ → Bool
pages_good b = shape_good b && keys_above_good b
