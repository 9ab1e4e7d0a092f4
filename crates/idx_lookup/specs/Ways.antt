-- Steps: the way that a page gives a lookup for features 0, and what it comes to. Only inner contracts, laws and proofs cite them: a reader need not believe
-- them.
use Rattle.std.specs.Prelude.{ℕ, ◌-◌, Bool, true, false, cond, List, length, eqb, Result, Ok, Err}
use Rattle.idx_page.specs.Header.{file_size}
use Rattle.idx_page.specs.Page.{attribute_at, count_at, right_at, leaf_bit, key_at, number_at, page_good, first_at_or_above}
use Rattle.idx_page.specs.declared.PageOffset.{PageOffset}
use Rattle.idx_lookup.specs.FirstRecord.{offset_of, entry_decides, neighbour_decides}
use Rattle.idx_lookup.specs.Answer.{Answer, absent}

-- the way from a page: the key is absent, an entry of the leaf or the right neighbour decides, or lookup goes on to a child
pub data Way : Type 0 where
  Absent : Way
  Entry : ℕ → Way
  Neighbour : PageOffset → Way
  Child : PageOffset → Way

-- the way from a page past the search, which ended at entry i
unfoldable pub entry_way : List ℕ → List ℕ → ℕ → Bool → ℕ → Way
entry_way b key p first i =
    cond (eqb i (count_at b p))
    (cond first Absent
    (cond (leaf_bit (attribute_at b p)) (Neighbour (offset_of (right_at b p))) (Child (offset_of (number_at b (length key) p (count_at b p - 1))))))
    (cond (leaf_bit (attribute_at b p)) (Entry i) (Child (offset_of (number_at b (length key) p i))))

unfoldable pub search_way : List ℕ → List ℕ → ℕ → Bool → Way
search_way b key p first = entry_way b key p first (first_at_or_above (key_at b (length key) p) key (count_at b p) 0)

-- the way from the page at p, once its checks are made
unfoldable pub way_from : List ℕ → List ℕ → ℕ → Bool → Bool → Result Way ℕ
way_from b key p first last = elim (page_good b (length key) (file_size b) p first last) [ true ↦ Ok (search_way b key p first) | false ↦ Err 25 ]

-- what a way from the page at p comes to, after `pages` pages; `go` is the lookup from a child on
abbrev pub way_decides : (ℕ → Answer) → List ℕ → List ℕ → ℕ → ℕ → Way → Answer
way_decides go b key pages p Absent = absent pages
way_decides go b key pages p (Entry i) = entry_decides b key pages p i
way_decides go b key pages p (Neighbour q) = neighbour_decides b key pages q.0
way_decides go b key pages p (Child c) = go c.0
