-- Rules: lookup in an NDX index: "Answers as for IDX, refusals 24, 27 and 25 in its order". Cited by the contract of lookup and by the laws of sound indexes.
use Rattle.std.specs.Prelude.{ℕ, zero, suc, ◌-◌, Bool, true, false, cond, List, [], ◌∷◌, length, eqb, Err, Result, Ok}
use Rattle.refusal.specs.Checks.{unless}
use Rattle.octets.specs.Order.{ordering, is_equal}
use Rattle.idx_page.specs.Page.{first_at_or_above}
use Rattle.idx_lookup.specs.Answer.{Answer, and_then}
use Rattle.idx_lookup.specs.Lookup.{record_of, decided}
use Rattle.idx_lookup.specs.Visit.{Visit}
use Rattle.idx_lookup.specs.Visit as visit
use Rattle.ndx_page.specs.Header.{max_levels, root_page, key_length, header_good}
use Rattle.ndx_page.specs.Page.{count_at, lower_at, record_at, key_at, is_leaf, page_good}
use Rattle.ndx_page.specs.declared.PageNumber.{PageNumber}

-- a lower page's number
abbrev pub page_of : ℕ → PageNumber
page_of n = record { 0 = n }

-- what a leaf says by entry i, its first at or above the key, which is the count if there is none: "a found key is an equal one in the leaf"
unfoldable pub leaf_says : List ℕ → List ℕ → ℕ → ℕ → Visit PageNumber
leaf_says b key p i =
    cond (eqb i (count_at b p)) visit.Absent
    (cond (is_equal (ordering (key_at b p i) key)) (visit.Found (record_of (record_at b p i))) visit.Absent)

-- a branch says the lower page of that entry; "lookup takes that child when no key is at or above its own": the extra child stands at the count
unfoldable pub entry_says : List ℕ → List ℕ → ℕ → ℕ → Visit PageNumber
entry_says b key p i = cond (is_leaf b p) (leaf_says b key p i) (visit.Child (page_of (lower_at b p i)))

-- what page p says
unfoldable pub page_says : List ℕ → List ℕ → ℕ → Visit PageNumber
page_says b key p = entry_says b key p (first_at_or_above (key_at b p) key (count_at b p) 0)

-- a visit of page p: its checks come before its entries, "a failure is 25"
unfoldable pub visit_rule : List ℕ → List ℕ → ℕ → Bool → Bool → Result (Visit PageNumber) ℕ
visit_rule b key p first last = elim (page_good b p first last) [ true ↦ Ok (page_says b key p) | false ↦ Err 25 ]

-- lookup "goes down level by level": from page p on, with a number of levels left, falling from 15; the page that is visited with all levels left is the
-- first, and the page with none left under it is the 15th
unfoldable pub lookup_from : ℕ → List ℕ → List ℕ → ℕ → Answer
lookup_from zero b key p = Err 25
lookup_from (suc left) b key p =
    and_then (visit_rule b key p (eqb (max_levels - left) 1) (eqb left 0)) (decided (λ c. lookup_from left b key c.0) (max_levels - left))

-- the answer: "24, 27", then the steps from the root with 15 levels left
unfoldable pub lookup_rule : List ℕ → List ℕ → Answer
lookup_rule b key =
    unless ((header_good b, 24) ∷ (eqb (length key) (key_length b), 27) ∷ []) Err (lookup_from max_levels b key (root_page b))
