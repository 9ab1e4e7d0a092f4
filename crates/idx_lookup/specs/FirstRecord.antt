-- Rules: lookup in an index of features 0, which "gives the key's first record": the steps from the root down and to the right neighbour, on any bytes, and the
-- answer. "On a page other than the root with no entry at or above the key it goes down the last one or, from a leaf, to the right neighbour, whose first entry
-- decides (none: absent), so it visits at most levels + 1 pages."
use Rattle.std.specs.Prelude.{ℕ, zero, suc, ◌+◌, ◌-◌, true, false, cond, List, length, eqb, Err}
use Rattle.octets.specs.Order.{ordering, is_equal}
use Rattle.idx_page.specs.Header.{max_levels, no_page, file_size}
use Rattle.idx_page.specs.Page.{attribute_at, count_at, right_at, leaf_bit, key_at, number_at, page_good, first_at_or_above}
use Rattle.idx_page.specs.declared.PageOffset.{PageOffset}
use Rattle.idx_page.specs.declared.RecordNumber.{RecordNumber}
use Rattle.idx_lookup.specs.Answer.{Answer, found, absent}

-- an entry's number, taken as the offset of a child or as the number of a record
abbrev pub offset_of : ℕ → PageOffset
offset_of n = record { 0 = n }

abbrev pub record_of : ℕ → RecordNumber
record_of n = record { 0 = n }

-- entry i of the leaf at p decides, after `pages` pages: "a found key is an equal one in the leaf"
unfoldable pub entry_decides : List ℕ → List ℕ → ℕ → ℕ → ℕ → Answer
entry_decides b key pages p i =
    cond (is_equal (ordering (key_at b (length key) p i) key)) (found (record_of (number_at b (length key) p i)) pages) (absent pages)

-- the right neighbour of a leaf, at q, after `pages` pages: no page more without one; "its page checks apply there too, and a neighbour with count 0 or without
-- the leaf bit is 25"
unfoldable pub neighbour_decides : List ℕ → List ℕ → ℕ → ℕ → Answer
neighbour_decides b key pages q =
    elim (eqb q no_page) [
      | true ↦ absent pages
      | false ↦ elim (page_good b (length key) (file_size b) q false true) [
        | true ↦ entry_decides b key (pages + 1) q 0
        | false ↦ Err 25
      ]
    ]

-- from the page at p on, with a number of levels left, as lookup for features 1 goes: "a failure is 25, tested on each page before its entries are looked at"
unfoldable pub first_from : ℕ → List ℕ → List ℕ → ℕ → Answer
first_from zero b key p = Err 25
first_from (suc left) b key p =
    let i = first_at_or_above (key_at b (length key) p) key (count_at b p) 0 in
    elim (page_good b (length key) (file_size b) p (eqb (max_levels - left) 1) (eqb left 0)) [
      | false ↦ Err 25
      | true ↦ elim (eqb i (count_at b p)) [
        | false ↦ elim (leaf_bit (attribute_at b p)) [
          | true ↦ entry_decides b key (max_levels - left) p i
          | false ↦ first_from left b key (number_at b (length key) p i)
        ]
        | true ↦ elim (eqb (max_levels - left) 1) [
          | true ↦ absent (max_levels - left)
          | false ↦ elim (leaf_bit (attribute_at b p)) [
            | true ↦ neighbour_decides b key (max_levels - left) (right_at b p)
            | false ↦ first_from left b key (number_at b (length key) p (count_at b p - 1))
          ]
        ]
      ]
    ]
