-- Rules: lookup, "(24, 27, 25)": the steps from the root down, on any bytes, and the answer. Cited by the contract of lookup, by insertion and by the claim
-- about lists of calls.
use Rattle.std.specs.Prelude.{ℕ, zero, suc, ◌-◌, Bool, true, false, cond, List, [], ◌∷◌, length, eqb, Result, Ok, Err, is_some, unwrap_or, option_map}
use Rattle.refusal.specs.Checks.{unless}
use Rattle.octets.specs.Order.{ordering, is_equal}
use Rattle.idx_page.specs.Header.{max_levels, root_offset, file_size, key_length, features, header_good}
use Rattle.idx_page.specs.Page.{attribute_at, count_at, leaf_bit, key_at, number_at, page_good, first_at_or_above}
use Rattle.idx_lookup.specs.FirstRecord.{first_from}
-- an entry's number, taken as the offset of a child or as the number of a record
pub use Rattle.idx_lookup.specs.FirstRecord.{offset_of, record_of}
use Rattle.idx_page.specs.declared.PageOffset.{PageOffset}
use Rattle.idx_page.specs.declared.RecordNumber.{RecordNumber}
use Rattle.idx_lookup.specs.Answer.{Answer, found, absent, and_then}
use Rattle.idx_lookup.specs.Visit.{Visit}
use Rattle.idx_lookup.specs.Visit as visit

-- the code of the answer for an absent key
abbrev pub absent_code : ℕ
absent_code = 257

-- what the page at p says by entry i, "the first entry at or above the key; none there: absent"; "a found key is an equal one in the leaf"
unfoldable pub entry_says : List ℕ → List ℕ → ℕ → ℕ → Visit PageOffset
entry_says b key p i =
    cond (eqb i (count_at b p)) visit.Absent
    (cond (leaf_bit (attribute_at b p))
    (cond (is_equal (ordering (key_at b (length key) p i) key)) (visit.Found (record_of (number_at b (length key) p i))) visit.Absent)
    (visit.Child (offset_of (number_at b (length key) p i))))

-- what the page at p says
unfoldable pub page_says : List ℕ → List ℕ → ℕ → Visit PageOffset
page_says b key p = entry_says b key p (first_at_or_above (key_at b (length key) p) key (count_at b p) 0)

-- a visit of the page at p: "a failure is 25, tested on each page before its entries are looked at"
unfoldable pub visit_rule : List ℕ → List ℕ → ℕ → Bool → Bool → Result (Visit PageOffset) ℕ
visit_rule b key p first last = elim (page_good b (length key) (file_size b) p first last) [ true ↦ Ok (page_says b key p) | false ↦ Err 25 ]

-- what a visit decides after `pages` pages, in an index of either format; `go` is lookup from a child on
abbrev pub decided : {P : Type 0} → (P → Answer) → ℕ → Visit P → Answer
decided go pages visit.Absent = absent pages
decided go pages (visit.Found r) = found r pages
decided go pages (visit.Child c) = go c

-- lookup "goes down level by level": from the page at p on, with a number of levels left, "falling from 15"; the page that is visited with all levels left is
-- the first, and the page with none left under it is the 15th
unfoldable pub lookup_from : ℕ → List ℕ → List ℕ → ℕ → Answer
lookup_from zero b key p = Err 25
lookup_from (suc left) b key p =
    and_then (visit_rule b key p (eqb (max_levels - left) 1) (eqb left 0)) (decided (λ c. lookup_from left b key c.0) (max_levels - left))

-- the steps from the root with 15 levels left, by the header's features: "Lookup for 0 gives the key's first record"
abbrev pub lookup_steps : ℕ → List ℕ → List ℕ → Answer
lookup_steps zero b key = first_from max_levels b key (root_offset b)
lookup_steps (suc n) b key = lookup_from max_levels b key (root_offset b)

-- the answer: "24, 27", then the steps
unfoldable pub lookup_rule : List ℕ → List ℕ → Answer
lookup_rule b key =
    unless ((header_good b, 24) ∷ (eqb (length key) (key_length b), 27) ∷ []) Err (lookup_steps (features b) b key)

-- the code of an answer: 0 if the key is found, 257 if it is absent, or the refusal's number
abbrev pub lookup_code : Answer → ℕ
lookup_code (Ok outcome) = cond (is_some outcome.found) 0 absent_code
lookup_code (Err n) = n

-- the record of an answer, and the pages visited; `old` if the answer has none
abbrev pub answer_record : Answer → ℕ → ℕ
answer_record (Ok outcome) old = unwrap_or (option_map (λ (r : RecordNumber). r.0) outcome.found) old
answer_record (Err n) old = old

abbrev pub answer_pages : Answer → ℕ → ℕ
answer_pages (Ok outcome) old = outcome.pages
answer_pages (Err n) old = old
