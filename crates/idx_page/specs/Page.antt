-- Rules: a page of an index, its entries by number, and the checks and the search of a page that lookup visits. Cited by lookup, insertion and `Sound`.
use Rattle.std.specs.Prelude.{ℕ, zero, suc, ◌+◌, ◌*◌, ◌/◌, ◌%◌, Bool, true, false, ◌&&◌, ◌||◌, not, List, eqb, leb}
use Rattle.std.specs.Bool.{beq}
use Rattle.octets.specs.Bytes.{le16, le32, be32}
use Rattle.octets.specs.Store.{window}
use Rattle.octets.specs.Order.{bytes_le}
use Rattle.idx_page.specs.Header.{is_page}

-- "0-1 attribute (1 root, 2 leaf, summed), 2-3 count, 4-7 left, 8-11 right, then entries": where each stands after the page's offset; the attribute is first
abbrev pub count_place : ℕ
count_place = 2

abbrev pub left_place : ℕ
left_place = 4

abbrev pub right_place : ℕ
right_place = 8

abbrev pub entries_start : ℕ
entries_start = 12

abbrev pub entry_area : ℕ
entry_area = 500

-- the numbers at the head of the page at p
abbrev pub attribute_at : List ℕ → ℕ → ℕ
attribute_at b p = le16 b p

abbrev pub count_at : List ℕ → ℕ → ℕ
count_at b p = le16 b (p + count_place)

abbrev pub left_at : List ℕ → ℕ → ℕ
left_at b p = le32 b (p + left_place)

abbrev pub right_at : List ℕ → ℕ → ℕ
right_at b p = le32 b (p + right_place)

-- the root bit and the leaf bit of an attribute that is 0 to 3
abbrev pub root_bit : ℕ → Bool
root_bit a = eqb (a % 2) 1

abbrev pub leaf_bit : ℕ → Bool
leaf_bit a = leb 2 a

-- "Capacity is 500 / (k + 4) rounded down"
unfoldable pub capacity : ℕ → ℕ
capacity k = entry_area / (k + 4)

-- "entries of k + 4 bytes: key, then record number in a leaf, child offset above": where entry i begins, its key and its number
unfoldable pub entry_offset : ℕ → ℕ → ℕ → ℕ
entry_offset k p i = p + entries_start + i * (k + 4)

abbrev pub key_at : List ℕ → ℕ → ℕ → ℕ → List ℕ
key_at b k p i = window b (entry_offset k p i) k

abbrev pub number_at : List ℕ → ℕ → ℕ → ℕ → ℕ
number_at b k p i = be32 b (entry_offset k p i + k)

-- "attribute in 0-3, root bit on the first alone, .. a leaf if it is the 15th"
unfoldable pub attribute_good : ℕ → Bool → Bool → Bool
attribute_good a first last = leb a 3 && (beq (root_bit a) first && (leaf_bit a || not last))

-- "count as above": "counts 1 to capacity, save that a lone root leaf may have 0"
unfoldable pub count_good : ℕ → ℕ → ℕ → Bool
count_good k a n = leb n (capacity k) && (leb 1 n || eqb a 3)

-- "It checks the pages it visits only: offset, attribute in 0-3, root bit on the first alone, count as above, a leaf if it is the 15th": the page at p, in a
-- file of `size` bytes with keys of k bytes
unfoldable pub page_good : List ℕ → ℕ → ℕ → ℕ → Bool → Bool → Bool
page_good b k size p first last =
    is_page size p && (attribute_good (attribute_at b p) first last && count_good k (attribute_at b p) (count_at b p))

-- "the first entry at or above the key": of n entries from entry i on; i + n if there is none
unfoldable pub first_at_or_above : (ℕ → List ℕ) → List ℕ → ℕ → ℕ → ℕ
first_at_or_above keys key zero i = i
first_at_or_above keys key (suc n) i = elim (bytes_le key (keys i)) [ true ↦ i | false ↦ first_at_or_above keys key n (i + 1) ]
