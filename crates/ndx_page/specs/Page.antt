-- Rules: a page of an NDX index, its entries by number, and the checks of a page that lookup visits. Cited by lookup and by `Sound`.
use Rattle.std.specs.Prelude.{ℕ, ◌+◌, ◌*◌, Bool, ◌&&◌, ◌||◌, not, List, eqb, leb}
use Rattle.octets.specs.Bytes.{le32}
use Rattle.octets.specs.Store.{window}
use Rattle.ndx_page.specs.Header.{page_size, page_count, key_length, keys_per_page, entry_size, is_page}

-- where page p begins: "Pages of 512", named by their numbers
abbrev pub page_start : ℕ → ℕ
page_start p = p * page_size

-- "count in 0-3, entries from byte 4"
abbrev pub count_at : List ℕ → ℕ → ℕ
count_at b p = le32 b (page_start p)

abbrev pub entries_start : ℕ
entries_start = 4

-- where entry i of page p begins, with entries of `size` bytes
unfoldable pub entry_offset : ℕ → ℕ → ℕ → ℕ
entry_offset size p i = page_start p + entries_start + i * size

-- "lower page 4 bytes, record 4 bytes, key": where record and key stand in an entry
abbrev pub record_place : ℕ
record_place = 4

abbrev pub key_place : ℕ
key_place = 8

unfoldable pub lower_at : List ℕ → ℕ → ℕ → ℕ
lower_at b p i = le32 b (entry_offset (entry_size b) p i)

unfoldable pub record_at : List ℕ → ℕ → ℕ → ℕ
record_at b p i = le32 b (entry_offset (entry_size b) p i + record_place)

unfoldable pub key_offset : List ℕ → ℕ → ℕ → ℕ
key_offset b p i = entry_offset (entry_size b) p i + key_place

unfoldable pub key_at : List ℕ → ℕ → ℕ → List ℕ
key_at b p i = window b (key_offset b p i) (key_length b)

-- "Lower page 0 in the first place makes a leaf"
unfoldable pub is_leaf : List ℕ → ℕ → Bool
is_leaf b p = eqb (lower_at b p 0) 0

-- "Counts run from 1 to keys per page, 0 for a lone root leaf": a count n, at most `most`, of a page that is the root or not, and a leaf or not
unfoldable pub count_good : ℕ → ℕ → Bool → Bool → Bool
count_good most n root leaf = leb n most && (leb 1 n || (root && leaf))

-- lookup "checks only each visited page's number, count and, on the 15th, that it is a leaf": page p is the first visited or not, the last that may be or not
unfoldable pub page_good : List ℕ → ℕ → Bool → Bool → Bool
page_good b p first last =
    is_page (page_count b) p && (count_good (keys_per_page b) (count_at b p) first (is_leaf b p) && (is_leaf b p || not last))
