-- Rules: an NDX file's limits and its header, in change request K13's words: "Every NDX number, in entries too, is low byte first". Cited by every call on an
-- NDX index.
use Rattle.std.specs.Prelude.{ℕ, ◌+◌, ◌*◌, ◌/◌, Bool, ◌&&◌, List, length, eqb, leb, ltb}
use Rattle.octets.specs.Bytes.{le16, le32}
use Rattle.idx_page.specs.Header.{key_length_good}
-- "limits as K9"
pub use Rattle.idx_page.specs.Header.{page_size, max_key, max_bytes, max_levels}

-- "Root page 0-3, page count 4-7", "Key length 12-13, keys per page 14-15, key type 16-17, entry size 18-19": where each number stands
abbrev pub root_place : ℕ
root_place = 0

abbrev pub pages_place : ℕ
pages_place = 4

abbrev pub key_length_place : ℕ
key_length_place = 12

abbrev pub keys_place : ℕ
keys_place = 14

abbrev pub key_type_place : ℕ
key_type_place = 16

abbrev pub entry_size_place : ℕ
entry_size_place = 18

-- the numbers of the header
abbrev pub root_page : List ℕ → ℕ
root_page b = le32 b root_place

abbrev pub page_count : List ℕ → ℕ
page_count b = le32 b pages_place

abbrev pub key_length : List ℕ → ℕ
key_length b = le16 b key_length_place

abbrev pub keys_per_page : List ℕ → ℕ
keys_per_page b = le16 b keys_place

abbrev pub key_type : List ℕ → ℕ
key_type b = le16 b key_type_place

abbrev pub entry_size : List ℕ → ℕ
entry_size b = le16 b entry_size_place

-- "character keys (key type 0)"
abbrev pub character_keys : ℕ
character_keys = 0

-- "keys per page at least 1 and, times entry size, at most 504"
abbrev pub entry_area : ℕ
entry_area = 504

-- p is the number of "a page but the first", of so many pages
unfoldable pub is_page : ℕ → ℕ → Bool
is_page pages p = leb 1 p && ltb p pages

-- "pages × 512 within the buffer and the limit"
unfoldable pub pages_good : ℕ → ℕ → Bool
pages_good buffer pages = leb (pages * page_size) buffer && leb (pages * page_size) max_bytes

-- "k + 8 rounded up to a multiple of 4"
unfoldable pub entry_size_of : ℕ → ℕ
entry_size_of k = (k + 8 + 3) / 4 * 4

-- "keys per page at least 1 and, times entry size, at most 504"
unfoldable pub keys_good : ℕ → ℕ → Bool
keys_good keys size = leb 1 keys && leb (keys * size) entry_area

-- "Header good: key type 0, pages × 512 within the buffer and the limit, root a page but the first, k 1 to 100, entry size k + 8 rounded up to a multiple of 4,
-- keys per page at least 1 and, times entry size, at most 504"; the header itself is 512 bytes of the buffer
unfoldable pub header_good : List ℕ → Bool
header_good b =
    leb page_size (length b)
    && (eqb (key_type b) character_keys
    && (pages_good (length b) (page_count b)
    && (is_page (page_count b) (root_page b)
    && (key_length_good (key_length b) && (eqb (entry_size b) (entry_size_of (key_length b)) && keys_good (keys_per_page b) (entry_size b))))))
