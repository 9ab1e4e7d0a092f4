-- Rules: an index file's limits and its header. Cited by every call on an index.
use Rattle.std.specs.Prelude.{ℕ, ◌+◌, ◌%◌, Bool, ◌&&◌, ◌||◌, List, length, eqb, leb}
use Rattle.octets.specs.Bytes.{byte_at, le16, le32}
-- "pages of 512 bytes" and "0xFFFFFFFF for none", which the theory of the index names too
pub use Rattle.tree.specs.Constants.{page_size, no_page}

-- the smallest index, "1,024": a header and one page
abbrev pub min_bytes : ℕ
min_bytes = 1024

-- the largest index, "16,777,216", and the most levels, "at most 15"
abbrev pub max_bytes : ℕ
max_bytes = 16777216

abbrev pub max_levels : ℕ
max_levels = 15

-- "k is 1 to 100"
abbrev pub max_key : ℕ
max_key = 100

-- an offset has 32 bits
abbrev pub max_offset : ℕ
max_offset = 0xFFFFFFFF

-- "0-3 root offset, 4-7 free pointer, 8-11 file size F, 12-13 key length k, 14 features, 16-235 expression": where each number stands
abbrev pub root_place : ℕ
root_place = 0

abbrev pub free_place : ℕ
free_place = 4

abbrev pub size_place : ℕ
size_place = 8

abbrev pub key_length_place : ℕ
key_length_place = 12

abbrev pub features_place : ℕ
features_place = 14

abbrev pub expression_place : ℕ
expression_place = 16

-- the numbers of the header
abbrev pub root_offset : List ℕ → ℕ
root_offset b = le32 b root_place

abbrev pub free_pointer : List ℕ → ℕ
free_pointer b = le32 b free_place

abbrev pub file_size : List ℕ → ℕ
file_size b = le32 b size_place

abbrev pub key_length : List ℕ → ℕ
key_length b = le16 b key_length_place

abbrev pub features : List ℕ → ℕ
features b = byte_at b features_place

-- the features of an index with one record to a key; "Refusal 24 admits 0 and 1" (K12)
abbrev pub good_features : ℕ
good_features = 1

abbrev pub max_features : ℕ
max_features = 1

-- p is the offset of "a page of F other than the first", in a file of `size` bytes
unfoldable pub is_page : ℕ → ℕ → Bool
is_page size p = eqb (p % page_size) 0 && (leb page_size p && leb (p + page_size) size)

-- "F is a multiple of 512 from 1,024 to 16,777,216 and within the buffer"
unfoldable pub size_good : ℕ → ℕ → Bool
size_good buffer size = eqb (size % page_size) 0 && (leb min_bytes size && (leb size max_bytes && leb size buffer))

-- "k is 1 to 100"
unfoldable pub key_length_good : ℕ → Bool
key_length_good k = leb 1 k && leb k max_key

-- the free pointer is 0xFFFFFFFF, or "may now name a page, as the root offset does"
unfoldable pub free_good : ℕ → ℕ → Bool
free_good size p = eqb p no_page || is_page size p

-- "It is good when the buffer has at least 512 bytes, F is .., the root offset is a page of F other than the first, k is 1 to 100, the free pointer" is good
-- and features is 0 or 1; "else 24"
unfoldable pub header_good : List ℕ → Bool
header_good b =
    leb page_size (length b)
    && (size_good (length b) (file_size b)
    && (is_page (file_size b) (root_offset b)
    && (key_length_good (key_length b) && (free_good (file_size b) (free_pointer b) && leb (features b) max_features))))
