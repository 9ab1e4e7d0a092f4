-- Rules: the header and pages as bytes. Cited by insertion, by removal and by fresh. A buffer b is read up to its own length here.
use Rattle.std.specs.Prelude.{ℕ, ◌+◌, ◌-◌, ◌%◌, cond, List, [], ◌∷◌, ◌++◌, length, take, drop, replicate}
use Rattle.octets.specs.Bytes.{to_le16, to_le32}
use Rattle.octets.specs.Store.{put}
use Rattle.tree.specs.Lists.{half}
use Rattle.idx_page.specs.Header.{page_size, no_page, root_place, free_place, size_place, expression_place, free_pointer, is_page}
use Rattle.idx_page.specs.Page.{attribute_at, left_at, right_at, count_place, left_place, right_place, entries_start, entry_area}
use Rattle.idx_page.specs.Reading.{Item}

-- entries as bytes: each the key, then the number
unfoldable pub encode : List Item → List ℕ
encode [] = []
encode (e ∷ es) = e.0 ++ (e.1 ++ encode es)

-- a page's entry area: "zero after its last entry"
unfoldable pub area : List Item → List ℕ
area es = encode es ++ replicate (entry_area - length (encode es)) 0

-- the page at p with another attribute, count, left or right neighbour
abbrev pub with_attribute : List ℕ → ℕ → ℕ → List ℕ
with_attribute b p attribute = put b p (to_le16 attribute)

abbrev pub with_count : List ℕ → ℕ → ℕ → List ℕ
with_count b p count = put b (p + count_place) (to_le16 count)

abbrev pub with_left : List ℕ → ℕ → ℕ → List ℕ
with_left b p left = put b (p + left_place) (to_le32 left)

abbrev pub with_right : List ℕ → ℕ → ℕ → List ℕ
with_right b p right = put b (p + right_place) (to_le32 right)

-- the header with another root offset, free pointer or file size
abbrev pub with_root : List ℕ → ℕ → List ℕ
with_root b root = put b root_place (to_le32 root)

abbrev pub with_free : List ℕ → ℕ → List ℕ
with_free b free = put b free_place (to_le32 free)

abbrev pub with_size : List ℕ → ℕ → List ℕ
with_size b size = put b size_place (to_le32 size)

-- a header written whole: "0-3 root offset, 4-7 free pointer, 8-11 file size F, 12-13 key length k, 14 features, 16-235 expression", all else zero
abbrev pub header_bytes : ℕ → ℕ → ℕ → ℕ → List ℕ → List ℕ
header_bytes root size k f e =
    to_le32 root ++ (to_le32 no_page ++ (to_le32 size ++ (to_le16 k ++ (f ∷ 0 ∷ (e ++ replicate (page_size - expression_place - length e) 0)))))

-- the page at p with other entries: its count and its entry area
unfoldable pub with_entries : List ℕ → ℕ → List Item → List ℕ
with_entries b p es = put (with_count b p (length es)) (p + entries_start) (area es)

-- a page written whole: "0-1 attribute, 2-3 count, 4-7 left, 8-11 right, then entries"
unfoldable pub new_page : List ℕ → ℕ → ℕ → ℕ → ℕ → List Item → List ℕ
new_page b p attribute left right es =
    put b p (to_le16 attribute ++ (to_le16 (length es) ++ (to_le32 left ++ (to_le32 right ++ area es))))

-- an attribute without the root bit
abbrev pub without_root : ℕ → ℕ
without_root a = a - a % 2

-- the page beyond, at r, if there is one, gets q for its left neighbour
unfoldable pub link_beyond : List ℕ → ℕ → ℕ → List ℕ
link_beyond b r q = let linked = with_left b r q in cond (is_page (length b) r) linked b

-- "a page with capacity + 1 entries keeps the lower half, rounded up; the rest go to a new page" at q, its right neighbour. Neither has the root bit, both
-- have the old leaf bit; the page beyond has the new page on its left
unfoldable pub split_page : List ℕ → ℕ → List Item → ℕ → List ℕ
split_page b p es q =
    let m = half (length es) in
    let a = without_root (attribute_at b p) in
    let r = right_at b p in
    let lower = with_right (with_attribute (with_entries b p (take m es)) p a) p q in
    new_page (link_beyond lower r q) q a p r (drop m es)

-- the page before, at l, if there is one, gets q for its right neighbour
unfoldable pub link_before : List ℕ → ℕ → ℕ → List ℕ
link_before b l q = let linked = with_right b l q in cond (is_page (length b) l) linked b

-- the page at p is "unlinked from its neighbours": the page on its right gets the left neighbour of p, and the page on its left the right neighbour of p
unfoldable pub unlinked : List ℕ → ℕ → List ℕ
unlinked b p = let l = left_at b p in let r = right_at b p in link_before (link_beyond b r l) l r

-- the page at p joins "the free list, .. at the head; a free page is zero but for bytes 8-11, which name the next or none": the right link's bytes
unfoldable pub freed : List ℕ → ℕ → List ℕ
freed b p = with_free (new_page b p 0 0 (free_pointer b) []) p
