-- Rules: a page's entries after a pair goes in, a page below was split or an entry goes. Cited by insertion and by removal.
use Rattle.std.specs.Prelude.{ℕ, cond, not, ◌&&◌, List, [], ◌∷◌, length, ltb}
use Rattle.octets.specs.Bytes.{to_be32}
use Rattle.octets.specs.Store.{put}
use Rattle.octets.specs.Order.{bytes_le}
use Rattle.tree.specs.Order.{larger}
use Rattle.tree.specs.Pairs.{last_key}
use Rattle.tree.specs.Position.{replace_at}
use Rattle.idx_page.specs.Page.{entry_offset}
use Rattle.idx_page.specs.KeyOrder.{bytes_order}
use Rattle.idx_page.specs.Reading.{Item}
use Rattle.idx_leaf.specs.Leaf.{items_in, item_of}

-- entries with those of f in the place of entry i
abbrev pub replaced : ℕ → (Item → List Item) → List Item → List Item
replaced i f es = replace_at i (f (item_of i es)) es

-- insertion "raises each key above that is lower than the new key" (K1): if no page below it splits, the page at p changes only the key of entry i, the one
-- gone through, and only if the new key is above that key. A page without such an entry stays
unfoldable pub raised : ℕ → List ℕ → List ℕ → ℕ → ℕ → List ℕ
raised k b key p i =
    let es = items_in k b p in
    let higher = put b (entry_offset k p i) key in
    cond (ltb i (length es) && not (bytes_le key (item_of i es).0)) higher b

-- two entries for the one above a page that was split: "the left half gets its own last key above it; the right half keeps the larger of the old key above and
-- the new key" (K1). The left half is the old page, the right half the new page at q
abbrev pub two_for : ℕ → List ℕ → List ℕ → ℕ → ℕ → Item → List Item
two_for k b key c q e = (last_key key (items_in k b c), e.1) ∷ (larger bytes_order e.0 key, to_be32 q) ∷ []

-- the entries of a new root, over the halves at p and q: each has "its own last key" above it (K1)
abbrev pub root_entries : ℕ → List ℕ → List ℕ → ℕ → ℕ → List Item
root_entries k b key p q = (last_key key (items_in k b p), to_be32 p) ∷ (last_key key (items_in k b q), to_be32 q) ∷ []

-- "The entry goes: the later entries of the page move up": entries without entry i
abbrev pub without_entry : ℕ → List Item → List Item
without_entry i es = replace_at i [] es
