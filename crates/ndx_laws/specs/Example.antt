-- Laws: a small NDX index is sound, and is not where a single byte is changed; lookups in it, and in a full branch: computed statements. Assumes nothing.
use Rattle.std.specs.Prelude.{ℕ, zero, suc, ◌-◌, ◌≡◌, refl, true, false, List, [], ◌∷◌, ◌++◌, length, replicate, set, Err}
use Rattle.refusal.specs.Checks.{unless}
use Rattle.octets.specs.Bytes.{le16, le32, to_le16, to_le32}
use Rattle.octets.specs.Store.{window}
use Rattle.octets.specs.Order.{bytes_le, ordering}
use Rattle.idx_page.specs.Header.{key_length_good}
use Rattle.idx_page.specs.Page.{first_at_or_above}
use Rattle.idx_lookup.specs.Lookup.{record_of}
use Rattle.idx_lookup.specs.Answer as answer
use Rattle.ndx_page.specs.Header.{page_size, is_page, pages_good, entry_size_of, keys_good, header_good}
use Rattle.ndx_page.specs.Page.{entry_offset, key_offset, lower_at, record_at, key_at, is_leaf, count_good, page_good}
use Rattle.ndx_sound.specs.Reading.{entries_from, entries_at}
use Rattle.ndx_page.specs.Lookup.{leaf_says, entry_says, page_says, visit_rule, lookup_from, lookup_rule}
use Rattle.ndx_sound.specs.Sound.{Sound}
use Rattle.ndx_sound.specs.Walk.{if_good, over, items, walk}
use Rattle.ndx_sound.specs.AuditTest.{zeros, page_fits, height_from, tree_good}
use Rattle.ndx_sound.proofs.Accepted.{accepted}

padded : List ℕ → List ℕ
padded l = l ++ replicate (page_size - length l) 0

-- root, pages and keys per page of an index with keys of one byte, whose entries have 12
header : ℕ → ℕ → ℕ → List ℕ
header root pages keys = padded (to_le32 root ++ to_le32 pages ++ to_le32 0 ++ to_le16 1 ++ to_le16 keys ++ to_le16 0 ++ to_le16 12)

entry : ℕ → ℕ → ℕ → List ℕ
entry lower number key = to_le32 lower ++ to_le32 number ++ (key ∷ 0 ∷ 0 ∷ 0 ∷ [])

page : ℕ → List ℕ → List ℕ
page count entries = padded (to_le32 count ++ entries)

-- three levels, two keys per page: root 1 (D), 2 (B), 3 (F), leaves 4 (A B), 5 (C), 6 (E F), 7 (G H), records 1 to 8 without D's
pub levels3 : List ℕ
levels3 =
    header 1 8 2
    ++ page 1 (entry 2 0 68 ++ to_le32 3)
    ++ page 1 (entry 4 0 66 ++ to_le32 5)
    ++ page 1 (entry 6 0 70 ++ to_le32 7)
    ++ page 2 (entry 0 1 65 ++ entry 0 2 66)
    ++ page 1 (entry 0 3 67)
    ++ page 2 (entry 0 5 69 ++ entry 0 6 70)
    ++ page 2 (entry 0 7 71 ++ entry 0 8 72)

-- C for D above is the greatest itself; E is not below the next child's first key, nor is B at or above C; the extra child of the root is the root, or 0;
-- a lower page and record number 0 in a leaf; a count of 3; a count of 0; two equal leaf keys
computed : (header_good levels3 ≡ true)
    × (tree_good levels3 ≡ true)
    × (tree_good (set levels3 524 67) ≡ true)
    × (tree_good (set levels3 524 69) ≡ false)
    × (tree_good (set levels3 524 66) ≡ false)
    × (tree_good (set levels3 528 1) ≡ false)
    × (tree_good (set levels3 528 0) ≡ false)
    × (tree_good (set levels3 2064 1) ≡ false)
    × (tree_good (set levels3 2056 0) ≡ false)
    × (tree_good (set levels3 512 3) ≡ false)
    × (tree_good (set levels3 2560 0) ≡ false)
    × (tree_good (set levels3 2060 66) ≡ false)
unfolding levels3 header page entry padded le16 le32 to_le16 to_le32 window bytes_le ordering is_page pages_good key_length_good entry_size_of keys_good
    header_good entry_offset key_offset lower_at record_at key_at is_leaf count_good entries_from entries_at zeros page_fits height_from tree_good if_good
    over items walk
computed = (refl, refl, refl, refl, refl, refl, refl, refl, refl, refl, refl, refl)

pub levels3-sound : Sound levels3
levels3-sound = (accepted levels3 computed.0).0 computed.1

-- 42 keys of 12 bytes: the extra child stands in the page's last four bytes
copies : ℕ → List ℕ → List ℕ
copies zero l = []
copies (suc n) l = l ++ copies n l

full_branch : List ℕ
full_branch = header 1 4 42 ++ page 42 (copies 42 (entry 2 0 65) ++ to_le32 3) ++ page 1 (entry 0 1 65) ++ page 1 (entry 0 2 66)

-- found above and below a key above, past all of them, and absent; a key of the wrong length; the extra child's page
looked : (lookup_rule levels3 (65 ∷ []) ≡ answer.found (record_of 1) 3)
    × (lookup_rule levels3 (67 ∷ []) ≡ answer.found (record_of 3) 3)
    × (lookup_rule levels3 (72 ∷ []) ≡ answer.found (record_of 8) 3)
    × (lookup_rule levels3 (68 ∷ []) ≡ answer.absent 3)
    × (lookup_rule levels3 (73 ∷ []) ≡ answer.absent 3)
    × (lookup_rule levels3 (65 ∷ 66 ∷ []) ≡ Err 27)
    × (lookup_rule (set levels3 16 1) (65 ∷ []) ≡ Err 24)
    × (lookup_rule (set levels3 528 1) (73 ∷ []) ≡ Err 25)
    × (lookup_rule (set levels3 528 8) (73 ∷ []) ≡ Err 25)
    × (lookup_rule full_branch (65 ∷ []) ≡ answer.found (record_of 1) 2)
    × (lookup_rule full_branch (66 ∷ []) ≡ answer.found (record_of 2) 2)
unfolding levels3 full_branch copies header page entry padded le16 le32 to_le16 to_le32 window bytes_le ordering is_page pages_good key_length_good
    entry_size_of keys_good header_good entry_offset key_offset lower_at record_at key_at is_leaf count_good page_good first_at_or_above leaf_says
    entry_says page_says visit_rule lookup_from lookup_rule unless
looked = (refl, refl, refl, refl, refl, refl, refl, refl, refl, refl, refl)
