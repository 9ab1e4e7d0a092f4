-- Laws: all records of a key on a sound index of either features: each once and none other, in order, and the first is what lookup of the first record gives.
-- For the call that lists them. Assumes nothing.
use Rattle.std.specs.Prelude.{◌≡◌, true, List, ℕ, ◌+◌, eqb, leb, length}
use Rattle.std.proofs.Common.{ap}
use Rattle.tree.specs.Lists.{concat_map, count_if, occ}
use Rattle.tree.specs.Pairs.{records_of, by_record, has, Ascending}
use Rattle.tree.specs.Tree.{level}
use Rattle.tree.specs.LookupFirst.{first_record}
use Rattle.tree.proofs.RecordLaws.{first_of, records-first, records-once, records_ascend, records-order}
use Rattle.tree.proofs.Store.Leaves.{pairs-leaves}
use Rattle.idx_page.specs.Header.{root_offset, file_size, key_length, features}
use Rattle.idx_page.specs.KeyOrder.{bytes_order}
use Rattle.idx_page.specs.Reading.{entries_at}
use Rattle.idx_lookup.specs.Lookup.{lookup_rule}
use Rattle.idx_sound.specs.Sound.{Sound, index_tree, leaf_pairs}
use Rattle.idx_lookup_laws.specs.FoundLaws.{answer_of}
use Rattle.idx_lookup_laws.specs.FirstLaws.{first-list}

module _ (b : List ℕ) (s : Sound b) (key : List ℕ) where
  in_order : Ascending (by_record bytes_order) (leaf_pairs b s)
  in_order = records-order bytes_order (features b) (leaf_pairs b s) s.ascending

  -- Theorem: a record is listed once if its pair is in the leaves, and else not at all
  pub listed-once : (r : ℕ) → occ r (records_of bytes_order key (leaf_pairs b s)) ≡ count_if (has (by_record bytes_order) (key, r) (leaf_pairs b s))
  listed-once r = records-once bytes_order key r (leaf_pairs b s) in_order

  -- Theorem: the list ascends
  pub listed-order : Ascending leb (records_of bytes_order key (leaf_pairs b s))
  listed-order = records_ascend bytes_order key (leaf_pairs b s) in_order

  -- Theorem: a walk along the leaves, left to right, meets it
  pub listed-leaves :
      records_of bytes_order key (leaf_pairs b s)
      ≡ records_of bytes_order key (concat_map (entries_at (key_length b) (file_size b) b) (level 0 s.height (index_tree b s.height)))
  listed-leaves = ap (records_of bytes_order key) (pairs-leaves (entries_at (key_length b) (file_size b) b) s.height (root_offset b))

  -- Theorem: for features 0 its first is the record that lookup gives, for a key of the index's length
  pub listed-first : length key ≡ key_length b → eqb (features b) 0 ≡ true →
      lookup_rule b key ≡ answer_of (first_of (records_of bytes_order key (leaf_pairs b s)))
      (0 + length (first_record bytes_order key s.height (index_tree b s.height)).1)
  listed-first e several = rw (records-first bytes_order key (leaf_pairs b s)) (first-list b key s e several)
