-- Laws: on a sound index of either features the call lists each record of the key once and none other, in order. Assumes nothing.
use Rattle.std.specs.Prelude.{ℕ, ◌≡◌, List, leb}
use Rattle.std.proofs.Math.Path.{ap}
use Rattle.std.proofs.Common.{◌∙◌}
use Rattle.tree.specs.Lists.{count_if, occ}
use Rattle.tree.specs.Pairs.{records_of, by_record, has, Ascending}
use Rattle.idx_page.specs.KeyOrder.{bytes_order}
use Rattle.idx_sound.specs.Sound.{Sound, leaf_pairs}
use Rattle.idx_lookup_laws.specs.RecordLaws.{listed-once, listed-order}
use Rattle.idx_match.specs.LeafLaws.{leaf-entries}
use Rattle.idx_records.specs.Records.{key_records}

module _ (b : List ℕ) (s : Sound b) (key : List ℕ) where
  records_are : key_records b key ≡ records_of bytes_order key (leaf_pairs b s)
  unfolding key_records
  records_are = ap (records_of bytes_order key) (leaf-entries b s)

  -- Theorem: "It lists each once and none other": a record is listed once if its pair is in the leaves, and else not at all
  pub each-once : (r : ℕ) → occ r (key_records b key) ≡ count_if (has (by_record bytes_order) (key, r) (leaf_pairs b s))
  each-once r = ap (occ r) records_are ∙ listed-once b s key r

  -- Theorem: "in order"
  pub in_order : Ascending leb (key_records b key)
  in_order = rw records_are (listed-order b s key)
