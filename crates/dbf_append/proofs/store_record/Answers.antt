-- The two stores are the rule's.
use Rattle.std.proofs.Common.{◌∙◌, refl, arith}
use Rattle.octets.specs.StoreLaws.{length-put}
use Rattle.dbf_table.specs.Table.{record_count}
use Rattle.dbf_append.specs.CheckLaws.{place-fits, stored_as}
use Rattle.dbf_append.proofs.store_record.Goals as goal

pub copy_in-requires : goal.copy_in-requires
copy_in-requires c = omega (arith, place-fits _ _ _ _ c.requires c.load_le32-records.ensures c.records_end-place.ensures.0)

pub bounds-buffer-place : goal.bounds-buffer-place
bounds-buffer-place c = rw (c.copy_in.ensures, length-put) (place-fits _ _ _ _ c.requires c.load_le32-records.ensures c.records_end-place.ensures.0)

pub overflow_add-records : goal.overflow_add-records
unfolding record_count
overflow_add-records c = omega (arith, c.load_le32-records.ensures, c.requires.count)

pub returns : goal.returns
returns c = stored_as _ _ _ _ _ _ _ c.load_le32-records.ensures c.records_end-place.ensures.0 c.copy_in.ensures refl c.store_le32.ensures
