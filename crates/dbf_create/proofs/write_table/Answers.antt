-- The stores one after another are the rule's.
use Rattle.std.proofs.Common.{arith}
use Rattle.dbf_create.specs.LayingLaws.{begun_fits, begun_size, written}
use Rattle.dbf_create.proofs.write_table.Goals as goal

pub kind_of-kind-requires : goal.kind_of-kind-requires
kind_of-kind-requires c = begun_fits _ _ _ _ _ _ c.requires c.store_le16.ensures

pub returns : goal.returns
returns c =
    let stored = c.store_le16.ensures in
    let size = c.field_offset-length.ensures in
    record {
      bytes = written _ _ _ _ _ _ c.requires stored _ _ _ _ _ c.kind_of-kind.ensures size.0 c.store_le16-2.ensures c.copy_in.ensures c.fill.ensures;
      small = omega (arith, size.0, size.1, begun_size _ _ _ _ _ _ c.requires stored, c.requires.few);
    }
