-- The stores, one after another, are the rule's one.
use Rattle.idx_layout.specs.WriteLaws.{header_by}
use Rattle.idx_layout.proofs.new_header.Goals as goal

pub returns : goal.returns
returns c =
    header_by _ _ _ _ _ _ c.requires.1 c.set_root.ensures c.store_le32.ensures c.set_file_end.ensures c.store_le16.ensures c.store_le16-2.ensures
    c.copy_in.ensures c.fill.ensures
