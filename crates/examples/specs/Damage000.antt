-- Laws: the audit's test refuses the index of source document 000 if one of five bytes is changed: a computed statement. Assumes nothing.
use Rattle.std.specs.Prelude.{◌≡◌, refl, false, ℕ, set}
use Rattle.octets.specs.Bytes as bytes
use Rattle.octets.specs.Store as store
use Rattle.octets.specs.Order as order
use Rattle.idx_page.specs.Header as header
use Rattle.idx_page.specs.Page as page
use Rattle.idx_page.specs.Reading as pages
use Rattle.idx_page.specs.Children as children
use Rattle.idx_sound.specs.AuditTest as audit
use Rattle.examples.specs.Tree000 as tree

-- byte 1,036: B and not C above leaf 2,048; byte 3,078: a wrong left link in leaf 3,072; byte 2,064: record number 0;
-- byte 1,039: a child at offset 0; byte 1,027: a count above the capacity
pub damaged_refused : (audit.pages_good (set tree.tree000 1036 66) ≡ false)
    × (audit.pages_good (set tree.tree000 3078 255) ≡ false)
    × (audit.pages_good (set tree.tree000 2064 0) ≡ false)
    × (audit.pages_good (set tree.tree000 1039 0) ≡ false)
    × (audit.pages_good (set tree.tree000 1027 255) ≡ false)
unfolding tree.tree000 tree.padded tree.page tree.entry bytes.le16 bytes.le32 bytes.be32 bytes.to_le16 bytes.to_le32 bytes.to_be32 store.window order.bytes_le
    order.ordering header.is_page page.capacity page.count_good pages.items pages.items_at pages.entries_at audit.leaf_entries_good audit.onward
    audit.upper_entries audit.chain children.is_leaf audit.entries_fit audit.page_fits audit.check_page audit.check_pages audit.counted audit.check_rows
    audit.root_level audit.next_level audit.levels_under audit.height_of audit.down audit.upper_pages audit.upper_levels audit.shape_good
    audit.keys_above_good audit.pages_good audit.is_free_page audit.free_fits audit.check_free
damaged_refused = (refl, refl, refl, refl, refl)
