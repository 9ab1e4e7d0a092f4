-- Laws: the examples hold, "proved of the rules together by a single computed statement over the list"; and the tree in 000 is sound. Assumes nothing.
use Rattle.std.specs.Prelude.{◌≡◌, refl, true, map}
use Rattle.refusal.specs.Checks as checks
use Rattle.refusal.specs.After as after
use Rattle.calendar.specs.Calendar as calendar
use Rattle.calendar.specs.DateText as date
use Rattle.octets.specs.Bytes as bytes
use Rattle.octets.specs.Store as store
use Rattle.octets.specs.Order as order
use Rattle.octets.specs.Text as chars
use Rattle.numeral.specs.Format as format
use Rattle.numeral.specs.Reading as reading
use Rattle.idx_page.specs.Children as children
use Rattle.idx_page.specs.Header as header
use Rattle.idx_page.specs.Page as page
use Rattle.idx_page.specs.Reading as pages
use Rattle.idx_lookup.specs.Lookup as lookup
use Rattle.idx_sound.specs.Sound.{Sound}
use Rattle.idx_sound.specs.AuditTest as audit
use Rattle.idx_sound.proofs.Accepted.{accepted}
use Rattle.idx_layout.specs.Layout as layout
use Rattle.idx_entries.specs.Entries as entries
use Rattle.idx_supply.specs.Supply as supply
use Rattle.idx_insert_page.specs.Insertion as insertion
use Rattle.idx_insert.specs.Fresh as fresh
use Rattle.idx_path.specs.Room as room
use Rattle.idx_insert.specs.Calls as calls
use Rattle.examples.specs.Tree000 as tree
use Rattle.examples.specs.Tree100 as tree100
use Rattle.examples.specs.Examples.{ascii, shown, answer, examples}

-- Theorem: every call of the list answers as the paper says
pub examples_hold : map (λ e. answer e.0) examples ≡ map (λ e. e.1) examples
unfolding examples answer ascii reading.read_number format.format_good chars.every chars.unpadded reading.some reading.after reading.front reading.has_minus
    reading.without_minus reading.whole_good reading.fraction_good reading.whole_part reading.fraction reading.without_point reading.digits chars.number_from
    chars.number_of reading.text_good reading.signed reading.value_of reading.digit_count date.date_of date.date_of_numbers date.is_field_date
    calendar.is_date calendar.days_in_month calendar.row_of calendar.is_leap calendar.month_lengths tree.tree000 tree.padded tree.page tree.entry bytes.le16
    bytes.le32 bytes.be32 bytes.to_le16 bytes.to_le32 bytes.to_be32 store.window order.bytes_le order.ordering header.is_page header.size_good
    header.key_length_good header.header_good page.capacity page.entry_offset page.attribute_good page.count_good page.page_good page.first_at_or_above
    pages.items pages.items_at pages.entries_at lookup.entry_says lookup.page_says lookup.visit_rule lookup.lookup_from lookup.lookup_rule
    audit.leaf_entries_good audit.onward audit.upper_entries audit.chain children.is_leaf audit.entries_fit audit.page_fits audit.check_page audit.check_pages
    audit.counted audit.check_rows audit.root_level audit.next_level audit.levels_under audit.height_of audit.upper_pages audit.upper_levels audit.shape_good
    audit.keys_above_good audit.pages_good shown tree100.key100 tree100.grown store.put layout.encode layout.area layout.with_entries layout.new_page
    layout.link_beyond layout.split_page entries.raised insertion.take_in insertion.insert_under insertion.inserted_buffer fresh.fresh_header
    fresh.fresh_buffer fresh.fresh_checks fresh.fresh_rule fresh.printable fresh.expression_good room.path_from room.no_room calls.insert_checks
    calls.insert_rule checks.unless after.made_unless supply.supply_of supply.take_page supply.supply_after supply.with_supply calls.has_control
    reading.whole_missing reading.zero_dropped reading.number_checks audit.down header.free_good audit.is_free_page audit.free_fits audit.check_free
examples_hold = refl

-- the audit's tests of the tree in 000
tree000-tests : (header.header_good tree.tree000 ≡ true) × (audit.pages_good tree.tree000 ≡ true)
unfolding order.ordering tree.tree000 tree.padded tree.page tree.entry bytes.le16 bytes.le32 bytes.be32 bytes.to_le16 bytes.to_le32 bytes.to_be32 store.window
    order.bytes_le header.is_page header.size_good header.key_length_good header.header_good page.capacity page.count_good pages.items pages.items_at
    pages.entries_at audit.leaf_entries_good audit.onward audit.upper_entries audit.chain children.is_leaf audit.entries_fit audit.page_fits audit.check_page
    audit.check_pages audit.counted audit.check_rows audit.root_level audit.next_level audit.levels_under audit.height_of audit.down audit.upper_pages
    audit.upper_levels audit.shape_good audit.keys_above_good audit.pages_good header.free_good audit.is_free_page audit.free_fits audit.check_free
tree000-tests = (refl, refl)

-- Theorem: the tree in 000 is sound, "every page but the first is reached from the root exactly once" and all the rest, by the audit's theorem
pub tree000-sound : Sound tree.tree000
tree000-sound = (accepted tree.tree000 tree000-tests.0).0 tree000-tests.1
