-- The three stores are the rule's two, since the zeros follow the entries.
use Rattle.std.proofs.Common.{arith}
use Rattle.idx_layout.specs.WriteLaws.{sizes, with_entries_by}
use Rattle.idx_layout.proofs.with_entries.Goals as goal

pub overflow_cast-entries : goal.overflow_cast-entries
overflow_cast-entries c = let z = sizes c.requires c.args.entries.whole in omega arith

pub copy_in-requires : goal.copy_in-requires
copy_in-requires c = let z = sizes c.requires c.args.entries.whole in omega arith

pub fill-requires : goal.fill-requires
fill-requires c = let z = sizes c.requires c.args.entries.whole in (omega arith, omega arith)

pub returns : goal.returns
returns c =
    with_entries_by c.args.entries.bytes.now c.requires c.args.entries.whole c.set_count.ensures c.copy_in.ensures c.entry_offset-end.ensures c.fill.ensures
