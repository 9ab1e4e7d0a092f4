-- The next record lies in the table, and begins with its deletion byte.
use Rattle.std.proofs.Common.{sym, ap, ◌∙◌, arith}
use Rattle.octets.specs.Bytes.{byte_at}
use Rattle.dbf_table.specs.TableLaws.{layout}
use Rattle.dbf_table.specs.RecordLaws.{record_inside, record_positive}
use Rattle.dbf_walk.specs.WalkLaws.{mark-after}
use Rattle.dbf_walk.proofs.mark_after.Goals as goal

pub records_end-requires : goal.records_end-requires
records_end-requires c = (layout _ c.requires.0).header.long

pub byte-requires : goal.byte-requires
byte-requires c =
    let table = layout _ c.requires.0 in
    omega (arith, record_inside _ table c.args.passed c.requires.1, record_positive _ table, c.records_end.ensures.0)

pub returns : goal.returns
returns c =
    let table = c.args.table.now in
    c.byte.ensures.0 ∙ ap (byte_at table) c.records_end.ensures.0 ∙ sym (mark-after table c.args.passed)
