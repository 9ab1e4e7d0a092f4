-- The checks before say what a check asks for: the table is long enough, and then its header fits.
use Rattle.std.proofs.Common.{arith}
use Rattle.dbf_table.specs.TableLaws.{size-long, header-fits}
use Rattle.dbf_check.proofs.check_rules.Goals as goal

pub kind_good-requires : goal.kind_good-requires
kind_good-requires c = grind (arith, size-long)

pub date_good-requires : goal.date_good-requires
date_good-requires c = grind (arith, size-long)

pub header_good-requires : goal.header_good-requires
header_good-requires c = grind (arith, size-long)

pub length_good-requires : goal.length_good-requires
length_good-requires c = grind (arith, size-long)

pub end_mark_good-requires : goal.end_mark_good-requires
end_mark_good-requires c = grind (arith, header-fits)

pub fields_good-requires : goal.fields_good-requires
fields_good-requires c = grind (arith, header-fits)

pub names_differ-requires : goal.names_differ-requires
names_differ-requires c = grind (arith, header-fits)

pub memo_kind_good-requires : goal.memo_kind_good-requires
memo_kind_good-requires c = grind (arith, header-fits)

pub record_length_good-requires : goal.record_length_good-requires
record_length_good-requires c = grind (arith, header-fits)
