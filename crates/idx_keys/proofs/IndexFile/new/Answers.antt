-- `IndexFile::new`: a good header says that the file lies within the index.
use Rattle.idx_page.specs.HeaderLaws.{good-header}
use Rattle.idx_keys.specs.FileLaws.{in_file}
use Rattle.idx_keys.proofs.IndexFile.new.Goals as goal

pub key_length-requires : goal.key_length-requires
key_length-requires c = (good-header _ c.requires).long

pub file_size-requires : goal.file_size-requires
file_size-requires c = (good-header _ c.requires).long

pub invariant_of-result : goal.invariant_of-result
invariant_of-result c = record { inside = in_file _ _ _ c.requires c.key_length.ensures c.file_size.ensures }
