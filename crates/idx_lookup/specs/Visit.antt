-- Rules: what a page of an index says of a key. `P` names a page in the index's format.
use Rattle.idx_page.specs.declared.RecordNumber.{RecordNumber}

-- the key is absent or found, or lookup goes on to a child
pub data Visit (P : Type 0) : Type 0 where
  Absent : Visit P
  Found : RecordNumber → Visit P
  Child : P → Visit P
