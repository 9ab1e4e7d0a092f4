-- Laws: where records and fields lie in a table without refusal: the deletion byte and the fields tile a record; records follow the header, one
-- after another, and end in the table. Assumes nothing.
use Rattle.std.specs.Prelude.{ℕ, zero, suc, ◌+◌, ◌≤◌, ◌<◌, ◌≡◌, List, [], ◌++◌, length, take, drop}
use Rattle.std.proofs.Common.{sym, ap, ◌∙◌, append_assoc, append-nil, mul-le-mul_right, add-mul, add-one, arith, take-add, drop-drop}
use Rattle.octets.specs.Store.{window}
use Rattle.dbf_table.specs.RangeLaws.{sum-none, sum_more, sum-within}
use Rattle.dbf_table.specs.Table.{descriptor, field_length, field_offset, field_count, header_length_of, record_length_of, record_count, records_end}
use Rattle.dbf_table.specs.Table.{record_start}
use Rattle.dbf_table.specs.TableLaws.{Layout}

-- ---- fields in a record

-- the first field follows the deletion byte, and each field the one before it
pub offset-first : (b : List ℕ) → field_offset b 0 ≡ 1
unfolding field_offset
offset-first b = rw (sum-none (field_length b))

pub offset-next : (b : List ℕ) (j : ℕ) → field_offset b (j + 1) ≡ field_offset b j + field_length b j
unfolding field_offset
offset-next b j = omega (arith, sum_more (field_length b) j)

-- the last field ends where the record does
pub offset-last : (b : List ℕ) → Layout b → field_offset b (field_count b) ≡ record_length_of b
offset-last b good = sym good.filled

pub field_inside : (b : List ℕ) → Layout b → (j : ℕ) → j < field_count b → field_offset b j + field_length b j ≤ record_length_of b
unfolding field_offset
field_inside b good j l = omega (arith, good.filled, sum-within (field_length b) j (field_count b) l)

pub offset-positive : (b : List ℕ) (j : ℕ) → 1 ≤ field_offset b j
unfolding field_offset
offset-positive b j = omega arith

-- the bytes of the first j fields of the record at offset `at`, one after another
unfoldable pub field_parts : List ℕ → ℕ → ℕ → List ℕ
field_parts b at zero = []
field_parts b at (suc j) = field_parts b at j ++ window b (at + field_offset b j) (field_length b j)

window_add : (b : List ℕ) (at n m : ℕ) → window b at (n + m) ≡ window b at n ++ window b (at + n) m
unfolding window
window_add b at n m = take-add n m (drop at b) ∙ ap (λ (l : List ℕ). take n (drop at b) ++ take m l) (drop-drop n at b)

parts : (b : List ℕ) (at j : ℕ) → window b at (field_offset b j) ≡ window b at 1 ++ field_parts b at j
unfolding field_parts
parts b at zero = rw (offset-first b) (sym (append-nil (window b at 1)))
parts b at (suc j) =
    let next : field_offset b (suc j) ≡ field_offset b j + field_length b j = rw add-one at (offset-next b j) in
    rw (next, window_add b at (field_offset b j) (field_length b j), parts b at j) (append_assoc (window b at 1) (field_parts b at j) _)

-- the deletion byte and the fields are the record's bytes, without gap or overlap
pub record_tiled : (b : List ℕ) → Layout b → (at : ℕ) → window b at (record_length_of b) ≡ window b at 1 ++ field_parts b at (field_count b)
record_tiled b good at = rw good.filled (parts b at (field_count b))

-- ---- descriptors and records in the table

pub descriptor-inside : (b : List ℕ) → Layout b → (j : ℕ) → j < field_count b → descriptor j + 32 ≤ length b
descriptor-inside b good j l = omega arith

pub record_positive : (b : List ℕ) → Layout b → 1 ≤ record_length_of b
record_positive b good = omega (arith, good.filled, offset-positive b (field_count b))

pub record_first : (b : List ℕ) → record_start b 1 ≡ header_length_of b
unfolding record_start records_end
record_first b = omega arith

pub records-next : (b : List ℕ) (k : ℕ) → records_end b (k + 1) ≡ records_end b k + record_length_of b
unfolding records_end
records-next b k = omega (arith, add-mul k 1 (record_length_of b))

-- the first k + 1 records end in the table if it has as many
pub record_inside : (b : List ℕ) → Layout b → (k : ℕ) → k < record_count b → records_end b k + record_length_of b ≤ length b
unfolding records_end
record_inside b good k l = omega (arith, good.records, add-mul k 1 (record_length_of b), mul-le-mul_right (record_length_of b) l)
