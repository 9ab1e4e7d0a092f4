-- Rules: laying out an empty table, document 02, K3: "Laying out takes the kind from whether an M field is listed and refuses by 3, 4 (field count), 6, 7, 9,
-- then 30 if the buffer has under H + 1 bytes; it writes those, the end mark last, bytes not read zero." The checks of fields and names are the table's own.
use Rattle.std.specs.Prelude.{ℕ, ◌+◌, ◌*◌, ◌-◌, List, [], ◌∷◌, ◌++◌, Bool, cond, ◌&&◌, length, replicate, leb, ltb}
use Rattle.refusal.specs.After.{After, left}
use Rattle.refusal.specs.Checks.{first_refusal, unless}
use Rattle.octets.specs.Bytes.{to_le16, to_le32}
use Rattle.octets.specs.Store.{put}
use Rattle.dbf_table.specs.Range.{any_below}
use Rattle.dbf_table.specs.Table.{min_table, max_fields, max_record, plain_kind, memo_kind, end_mark, file_end, header_length_of, is_memo, field_offset}
use Rattle.dbf_table.specs.Table.{fields_good, names_differ, table_checks, first_year, storable_date}
use Rattle.dbf_field.specs.declared.FieldEntry.{FieldEntry}

-- ---- the lent field list as descriptors

-- document 01, "bytes 0-10 name ... 11 type; 16 length; 17 decimals": the 32 bytes of a descriptor, "bytes not read zero"
unfoldable pub descriptor_of : FieldEntry → List ℕ
descriptor_of e = e.name ++ (e.kind ∷ 0 ∷ 0 ∷ 0 ∷ 0 ∷ e.length ∷ e.decimals ∷ replicate 14 0)

-- one after another
unfoldable pub descriptors_of : List FieldEntry → List ℕ
descriptors_of [] = []
descriptors_of (e ∷ es) = descriptor_of e ++ descriptors_of es

-- the bytes of a table of 128 fields, H + 1
abbrev pub room_length : ℕ
room_length = 4130

-- a room with no fields, and a room with another field j, from 0, at the place of its descriptor
unfoldable pub no_fields : List ℕ
no_fields = replicate room_length 0

unfoldable pub with_field : List ℕ → ℕ → FieldEntry → List ℕ
with_field room j e = put room (32 + 32 * j) (descriptor_of e)

-- how many fields of a list are taken: a longer list is refused by 4
unfoldable pub listed_count : ℕ → ℕ
listed_count given = cond (ltb given max_fields) given max_fields

-- ---- the table's bytes, from the descriptors ds of f fields and a date

-- the descriptors at their places in a table whose first 32 bytes say nothing yet
unfoldable pub placed : List ℕ → List ℕ
placed ds = replicate min_table 0 ++ ds

-- "takes the kind from whether an M field is listed"
unfoldable pub kind_for : Bool → ℕ
kind_for memo = cond memo memo_kind plain_kind

unfoldable pub lists_memo : List ℕ → ℕ → Bool
lists_memo ds f = any_below (is_memo (placed ds)) f

-- H is 33 + 32f, R is 1 + the field lengths
abbrev pub header_size : ℕ → ℕ
header_size f = 33 + 32 * f

unfoldable pub record_size : List ℕ → ℕ → ℕ
record_size ds f = field_offset (placed ds) f

-- "Bytes 4-7: record count n. 8-9: header length H. 10-11: record length R.": no record, and the other bytes up to the descriptors zero
unfoldable pub header_of : List ℕ → ℕ → ℕ → ℕ → ℕ → List ℕ
header_of ds f year month day =
    (kind_for (lists_memo ds f) ∷ (year - first_year) ∷ month ∷ day ∷ [])
    ++ (to_le32 0 ++ (to_le16 (header_size f) ++ (to_le16 (record_size ds f) ++ replicate 20 0)))

-- the H + 1 bytes: "0x0D holds" at H − 1, "the end mark last"
unfoldable pub laid_out : List ℕ → ℕ → ℕ → ℕ → ℕ → List ℕ
laid_out ds f year month day = header_of ds f year month day ++ (ds ++ (end_mark ∷ file_end ∷ []))

-- ---- the refusals in their order

-- 4: "f from 1 to 128"
unfoldable pub count_good : ℕ → Bool
count_good f = leb 1 f && leb f max_fields

unfoldable pub lay_checks : ℕ → List ℕ → ℕ → ℕ → ℕ → ℕ → List (Bool × ℕ)
lay_checks room ds f year month day =
    let table = laid_out ds f year month day in
    (storable_date year month day, 3)
    ∷ (count_good f, 4)
    ∷ (fields_good table, 6)
    ∷ (names_differ table, 7)
    ∷ (leb (record_size ds f) max_record, 9)
    ∷ (leb (header_size f + 1) room, 30)
    ∷ []

unfoldable pub lay_refusal : ℕ → List ℕ → ℕ → ℕ → ℕ → ℕ → ℕ
lay_refusal room ds f year month day = first_refusal (lay_checks room ds f year month day)

-- ---- the answer

-- a table is written to the front of a buffer, unless a check fails, whose number is the answer and which changes nothing
abbrev pub laid_unless : List (Bool × ℕ) → List ℕ → List ℕ → After ℕ
laid_unless checks table b = unless checks (left b) (left (put b 0 table) 0)

-- what the call leaves and answers for the descriptors ds of f fields
unfoldable pub lay_out : List ℕ → List ℕ → ℕ → ℕ → ℕ → ℕ → After ℕ
lay_out b ds f year month day = laid_unless (lay_checks (length b) ds f year month day) (laid_out ds f year month day) b

-- and for the lent field list
unfoldable pub lay_out_rule : List ℕ → List FieldEntry → ℕ → ℕ → ℕ → After ℕ
lay_out_rule b es year month day = lay_out b (descriptors_of es) (length es) year month day

-- a step of it: a table that passes its own checks is written, if the buffer has H + 1 bytes
unfoldable pub lay_table : List ℕ → List ℕ → After ℕ
lay_table b t = laid_unless (table_checks t ++ ((leb (header_length_of t + 1) (length b), 30) ∷ [])) t b
