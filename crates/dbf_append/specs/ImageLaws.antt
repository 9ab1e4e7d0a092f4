-- Laws: a file whose first bytes are a table's, whatever follows them: shortened by its own count it is that table. An append's two stores lead from such a
-- file to one that begins with the new table. Assumes nothing.
use Rattle.std.specs.Prelude.{ℕ, ◌+◌, ◌≤◌, ◌<◌, ◌≡◌, true, take, Ok}
use Rattle.std.proofs.Math.Path.{refl, ap}
use Rattle.std.proofs.Common.{sym, ◌∙◌, arith, take_at, lit<}
use mathlib.Core.List.{List, [], ◌∷◌, ◌++◌}
use Rattle.std.proofs.Math.ListN.{length, length-append, get_or-append}
use Rattle.std.proofs.lemmas.List.{get_or_at}
use borrow.Author.Tests.{le-leb, eq-eqb, ne_eqb}
use Rattle.octets.specs.Bytes.{byte_at, le32, to_le32}
use Rattle.octets.specs.Store.{put, window}
use Rattle.octets.specs.StoreLaws.{length-put, get_or-put_low, get_or-put_high, window-inside}
use Rattle.octets.specs.NumberLaws.{length-to_le32, le32-put}
use Rattle.dbf_table.specs.Table.{min_table, max_table, file_end, record_length_of, record_count, records_end, size_good, date_good, length_good, table_refusal}
use Rattle.dbf_table.specs.TableLaws.{HeaderFits}
use Rattle.dbf_table.specs.RecordLaws.{records-next}
use Rattle.dbf_append.specs.Extent.{form_refusal, own_end, extent_rule}
use Rattle.dbf_append.specs.ExtentLaws.{extent-told}
use Rattle.dbf_table.specs.SameForm.{SameForm, end_same}
use Rattle.dbf_append.specs.FormLaws.{form-header, form-kept, table_kept, date-good, size-good}

-- a file shortened to H + n·R by its own count
unfoldable pub shortened : List ℕ → List ℕ
shortened c = take (own_end c) c

-- a table without an end mark: its form is good, and it ends where its records do
pub record Whole (old : List ℕ) : Type 0 where
  pub form : form_refusal old ≡ 0
  pub exact : length old ≡ own_end old

module _ (old : List ℕ) (whole : Whole old) where
  fits : HeaderFits old
  fits = form-header old whole.form

  -- a table: "The table is H + n·R bytes"
  pub whole-good : table_refusal old ≡ 0
  unfolding length_good own_end
  whole-good =
      table_kept old old whole.form (record { first = refl; rest = λ k l m o. refl })
      (size-good old whole.form) (date-good old whole.form) fits.inside
      (rw (eq-eqb (length old) (records_end old (record_count old)) whole.exact))

  -- ---- whatever follows it

  module _ (tail : List ℕ) where
    front : (k : ℕ) → k < length old → byte_at (old ++ tail) k ≡ byte_at old k
    front k h = get_or-append old tail 0 k h

    abbrev early : (k : ℕ) → k < min_table → byte_at (old ++ tail) k ≡ byte_at old k
    early k h = front k (omega (arith, fits.long))

    tail_form : SameForm old (old ++ tail)
    tail_form = record { first = early 0 (lit< tt); rest = λ k l m o. front k (omega (arith, fits.inside)) }

    tail_count : record_count (old ++ tail) ≡ record_count old
    unfolding record_count le32
    tail_count = rw (early 4 (lit< tt), early 5 (lit< tt), early 6 (lit< tt), early 7 (lit< tt))

    tail_end : own_end (old ++ tail) ≡ length old
    unfolding own_end
    tail_end = rw (tail_count, end_same old (old ++ tail) fits tail_form (record_count old)) (sym whole.exact)

    -- it is found again
    pub tail_shortened : shortened (old ++ tail) ≡ old
    unfolding shortened
    tail_shortened = rw tail_end (take_at old tail (length old) refl)

    -- and its length is told, if the file is no longer than a table may be
    pub tail_extent : length (old ++ tail) ≤ max_table → extent_rule (old ++ tail) ≡ Ok (length old)
    unfolding date_good size_good
    tail_extent small =
        let long = length-append old tail in
        let size = le-leb min_table (length (old ++ tail)) (omega (arith, fits.long)) in
        let date = date-good old whole.form in
        let form = form-kept old (old ++ tail) whole.form tail_form (rw (size, le-leb (length (old ++ tail)) max_table small))
        (rw (early 1 (lit< tt), early 2 (lit< tt), early 3 (lit< tt)) date) (omega (arith, fits.inside)) in
        extent-told (old ++ tail) form (omega (arith, tail_end)) ∙ rw tail_end

-- ---- a record more

-- a table without an end mark with another record and a count one higher
unfoldable pub counted : List ℕ → List ℕ → List ℕ
counted old c = put c 4 (to_le32 (record_count old + 1))

module _ (old r : List ℕ) (whole : Whole old) (fills : length r ≡ record_length_of old) (few : record_count old < max_table) (tail : List ℕ) where
  abbrev file : List ℕ
  file = old ++ r ++ tail

  abbrev more : List ℕ
  more = counted old file

  long : length file ≡ length old + length r + length tail
  long = length-append (old ++ r) tail ∙ rw (length-append old r)

  size : length more ≡ length file
  unfolding counted
  size = length-put file 4 (to_le32 (record_count old + 1))

  header : HeaderFits old
  header = form-header old whole.form

  pub kept : (k : ℕ) → k < length old → byte_at file k ≡ byte_at old k
  kept k h = get_or-append (old ++ r) tail 0 k (omega (arith, length-append old r)) ∙ get_or-append old r 0 k h

  below : (k : ℕ) → k < 4 → byte_at more k ≡ byte_at old k
  unfolding counted
  below k h = get_or-put_low file 4 (to_le32 (record_count old + 1)) k 0 h ∙ kept k (omega (arith, header.long))

  pub beyond : (k : ℕ) → 8 ≤ k → byte_at more k ≡ byte_at file k
  unfolding counted
  beyond k h = get_or-put_high file 4 (to_le32 (record_count old + 1)) k 0 (omega (arith, length-to_le32 (record_count old + 1)))

  pub more-form : SameForm old more
  more-form = record { first = below 0 (lit< tt); rest = λ k l m o. beyond k l ∙ kept k (omega (arith, header.inside)) }

  pub more-count : record_count more ≡ record_count old + 1
  unfolding counted record_count
  more-count = le32-put file 4 (record_count old + 1) (omega arith) (omega (arith, long, header.long))

  more-end : own_end more ≡ length old + length r
  unfolding own_end
  more-end =
      rw (more-count, end_same old more header more-form (record_count old + 1), records-next old (record_count old), ← whole.exact, fills)

  -- shortened by its own count it is the new table
  pub more-shortened : shortened more ≡ counted old (old ++ r)
  unfolding shortened counted window
  more-shortened =
      let count = record_count old + 1 in
      let front = window-inside file 4 (to_le32 count) 0 (length old + length r) (omega (arith, length-to_le32 count, header.long)) in
      rw more-end (front ∙ rw (take_at (old ++ r) tail (length old + length r) (length-append old r)))

  module _ (small : length file ≤ max_table) where
    more-date : date_good more ≡ true
    unfolding date_good
    more-date = rw (below 1 (lit< tt), below 2 (lit< tt), below 3 (lit< tt)) (date-good old whole.form)

    more-size : size_good more ≡ true
    unfolding size_good
    more-size = rw (size, le-leb min_table (length file) (omega (arith, long, header.long)), le-leb (length file) max_table small)

    form : form_refusal more ≡ 0
    form = form-kept old more whole.form more-form more-size more-date (omega (arith, size, long, header.inside))

    pub more-extent : extent_rule more ≡ Ok (length old + length r)
    more-extent = extent-told more form (omega (arith, size, long, more-end)) ∙ rw more-end

    ended : length_good more ≡ true → table_refusal more ≡ 0
    ended = table_kept old more whole.form more-form more-size more-date (omega (arith, size, long, header.inside))

    -- the new table, and with the end mark after it
    pub more-good : tail ≡ [] → table_refusal more ≡ 0
    unfolding length_good own_end
    more-good none = ended (rw (eq-eqb (length more) (records_end more (record_count more)) (omega (arith, size, long, more-end, ap length none))))

    pub more-marked : tail ≡ file_end ∷ [] → table_refusal more ≡ 0
    unfolding length_good own_end
    more-marked mark =
        let end = length old + length r in
        let after : length more ≡ end + 1 = omega (arith, size, long, ap length mark) in
        let byte : byte_at more end ≡ file_end =
        beyond end (omega (arith, header.long)) ∙ rw mark (get_or_at (old ++ r) file_end [] 0 end (length-append old r)) in
        ended (rw (more-end, ne_eqb (length more) end (omega arith), eq-eqb (length more) (end + 1) after, byte))
