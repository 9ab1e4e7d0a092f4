-- Laws: the crash law of an append. Power may fail before the first store, amid it, after it, or after both: the file shortened by its own count is then the
-- old table, or the new one. The four count bytes are taken to be stored at once. Assumes nothing.
use Rattle.std.specs.Prelude.{ℕ, ◌+◌, ◌≤◌, ◌<◌, ◌≡◌, drop, ltb, Ok}
use Rattle.std.proofs.Math.Path.{refl, ap}
use Rattle.std.proofs.Common.{sym, ◌∙◌, take-append-drop, take-take, take_at, lit<}
use mathlib.Core.List.{List, [], ◌∷◌, ◌++◌, append_assoc, append-nil}
use native.Mathlib.Omega.{arith}
use Rattle.std.proofs.Math.ListN.{length, take, length-append}
use Rattle.std.proofs.Math.Seq.{get_or-take, length-take-le}
use borrow.Author.Tests.{le-leb, ltb-true, ltb-false}
use Rattle.basis.specs.Tests.{either}
use Rattle.octets.specs.Bytes.{byte_at, le32, to_le32}
use Rattle.octets.specs.Store.{put, window}
use Rattle.octets.specs.StoreLaws.{length-put, get_or-put_low, get_or-put_high, put_splice, window-before, window-after, window-inside, window_same}
use Rattle.octets.specs.NumberLaws.{length-to_le32}
use Rattle.dbf_table.specs.Table.{min_table, max_table, file_end, header_length_of, record_length_of, record_count, records_end, size_good, date_good}
use Rattle.dbf_table.specs.Table.{table_refusal}
use Rattle.dbf_table.specs.TableLaws.{layout}
use Rattle.dbf_table.specs.RecordLaws.{records-next}
use Rattle.dbf_append.specs.Append.{new_end, write, told, record_write, count_write}
use Rattle.dbf_append.specs.Extent.{form_refusal, own_end, extent_rule}
use Rattle.dbf_append.specs.ExtentLaws.{form-good}
use Rattle.dbf_append.specs.CheckLaws.{table-small, count-front, end-front, length_front, new-front, Accepted, accepted-long, few-enough}
use Rattle.dbf_table.specs.SameForm.{SameForm, length-same, end_same}
use Rattle.dbf_append.specs.FormLaws.{date-good, form-kept}
use Rattle.dbf_append.specs.ImageLaws.{shortened, counted, Whole, whole-good, tail_shortened, tail_extent, more-shortened, more-extent, more-good, more-marked}

-- ---- a table without what follows its records

module _ (t : List ℕ) (good : table_refusal t ≡ 0) where
  abbrev inside : own_end t ≤ length t
  unfolding own_end
  inside = (layout t good).records

  pub behind : header_length_of t ≤ own_end t
  unfolding own_end records_end
  behind = omega arith

  pub cut-byte : (k : ℕ) → k < own_end t → byte_at (shortened t) k ≡ byte_at t k
  unfolding shortened
  cut-byte k h = get_or-take (own_end t) t k 0 h

  abbrev early : (k : ℕ) → k < min_table → byte_at (shortened t) k ≡ byte_at t k
  early k h = cut-byte k (omega (arith, behind, (layout t good).header.form))

  pub cut-form : SameForm t (shortened t)
  cut-form = record { first = early 0 (lit< tt); rest = λ k l m o. cut-byte k (omega (arith, behind)) }

  pub cut-count : record_count (shortened t) ≡ record_count t
  unfolding record_count le32
  cut-count = rw (early 4 (lit< tt), early 5 (lit< tt), early 6 (lit< tt), early 7 (lit< tt))

  cut_record : record_length_of (shortened t) ≡ record_length_of t
  cut_record = length-same t (shortened t) (layout t good).header cut-form

  pub cut-length : length (shortened t) ≡ own_end t
  unfolding shortened
  cut-length = length-take-le (own_end t) t inside

  cut-end : own_end (shortened t) ≡ own_end t
  unfolding own_end
  cut-end = rw (cut-count, end_same t (shortened t) (layout t good).header cut-form (record_count t))

  cut-good : form_refusal (shortened t) ≡ 0
  unfolding date_good size_good
  cut-good =
      let header = (layout t good).header in
      let form = form-good t good in
      let size = le-leb min_table (length (shortened t)) (omega (arith, cut-length, behind, header.form)) in
      form-kept t (shortened t) form cut-form
      (rw (size, le-leb (length (shortened t)) max_table (omega (arith, cut-length, inside, table-small t good))))
      (rw (early 1 (lit< tt), early 2 (lit< tt), early 3 (lit< tt)) (date-good t form)) (omega (arith, cut-length, behind))

  pub cut-whole : Whole (shortened t)
  cut-whole = record { form = cut-good; exact = cut-length ∙ sym cut-end }

-- the new table, and with its end mark
unfoldable pub new_table : List ℕ → List ℕ → List ℕ
new_table t r = counted (shortened t) (shortened t ++ r)

unfoldable pub new_file : List ℕ → List ℕ → List ℕ
new_file t r = counted (shortened t) (shortened t ++ r ++ (file_end ∷ []))

-- ---- an append that is accepted

module _ (b : List ℕ) (n : ℕ) (r : List ℕ) (a : Accepted b n r) where
  abbrev t : List ℕ
  t = take n b

  abbrev old : List ℕ
  old = shortened t

  abbrev end : ℕ
  end = own_end b

  long : min_table ≤ n
  long = accepted-long b n r a

  ends : own_end t ≡ end
  unfolding own_end
  ends = rw (count-front b n long, end-front b n long (record_count b))

  old-length : length old ≡ end
  old-length = cut-length t a.table ∙ ends

  pub fills : length r ≡ record_length_of old
  fills = a.taken.long ∙ sym (cut_record t a.table)

  pub few : record_count old < max_table
  few = few-enough t (layout t a.table) a.taken (sym (cut-count t a.table))

  counts : record_count old ≡ record_count b
  counts = cut-count t a.table ∙ count-front b n long

  -- the new end mark stands in the buffer, and the whole is no longer than a table may be
  new-end : new_end b ≡ end + length r + 1
  unfolding new_end own_end
  new-end = omega (arith, records-next b (record_count b), a.taken.long, length_front b n long)

  room : end + length r + 1 ≤ length b
  room = omega (arith, a.taken.fits, new-front b n long, new-end)

  small : end + length r + 1 ≤ max_table
  small = omega (arith, a.taken.small, new-front b n long, new-end)

  -- the buffer begins with the old table, and keeps it with any bytes stored behind it
  front : take end b ≡ old
  unfolding shortened
  front = rw (← ends) (sym (take-take (own_end t) n b (omega (arith, inside t a.table, length-take-le n b a.fits))))

  begins : b ≡ old ++ drop end b
  begins = rw (← front) (sym (take-append-drop end b))

  stores : (bytes : List ℕ) → put b end bytes ≡ old ++ drop end (put b end bytes)
  unfolding window
  stores bytes =
      let kept : take end (put b end bytes) ≡ old = window-before b end bytes 0 end (omega arith) ∙ front in
      rw (← kept) (sym (take-append-drop end (put b end bytes)))

  -- the bytes behind both stores
  abbrev rest : List ℕ
  rest = drop (end + length (r ++ (file_end ∷ []))) b

  first_made : write (record_write b r) b ≡ old ++ r ++ (file_end ∷ rest)
  unfolding record_write own_end
  first_made =
      put_splice b end (r ++ (file_end ∷ [])) (omega (arith, room, length-append r (file_end ∷ []))) ∙ rw front (simp append_assoc)

  both-made : write (count_write b) (write (record_write b r) b) ≡ counted old (old ++ r ++ (file_end ∷ rest))
  unfolding count_write counted
  both-made = rw (first_made, counts)

  -- The crash law. A host's file begins with the old table, and bytes of any kind may follow it: its end mark, a part of the first store, or all of it.
  pub record CrashSafe : Type 0 where
    -- in the buffer: before both stores, with any bytes whatever stored in the first one's place, after the first, and after both
    pub before : shortened b ≡ old
    pub torn : (bytes : List ℕ) → shortened (put b (record_write b r).place bytes) ≡ old
    pub first : shortened (write (record_write b r) b) ≡ old
    pub both : shortened (write (count_write b) (write (record_write b r) b)) ≡ new_table t r
    -- in a file that ends anywhere, and in one that has both stores
    pub file : (tail : List ℕ) → shortened (old ++ tail) ≡ old
    pub file-both : (tail : List ℕ) → shortened (counted old (old ++ r ++ tail)) ≡ new_table t r
    -- what `table_extent` tells of such files
    pub extent : (tail : List ℕ) → length (old ++ tail) ≤ max_table → extent_rule (old ++ tail) ≡ Ok (length old)
    pub extent-both : (tail : List ℕ) → length (old ++ r ++ tail) ≤ max_table
        → extent_rule (counted old (old ++ r ++ tail)) ≡ Ok (length (new_table t r))
    -- and what is left passes all checks, the new table with its end mark too
    pub old-good : table_refusal old ≡ 0
    pub new-good : table_refusal (new_table t r) ≡ 0
    pub file-good : table_refusal (new_file t r) ≡ 0

  new-length : length (new_table t r) ≡ length old + length r
  unfolding new_table counted
  new-length = length-put (old ++ r) 4 (to_le32 (record_count old + 1)) ∙ length-append old r

  pub crash_safe : CrashSafe
  unfolding record_write new_table new_file own_end
  crash_safe =
      let whole = cut-whole t a.table in
      let marked : length (old ++ r ++ (file_end ∷ [])) ≤ max_table =
      omega (arith, small, old-length, length-append (old ++ r) (file_end ∷ []), length-append old r) in
      let bare : length (old ++ r ++ []) ≤ max_table = omega (arith, small, old-length, length-append (old ++ r) [], length-append old r) in
      record {
        before = ap shortened begins ∙ tail_shortened old whole (drop end b);
        torn = λ bytes. ap shortened (stores bytes) ∙ tail_shortened old whole (drop end (put b end bytes));
        first = ap shortened (stores (r ++ (file_end ∷ []))) ∙ tail_shortened old whole (drop end (put b end (r ++ (file_end ∷ []))));
        both = ap shortened both-made ∙ more-shortened old r whole fills few (file_end ∷ rest);
        file = tail_shortened old whole;
        file-both = more-shortened old r whole fills few;
        extent = tail_extent old whole;
        extent-both = λ tail fits. more-extent old r whole fills few tail fits ∙ rw new-length;
        old-good = whole-good old whole;
        new-good = rw append-nil at (more-good old r whole fills few [] bare refl);
        file-good = more-marked old r whole fills few (file_end ∷ []) marked refl;
      }

  behind-eight : 8 ≤ end
  behind-eight = omega (arith, behind t a.table, ends, (layout t a.table).header.form)

  -- the table in the buffer after both stores, up to its new end mark
  pub new-file : take (new_end b) (write (count_write b) (write (record_write b r) b)) ≡ new_file t r
  unfolding new_file counted window
  new-file =
      let image = old ++ r ++ (file_end ∷ []) in
      let whole : old ++ r ++ (file_end ∷ rest) ≡ image ++ rest = simp append_assoc in
      let long-enough : length image ≡ end + length r + 1 = omega (arith, old-length, length-append (old ++ r) (file_end ∷ []), length-append old r) in
      rw (new-end, both-made, whole)
      (window-inside (image ++ rest) 4 (to_le32 (record_count old + 1)) 0 (end + length r + 1)
      (omega (arith, length-to_le32 (record_count old + 1), behind-eight))
      ∙ rw (take_at image rest (end + length r + 1) long-enough))

  -- ---- what the host is told

  abbrev after : List ℕ
  after = write (count_write b) (write (record_write b r) b)

  -- no byte outside them changes
  pub elsewhere : (k : ℕ) → (4 ≤ k → k < 8 → ⊥) → (end ≤ k → k < end + length r + 1 → ⊥) → byte_at after k ≡ byte_at b k
  unfolding record_write count_write own_end
  elsewhere k outside-count outside-record =
      let bytes = r ++ (file_end ∷ []) in
      let count = to_le32 (record_count b + 1) in
      let record-kept : byte_at (put b end bytes) k ≡ byte_at b k =
      either (ltb k end)
      (λ low. get_or-put_low b end bytes k 0 (ltb-true k end low))
      (λ high. either (ltb k (end + length r + 1))
      (λ inside. absurd (outside-record (ltb-false k end high) (ltb-true k (end + length r + 1) inside)))
      (λ beyond. get_or-put_high b end bytes k 0 (omega (arith, ltb-false k (end + length r + 1) beyond, length-append r (file_end ∷ []))))) in
      either (ltb k 4)
      (λ low. get_or-put_low (put b end bytes) 4 count k 0 (ltb-true k 4 low))
      (λ high. either (ltb k 8)
      (λ inside. absurd (outside-count (ltb-false k 4 high) (ltb-true k 8 inside)))
      (λ beyond. get_or-put_high (put b end bytes) 4 count k 0 (omega (arith, ltb-false k 8 beyond, length-to_le32 (record_count b + 1)))))
      ∙ record-kept

  -- the bytes that it finds in the buffer, after the call, where it is told and as many as it is told, are those of the two stores
  pub told-first : window after (told (record_write b r)).place (told (record_write b r)).length ≡ (record_write b r).bytes
  unfolding record_write count_write own_end
  told-first =
      let bytes = r ++ (file_end ∷ []) in
      let count = to_le32 (record_count b + 1) in
      window-after (put b end bytes) 4 count end (length bytes) (omega (arith, length-to_le32 (record_count b + 1), behind-eight))
      ∙ window_same b end bytes (length bytes) refl (omega (arith, room, length-append r (file_end ∷ [])))

  pub told-second : window after (told (count_write b)).place (told (count_write b)).length ≡ (count_write b).bytes
  unfolding record_write count_write own_end
  told-second =
      let count = to_le32 (record_count b + 1) in
      window_same (put b end (r ++ (file_end ∷ []))) 4 count (length count) refl
      (rw length-put (omega (arith, room, behind-eight, length-to_le32 (record_count b + 1))))
