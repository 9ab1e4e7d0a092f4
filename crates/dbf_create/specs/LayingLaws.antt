-- Laws: the bytes that are laid out, byte by byte; that they pass each check of a table that a call does not refuse by; and how the code's stores make them.
-- Assumes nothing.
use Rattle.std.specs.Prelude.{◌≡◌, false, not, ◌&&◌, ◌||◌, take, set, replicate, eqb, leb, Err, Ok}
use Prim.Native.Nat.{ℕ, zero, suc, ◌+◌, ◌*◌, ◌-◌, ◌^◌, ◌≤◌, ◌<◌}
use Rattle.std.proofs.Math.Path.{refl, ap}
use Rattle.std.proofs.Common.{sym, ◌∙◌, add-zero, zero-add, suc-add, not-suc-le-zero, get_or-append-add, lit<}
use Rattle.std.proofs.Math.Bool.{Bool, true, or-true}
use mathlib.Core.List.{List, [], ◌∷◌, ◌++◌}
use native.Mathlib.Omega.{arith}
use Rattle.std.proofs.Math.ListN.{length, length-append, get_or-append}
use borrow.Author.Tests.{leb-true, le-leb, lt-leb, eq-eqb}
use Rattle.basis.specs.Tests.{both, join}
use Rattle.basis.specs.Lists.{all_append}
use Rattle.refusal.specs.After.{After, left}
use Rattle.refusal.specs.CheckLaws.{first_fail, first-none, unless_pass, unless-none, unless-first, unless-at, unless-code}
use Rattle.refusal.specs.Checks.{first_refusal, unless}
use Rattle.octets.specs.Bytes.{byte_at, le16, le32, to_le16, to_le32}
use Rattle.octets.specs.Store.{put, window}
use Rattle.octets.specs.StoreLaws.{length-put, put_append, put_comm, stored2, length-window, get_d_window, window_same, window-after}
use Rattle.octets.specs.NumberLaws.{length-to_le16, le16-put}
use Rattle.calendar.specs.Calendar.{is_date}
use Rattle.dbf_table.specs.Range.{any_below}
use Rattle.dbf_table.specs.RangeLaws.{any_same, sum_same}
use Rattle.dbf_table.specs.Table.{min_table, max_table, max_fields, max_record, plain_kind, memo_kind, end_mark, file_end, descriptor, field_length}
use Rattle.dbf_table.specs.Table.{field_offset, field_count, header_length_of, record_length_of, record_count, records_end, size_good, kind_good, date_good}
use Rattle.dbf_table.specs.Table.{header_good, end_mark_good, fields_good, names_differ, is_memo, has_memo, memo_kind_good, record_length_good, length_good}
use Rattle.dbf_table.specs.Table.{table_checks, table_refusal, check_table, first_year, storable_date}
use Rattle.dbf_table.specs.DateLaws.{StorableDate, storable}
use Rattle.dbf_table.specs.TableLaws.{HeaderFits, table-numbered, good_check, good_then, refused_then, refused_check, good_shape}
use Rattle.dbf_table.specs.declared.Shape.{Shape}
use Rattle.dbf_field.specs.declared.FieldEntry.{FieldEntry}
use Rattle.dbf_create.specs.Laying.{descriptor_of, with_field, placed, kind_for, lists_memo, header_size, record_size, header_of, laid_out}
use Rattle.dbf_create.specs.Laying.{count_good, lay_checks, lay_refusal, lay_out, lay_table}

-- ---- the date and the count

pub count-range : (f : ℕ) → count_good f ≡ true → (1 ≤ f) × (f ≤ max_fields)
unfolding count_good
count-range f e = let parts = both (leb 1 f) (leb f max_fields) e in (leb-true 1 f parts.0, leb-true f max_fields parts.1)

-- what the stores rest on: a date and a count that pass, and room for the table
pub record Layable (space f year month day : ℕ) : Type 0 where
  pub date : StorableDate year month day
  pub some : 1 ≤ f
  pub few : f ≤ max_fields
  pub room : header_size f + 1 ≤ space

-- the descriptors of f fields in a room
abbrev pub listed : List ℕ → ℕ → List ℕ
listed room f = window room 32 (32 * f)

-- and what they leave: the table of these at the front of the room, with a record's length that two bytes hold
pub record Written (room after : List ℕ) (f year month day : ℕ) : Type 0 where
  pub bytes : after ≡ put room 0 (laid_out (listed room f) f year month day)
  pub small : record_size (listed room f) f < 2 ^ 16

-- ---- a list of bytes that holds the descriptors ds of f fields at their places

pub record Holds (b ds : List ℕ) (f : ℕ) : Type 0 where
  pub size : length ds ≡ 32 * f
  pub byte : (k : ℕ) → k < 32 * f → byte_at b (32 + k) ≡ byte_at ds k

placed-holds : (ds : List ℕ) (f : ℕ) → length ds ≡ 32 * f → Holds (placed ds) ds f
unfolding placed
placed-holds ds f e = record { size = e; byte = λ k l. get_or-append-add (replicate min_table 0) ds k 0 }

module _ (b ds : List ℕ) (f : ℕ) (held : Holds b ds f) where
  inner : (j k : ℕ) → j < f → k < 32 → byte_at b (descriptor j + k) ≡ byte_at (placed ds) (descriptor j + k)
  inner j k l m =
      let at : descriptor j + k ≡ 32 + (32 * j + k) = omega arith in
      rw at (held.byte (32 * j + k) (omega arith) ∙ sym ((placed-holds ds f held.size).byte (32 * j + k) (omega arith)))

  memo_held : any_below (is_memo b) f ≡ lists_memo ds f
  unfolding lists_memo is_memo
  memo_held = any_same (is_memo b) (is_memo (placed ds)) f (λ j l. rw (inner j 11 l (omega arith)))

  size-held : field_offset b f ≡ record_size ds f
  unfolding record_size field_offset
  size-held = rw (sum_same (field_length b) (field_length (placed ds)) f (λ j l. inner j 16 l (omega arith)))

-- a header length of H is one of f fields
pub count_held : (b : List ℕ) (f : ℕ) → header_length_of b ≡ header_size f → field_count b ≡ f
unfolding field_count
count_held b f e = omega (arith, e)

fits-held : (b : List ℕ) (f : ℕ) → header_length_of b ≡ header_size f → 1 ≤ f → f ≤ max_fields → header_size f ≤ length b → HeaderFits b
fits-held b f e some few inside =
    let count = count_held b f e in
    record {
      long = omega arith;
      form = omega arith;
      some = omega arith;
      few = omega arith;
      inside = omega arith;
    }

-- ---- what is laid out

-- the kind is one of the two, and fits what is listed
either-kind : (memo : Bool) → eqb (kind_for memo) plain_kind || eqb (kind_for memo) memo_kind ≡ true
unfolding kind_for
either-kind true = refl
either-kind false = refl

kind_fits : (memo : Bool) → not (eqb (kind_for memo) plain_kind && memo || eqb (kind_for memo) memo_kind && not memo) ≡ true
unfolding kind_for
kind_fits true = refl
kind_fits false = refl

module _ (ds : List ℕ) (f year month day : ℕ) where
  length-header : length (header_of ds f year month day) ≡ min_table
  unfolding header_of to_le32 to_le16
  length-header = refl

  module _ (size : length ds ≡ 32 * f) where
    abbrev t : List ℕ
    t = laid_out ds f year month day

    pub length_laid : length t ≡ header_size f + 1
    unfolding laid_out
    length_laid = rw (length-append, length-header, length-append, size) (omega arith)

    early : (k : ℕ) → k < min_table → byte_at t k ≡ byte_at (header_of ds f year month day) k
    unfolding laid_out
    early k l = get_or-append (header_of ds f year month day) _ 0 k (rw length-header l)

    late : (k : ℕ) → byte_at t (32 + k) ≡ byte_at (ds ++ (end_mark ∷ file_end ∷ [])) k
    unfolding laid_out
    late k = rw length-header at (get_or-append-add (header_of ds f year month day) (ds ++ (end_mark ∷ file_end ∷ [])) k 0)

    pub laid_holds : Holds t ds f
    laid_holds = record { size = size; byte = λ k l. late k ∙ get_or-append ds _ 0 k (omega arith) }

    laid_kind : byte_at t 0 ≡ kind_for (lists_memo ds f)
    unfolding header_of
    laid_kind = early 0 (lit< tt)

    laid_date : date_good t ≡ is_date (1900 + (year - first_year)) month day
    unfolding date_good header_of
    laid_date = rw (early 1 (lit< tt), early 2 (lit< tt), early 3 (lit< tt))

    pub laid_records : record_count t ≡ 0
    unfolding record_count le32 header_of to_le32
    laid_records = rw (early 4 (lit< tt), early 5 (lit< tt), early 6 (lit< tt), early 7 (lit< tt))

    pub laid_header : f ≤ max_fields → header_length_of t ≡ header_size f
    unfolding header_length_of le16 header_of to_le32 to_le16
    laid_header few = rw (early 8 (lit< tt), early 9 (lit< tt)) (omega arith)

    laid_length : record_size ds f < 2 ^ 16 → record_length_of t ≡ record_size ds f
    unfolding record_length_of le16 header_of to_le32 to_le16
    laid_length small = rw (early 10 (lit< tt), early 11 (lit< tt)) (omega arith)

    mark : (i : ℕ) → byte_at t (32 + (32 * f + i)) ≡ byte_at (end_mark ∷ file_end ∷ []) i
    mark i = late (32 * f + i) ∙ rw size at (get_or-append-add ds (end_mark ∷ file_end ∷ []) i 0)

    module _ (some : 1 ≤ f) (few : f ≤ max_fields) where
      laid_count : field_count t ≡ f
      laid_count = count_held t f (laid_header few)

      laid_size : size_good t ≡ true
      unfolding size_good
      laid_size =
          let size = header_size f + 1 in
          rw length_laid (join (leb min_table size) (leb size max_table) (le-leb min_table size (omega arith)) (le-leb size max_table (omega arith)))

      laid_kinds : kind_good t ≡ true
      unfolding kind_good
      laid_kinds = rw laid_kind (either-kind (lists_memo ds f))

      laid_form : header_good t ≡ true
      unfolding header_good
      laid_form =
          rw (
            laid_header few,
            laid_count,
            length_laid,
            eq-eqb (header_size f) (33 + 32 * f) refl,
            le-leb 1 f some,
            le-leb f max_fields few,
            le-leb (header_size f) (header_size f + 1) (omega arith),
          )

      laid_mark : end_mark_good t ≡ true
      unfolding end_mark_good
      laid_mark =
          let at : header_size f - 1 ≡ 32 + (32 * f + 0) = omega arith in
          rw (laid_header few, at, mark 0)

      laid_memo : memo_kind_good t ≡ true
      unfolding memo_kind_good has_memo
      laid_memo = rw (laid_kind, laid_count, memo_held t ds f laid_holds) (kind_fits (lists_memo ds f))

      laid_end : records_end t (record_count t) ≡ header_size f
      unfolding records_end
      laid_end = rw (laid_records, laid_header few) (omega arith)

      laid_ended : length_good t ≡ true
      unfolding length_good
      laid_ended =
          let at : header_size f ≡ 32 + (32 * f + 1) = omega arith in
          let ended : byte_at t (header_size f) ≡ file_end = rw at (mark 1) in
          rw (laid_end, length_laid, eq-eqb (header_size f + 1) (header_size f + 1) refl, ended) (or-true (eqb (header_size f + 1) (header_size f)))

      laid_filled : record_size ds f < 2 ^ 16 → record_length_good t ≡ leb (record_size ds f) max_record
      unfolding record_length_good
      laid_filled small =
          rw (laid_length small, laid_count, size-held t ds f laid_holds, eq-eqb (record_size ds f) (record_size ds f) refl)

      -- the table's checks, and others after them, refuse by its fields, its names and its record's length alone
      pub laid_checks : StorableDate year month day → record_size ds f < 2 ^ 16 → {A : Type 0} (refused : ℕ → A) (made : A) (more : List (Bool × ℕ))
          → unless (table_checks t ++ more) refused made
          ≡ unless ((fields_good t, 6) ∷ (names_differ t, 7) ∷ (leb (record_size ds f) max_record, 9) ∷ more) refused made
      unfolding table_checks unless
      laid_checks real small refused made more =
          let year-back : 1900 + (year - first_year) ≡ year = omega (arith, real.year_from) in
          let date : date_good t ≡ true = laid_date ∙ rw year-back real.date in
          rw (laid_size, laid_kinds, date, laid_form, laid_mark, laid_memo, laid_filled small, laid_ended)

-- ---- the rule by its refusals

module _ (b ds : List ℕ) (f year month day : ℕ) where
  abbrev new : After ℕ
  new = left (put b 0 (laid_out ds f year month day)) 0

  pub lay_3 : storable_date year month day ≡ false → lay_out b ds f year month day ≡ left b 3
  unfolding lay_out lay_checks
  lay_3 bad = unless-at (left b) new 0 (lay_checks (length b) ds f year month day) tt bad

  pub lay_4 : storable_date year month day ≡ true → count_good f ≡ false → lay_out b ds f year month day ≡ left b 4
  unfolding lay_out lay_checks
  lay_4 good bad = unless-at (left b) new 1 (lay_checks (length b) ds f year month day) (good, tt) bad

  -- each check that fails has a number: the table is laid out exactly if none does
  pub lay_zero : lay_refusal (length b) ds f year month day ≡ 0 → lay_out b ds f year month day ≡ new
  unfolding lay_out lay_refusal lay_checks
  lay_zero e =
      let checks = lay_checks (length b) ds f year month day in
      unless-none (left b) new checks (first-none checks (lit< tt, (lit< tt, (lit< tt, (lit< tt, (lit< tt, (lit< tt, tt)))))) e)

  -- the number of the answer is the first refusal
  pub lay_code : (lay_out b ds f year month day).answer ≡ lay_refusal (length b) ds f year month day
  unfolding lay_out lay_refusal
  lay_code = unless-code (left b) new (λ (call : After ℕ). call.answer) refl (λ n. refl) (lay_checks (length b) ds f year month day)

  -- a good date and count: the table's own checks decide, and the room
  lay_checked : storable_date year month day ≡ true → count_good f ≡ true → length ds ≡ 32 * f → record_size ds f < 2 ^ 16
      → lay_out b ds f year month day ≡ lay_table b (laid_out ds f year month day)
  unfolding lay_out lay_checks lay_table
  lay_checked date count size small =
      let t = laid_out ds f year month day in
      let range = count-range f count in
      let room : List (Bool × ℕ) = (leb (header_size f + 1) (length b), 30) ∷ [] in
      let fields : List (Bool × ℕ) = (fields_good t, 6) ∷ (names_differ t, 7) ∷ (leb (record_size ds f) max_record, 9) ∷ room in
      unless_pass (left b) new (storable_date year month day) 3 ((count_good f, 4) ∷ fields) date
      ∙ unless_pass (left b) new (count_good f) 4 fields count
      ∙ rw (laid_header ds f year month day size range.1)
      (sym (laid_checks ds f year month day size range.0 range.1 (storable year month day date) small (left b) new room))

-- ---- a table in a buffer

module _ (b t : List ℕ) where
  abbrev front : After ℕ
  front = left (put b 0 t) 0

  -- the table's checks, and then the room
  abbrev checks : List (Bool × ℕ)
  checks = table_checks t ++ ((leb (header_length_of t + 1) (length b), 30) ∷ [])

  -- by the first refusal
  table-first : (k : ℕ) → first_refusal checks ≡ k → (k ≡ 0 → ⊥) → lay_table b t ≡ left b k
  unfolding lay_table
  table-first k e some = unless-first (left b) front checks (λ z. some (sym e ∙ z)) ∙ ap (left b) e

  pub table-refused : (k : ℕ) → check_table t ≡ Err k → lay_table b t ≡ left b k
  table-refused k e = table-first k (refused_then t k _ e) (refused_check t k e).1

  module _ (s : Shape) (e : check_table t ≡ Ok s) where
    pub table_30 : length b < s.header_length + 1 → lay_table b t ≡ left b 30
    table_30 h =
        let short = lt-leb (header_length_of t + 1) (length b) (rw (← (good_shape t s e).header) h) in
        table-first 30 (good_then t s _ e ∙ first_fail _ 30 [] short) (λ z. omega arith)

    pub table_laid : s.header_length + 1 ≤ length b → lay_table b t ≡ left (put b 0 t) 0
    unfolding lay_table table_refusal
    table_laid h =
        let long = le-leb (header_length_of t + 1) (length b) (rw (← (good_shape t s e).header) h) in
        unless-none (left b) front checks
        (all_append (λ (check : Bool × ℕ). check.0 ≡ true) (table_checks t) _ (first-none (table_checks t) (table-numbered t) (good_check t s e).0) (long, tt))

-- ---- the stores

-- the pieces of the header and the descriptors, in the order of the code, are one store after another
pieces : (b first size ds record-size rest : List ℕ) → length first ≡ 8 → length size ≡ 2 → length record-size ≡ 2 → length rest ≡ 20
    → put (put (put (put (put b 8 size) 32 ds) 10 record-size) 0 first) 12 rest ≡ put (put b 0 (first ++ (size ++ (record-size ++ rest)))) 32 ds
pieces b first size ds record-size rest e₁ e₂ e₃ e₄ =
    let whole : put b 0 (first ++ (size ++ (record-size ++ rest))) ≡ put (put (put (put b 0 first) 8 size) 10 record-size) 12 rest =
    rw (put_append b 0 first _, e₁, put_append (put b 0 first) 8 size _, e₂, put_append (put (put b 0 first) 8 size) 10 record-size _, e₃) in
    rw (
      whole,
      put_comm (put (put (put b 0 first) 8 size) 10 record-size) 12 rest 32 ds (omega arith),
      put_comm (put (put b 0 first) 8 size) 10 record-size 32 ds (omega arith),
      put_comm b 0 first 8 size (omega arith),
      put_comm (put b 8 size) 0 first 32 ds (omega arith),
      put_comm (put (put b 8 size) 32 ds) 0 first 10 record-size (omega arith),
    )

-- a part that is stored at its own place changes nothing
put-own : (xs : List ℕ) (at n : ℕ) → put xs at (window xs at n) ≡ xs
unfolding put window
put-own [] at n = refl
put-own (x ∷ xs) zero zero = refl
put-own (x ∷ xs) zero (suc n) = ap (λ (l : List ℕ). x ∷ l) (put-own xs zero n)
put-own (x ∷ xs) (suc at) n = ap (λ (l : List ℕ). x ∷ l) (put-own xs at n)

-- the room with its header's length; its descriptors are as they were
module _ (b b₁ : List ℕ) (f year month day : ℕ) (given : Layable (length b) f year month day) (e₁ : b₁ ≡ put b 8 (to_le16 (32 + 32 * f + 1))) where
  abbrev ds : List ℕ
  ds = listed b f

  listed-size : length ds ≡ 32 * f
  listed-size = length-window b 32 (32 * f) (omega (arith, given.room))

  length_begun : length b₁ ≡ length b
  length_begun = rw (e₁, length-put)

  begun_kept : window b₁ 32 (32 * f) ≡ ds
  begun_kept = rw e₁ (window-after b 8 (to_le16 (32 + 32 * f + 1)) 32 (32 * f) (omega (arith, length-to_le16 (32 + 32 * f + 1))))

  begun_put : b₁ ≡ put (put b 8 (to_le16 (32 + 32 * f + 1))) 32 ds
  begun_put = sym (put-own b₁ 32 (32 * f)) ∙ rw (begun_kept, e₁)

  begun_holds : Holds b₁ ds f
  begun_holds = record {
    size = listed-size;
    byte = λ k l. sym (get_d_window b₁ 32 (32 * f) k 0 l) ∙ ap (λ (s : List ℕ). byte_at s k) begun_kept;
  }

  begun_header : header_length_of b₁ ≡ header_size f
  unfolding header_length_of
  begun_header =
      let stored : le16 b₁ 8 ≡ 32 + 32 * f + 1 = rw e₁ (le16-put b 8 (32 + 32 * f + 1) (omega (arith, given.few)) (omega (arith, given.room))) in
      omega arith

  pub begun_fits : HeaderFits b₁
  begun_fits = fits-held b₁ f begun_header given.some given.few (rw length_begun (omega (arith, given.room)))

  begun_memo : has_memo b₁ ≡ lists_memo ds f
  unfolding has_memo
  begun_memo = rw (count_held b₁ f begun_header) (memo_held b₁ ds f begun_holds)

  pub begun_size : field_offset b₁ f ≡ record_size ds f
  begun_size = size-held b₁ ds f begun_holds

  module _ (kind size : ℕ) (b₂ b₃ b₄ : List ℕ) (k : kind ≡ kind_for (has_memo b₁)) (r : size ≡ field_offset b₁ f) (e₂ : b₂ ≡ put b₁ 10 (to_le16 size))
      (e₃ : b₃ ≡ put b₂ 0 (kind ∷ (year - first_year) ∷ month ∷ day ∷ 0 ∷ 0 ∷ 0 ∷ 0 ∷ [])) (e₄ : b₄ ≡ put b₃ 12 (replicate 20 0)) where
    -- the rest of the header
    header-written : b₄ ≡ put (put b 0 (header_of ds f year month day)) 32 ds
    unfolding header_of to_le32
    header-written =
        let first : List ℕ = kind_for (lists_memo ds f) ∷ (year - first_year) ∷ month ∷ day ∷ 0 ∷ 0 ∷ 0 ∷ 0 ∷ [] in
        let length-is : 32 + 32 * f + 1 ≡ header_size f = omega arith in
        e₄ ∙ rw (e₃, e₂, k, begun_memo, r, begun_size, begun_put, length-is)
        (pieces b first (to_le16 (header_size f)) ds (to_le16 (record_size ds f)) (replicate 20 0) refl (length-to_le16 _) (length-to_le16 _) refl)

    -- and the marks
    pub written : set (set b₄ (32 + 32 * f) end_mark) (32 + 32 * f + 1) file_end ≡ put b 0 (laid_out ds f year month day)
    unfolding laid_out
    written =
        let header = header_of ds f year month day in
        let marks : List ℕ = end_mark ∷ file_end ∷ [] in
        rw (
          put_append b 0 header (ds ++ marks),
          length-header ds f year month day,
          put_append (put b 0 header) 32 ds marks,
          listed-size,
          header-written,
        )
        (stored2 (put (put b 0 header) 32 ds) (32 + 32 * f) end_mark file_end)

-- what was made at the front of a room
module _ (room made : List ℕ) (f year month day : ℕ) (given : Layable (length room) f year month day)
    (e : made ≡ put room 0 (laid_out (listed room f) f year month day)) where
  made-size : length (listed room f) ≡ 32 * f
  made-size = length-window room 32 (32 * f) (omega (arith, given.room))

  made-front : take (32 + 32 * f + 2) made ≡ laid_out (listed room f) f year month day
  unfolding window
  made-front =
      let t = laid_out (listed room f) f year month day in
      let long : length t ≡ 32 + 32 * f + 2 = length_laid (listed room f) f year month day made-size ∙ omega arith in
      rw e (window_same room 0 t (32 + 32 * f + 2) long (omega (arith, given.room)))

  pub made-length : length (take (32 + 32 * f + 2) made) ≡ header_length_of (take (32 + 32 * f + 2) made) + 1
  made-length =
      let ds = listed room f in
      rw made-front (length_laid ds f year month day made-size ∙ rw (laid_header ds f year month day made-size given.few))

  -- is what the call lays out
  pub lay_made : (b : List ℕ) → storable_date year month day ≡ true → count_good f ≡ true → record_size (listed room f) f < 2 ^ 16
      → lay_out b (listed room f) f year month day ≡ lay_table b (take (32 + 32 * f + 2) made)
  lay_made b date count small = rw made-front (lay_checked b (listed room f) f year month day date count made-size small)

-- ---- the descriptors

-- a byte set inside a store is part of it
set_inside : (xs : List ℕ) (at : ℕ) (ys : List ℕ) (i v : ℕ) → i < length ys → set (put xs at ys) (at + i) v ≡ put xs at (set ys i v)
unfolding put
set_inside [] at ys i v l = refl
set_inside (x ∷ xs) zero [] i v l = absurd (not-suc-le-zero l)
set_inside (x ∷ xs) zero (y ∷ ys) zero v l = refl
set_inside (x ∷ xs) zero (y ∷ ys) (suc i) v l =
    rw (zero-add (suc i)) (ap (λ (l : List ℕ). y ∷ l) (rw (zero-add i) at (set_inside xs zero ys i v (omega arith))))
set_inside (x ∷ xs) (suc at) ys i v l = rw (suc-add at i) (ap (λ (l : List ℕ). x ∷ l) (set_inside xs at ys i v l))

-- three bytes set among zeros
set_three : (b : List ℕ) (p k l d : ℕ)
    → set (set (set (put b p (replicate 21 0)) p k) (p + 5) l) (p + 6) d ≡ put b p (k ∷ 0 ∷ 0 ∷ 0 ∷ 0 ∷ l ∷ d ∷ replicate 14 0)
set_three b p k l d =
    let first = rw (add-zero p) at (set_inside b p (replicate 21 0) 0 k (omega arith)) in
    let second = set_inside b p (k ∷ replicate 20 0) 5 l (omega arith) in
    rw (first, second, set_inside b p (k ∷ 0 ∷ 0 ∷ 0 ∷ 0 ∷ l ∷ replicate 15 0) 6 d (omega arith))

-- the name, zeros behind it, and the type, the length and the decimals among these
pub field_put : (room : List ℕ) (j : ℕ) (e : FieldEntry) (b₁ b₂ : List ℕ) → length e.name ≡ 11 → b₁ ≡ put room (32 + 32 * j) e.name
    → b₂ ≡ put b₁ (32 + 32 * j + 11) (replicate (32 + 32 * j + 32 - (32 + 32 * j + 11)) 0)
    → set (set (set b₂ (32 + 32 * j + 11) e.kind) (32 + 32 * j + 16) e.length) (32 + 32 * j + 17) e.decimals ≡ with_field room j e
unfolding with_field descriptor_of
field_put room j e b₁ b₂ n e₁ e₂ =
    let p = 32 + 32 * j in
    let zeros : p + 32 - (p + 11) ≡ 21 = omega arith in
    let length_at : p + 16 ≡ p + 11 + 5 = omega arith in
    let decimals-at : p + 17 ≡ p + 11 + 6 = omega arith in
    let stored : b₂ ≡ put b₁ (p + 11) (replicate 21 0) = rw zeros at e₂ in
    rw (
      length_at,
      decimals-at,
      stored,
      set_three b₁ (p + 11) e.kind e.length e.decimals,
      e₁,
      put_append room p e.name _,
      n,
    )
