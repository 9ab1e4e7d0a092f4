-- Laws: how the code's tests meet the refusals of an append and of a new date, and the stores their rule. Assumes nothing.
use Rattle.std.specs.Prelude.{ℕ, suc, ◌+◌, ◌*◌, ◌-◌, ◌≤◌, ◌<◌, ◌≡◌, Bool, true, false, length, take, drop, set, eqb, leb, Err, Ok, Option, None, Some, ℤ, refl}
use Rattle.std.proofs.Math.Path.{sym, ap}
use Rattle.std.proofs.Common.{◌∙◌, mul-le-mul_left, mul-one, length-append, get_or-take, length-take-le, lit<}
use mathlib.Core.List.{List, [], ◌∷◌, ◌++◌}
use native.Mathlib.Omega.{arith}
use borrow.Author.Tests.{leb-true, eqb-true, eqb-false, le-leb, lt-leb, eq-eqb, ne_eqb}
use Rattle.basis.specs.Tests.{either, both, impossible}
use Rattle.basis.specs.Lists.{All, all_append, all_map}
use Rattle.refusal.specs.After.{After, left}
use Rattle.refusal.specs.CheckLaws.{first_pass, first_fail, first-none, first-both, Named, Numbered, unless-first, unless-zero}
use Rattle.refusal.specs.Checks.{first_refusal}
use Rattle.octets.specs.Bytes.{byte_at, le16, le32, to_le32}
use Rattle.octets.specs.Store.{put, window}
use Rattle.octets.specs.StoreLaws.{put_snoc, stored2, length-window}
use Rattle.calendar.specs.DateText.{date_of}
use Rattle.numeral.specs.Reading.{read_number}
use Rattle.fpt_memo.specs.Memo.{memo_number}
use Rattle.dbf_cell.specs.Cell.{mark_good, logical_of}
use Rattle.dbf_cell.specs.Codes.{number_refusal}
use Rattle.calendar.specs.declared.Date.{Date}
use Rattle.dbf_table.specs.FieldTypes.{letter_of, type_of}
use Rattle.dbf_table.specs.declared.FieldType.{FieldType}
use Rattle.dbf_table.specs.declared.FieldType.TheVariants as field
use Rattle.dbf_table.specs.Table.{min_table, max_table, file_end, type_c, type_n, type_d, type_l, type_m, field_type, field_length, field_decimals, field_offset}
use Rattle.dbf_table.specs.Table.{field_count, first_year, storable_date, header_length_of, record_length_of, record_count, records_end, size_good}
use Rattle.dbf_table.specs.Table.{table_checks, table_refusal, check_table}
use Rattle.dbf_table.specs.TableLaws.{Layout, layout, table-numbered, good_check, good_then, refused_check, refused_then}
use Rattle.dbf_table.specs.FormLaws.{field_form, form-some}
use Rattle.dbf_table.specs.RecordLaws.{field_inside, record_positive, records-next}
use Rattle.dbf_table.specs.declared.Shape.{Shape}
use Rattle.dbf_append.specs.Append.{held_checks, check_held, date_refusal, logical_refusal, memo_refusal, text_refusal, text_in, texts_refusal}
use Rattle.dbf_append.specs.Append.{room_for, new_end, record_checks, record_refusal, append_checks, append_refusal, record_write, count_write}
use Rattle.dbf_append.specs.Append.{write, stored, unstored, append_rule, Appendable}
use Rattle.dbf_append.specs.UpdateDate.{set_date_checks, set_date_refusal, date_write, set_date_rule}

-- ---- the table in the buffer

module _ (b : List ℕ) (n : ℕ) where
  pub held-long : length b < n → check_held b n ≡ Err 10
  unfolding check_held
  held-long h = rw (lt-leb n (length b) h)

  pub held-checked : n ≤ length b → check_held b n ≡ check_table (take n b)
  unfolding check_held
  held-checked h = rw (le-leb n (length b) h)

  -- what a caller learns from the answer's case
  pub held-good : (s : Shape) → check_held b n ≡ Ok s → (n ≤ length b) × (check_table (take n b) ≡ Ok s)
  unfolding check_held
  held-good s e =
      either (leb n (length b))
      (λ fits. (leb-true n (length b) fits, rw fits at e))
      (λ long. let q : Err 10 ≡ Ok s = rw long at e in impossible (cc))

  -- the header lies in the buffer
  pub held-header : (s : Shape) → check_held b n ≡ Ok s → min_table ≤ length b
  held-header s e =
      let good = held-good s e in
      let header = (layout (take n b) (good_check (take n b) s good.1).0).header in
      omega (arith, header.long, length-take-le n b good.0)

  -- the checks after those of the table: they decide if the table is good, and its refusal does if it is not
  pub held_then : (s : Shape) (more : List (Bool × ℕ)) → check_held b n ≡ Ok s → first_refusal (held_checks b n more) ≡ first_refusal more
  unfolding held_checks
  held_then s more e =
      let good = held-good s e in
      first_pass (leb n (length b)) 10 (table_checks (take n b) ++ more) (le-leb n (length b) good.0) ∙ good_then (take n b) s more good.1

  pub held-refused : (k : ℕ) (more : List (Bool × ℕ)) → check_held b n ≡ Err k → (first_refusal (held_checks b n more) ≡ k) × (k ≡ 0 → ⊥)
  unfolding check_held held_checks
  held-refused k more e =
      either (leb n (length b))
      (λ fits.
      let q : check_table (take n b) ≡ Err k = rw fits at e in
      (first_pass (leb n (length b)) 10 (table_checks (take n b) ++ more) fits ∙ refused_then (take n b) k more q, (refused_check (take n b) k q).1))
      (λ long.
      let q : Err 10 ≡ Err k = rw long at e in
      let same : 10 ≡ k = cc in
      (first_fail (leb n (length b)) 10 (table_checks (take n b) ++ more) long ∙ same, λ z. omega arith))

  -- no refusal: the table lies in the buffer and is good, and the checks after it hold
  pub held_none : (more : List (Bool × ℕ)) → first_refusal (held_checks b n more) ≡ 0
      → (n ≤ length b) × (table_refusal (take n b) ≡ 0) × (first_refusal more ≡ 0)
  unfolding held_checks table_refusal
  held_none more e =
      let front : List (Bool × ℕ) = (leb n (length b), 10) ∷ table_checks (take n b) in
      let parts = first-both front more (lit< tt, table-numbered (take n b)) e in
      let held = first-none front (lit< tt, table-numbered (take n b)) parts.0 in
      (leb-true n (length b) held.0, sym (first_pass (leb n (length b)) 10 (table_checks (take n b)) held.0) ∙ parts.0, parts.1)

  -- each check that fails has a number
  pub held-named : (more : List (Bool × ℕ)) → All Named more → All Named (held_checks b n more)
  unfolding held_checks
  held-named more named = (
    (λ bad none. omega arith),
    all_append Named (table_checks (take n b)) more
        (all_map Numbered Named (λ check some bad none. omega (arith, some, none)) (table_checks (take n b)) (table-numbered (take n b))) named,
  )

-- ---- a field's text

-- the type decides who reads it
module _ (type decimals : ℕ) (s : List ℕ) where
  pub text_number : type ≡ type_n → text_refusal type decimals s ≡ number_refusal (read_number s decimals)
  unfolding text_refusal
  text_number e = rw e

  pub text_date : type ≡ type_d → text_refusal type decimals s ≡ date_refusal (date_of s)
  unfolding text_refusal
  text_date e = rw e

  pub text_logical : type ≡ type_l → text_refusal type decimals s ≡ logical_refusal (logical_of (byte_at s 0))
  unfolding text_refusal
  text_logical e = rw e

  pub text_memo : type ≡ type_m → text_refusal type decimals s ≡ memo_refusal (memo_number s)
  unfolding text_refusal
  text_memo e = rw e

  pub text_any : (type ≡ type_n → ⊥) → (type ≡ type_d → ⊥) → (type ≡ type_l → ⊥) → (type ≡ type_m → ⊥) → text_refusal type decimals s ≡ 0
  unfolding text_refusal
  text_any a b c d = rw (ne_eqb type type_n a, ne_eqb type type_d b, ne_eqb type type_l c, ne_eqb type type_m d)

-- a letter is that of the type that it stands for
pub letter_is : (letter : ℕ) (t : FieldType) → type_of letter ≡ Some t → letter ≡ letter_of t
letter_is letter t e =
    either (eqb letter type_c)
    (λ c. let q : Some field.Text ≡ Some t = rw c at e in let is : t ≡ field.Text = cc in rw is (eqb-true letter type_c c))
    (λ not-c. either (eqb letter type_n)
    (λ n. let q : Some field.Number ≡ Some t = rw (not-c, n) at e in let is : t ≡ field.Number = cc in rw is (eqb-true letter type_n n))
    (λ not-n. either (eqb letter type_d)
    (λ d. let q : Some field.Date ≡ Some t = rw (not-c, not-n, d) at e in let is : t ≡ field.Date = cc in rw is (eqb-true letter type_d d))
    (λ not-d. either (eqb letter type_l)
    (λ l. let q : Some field.Logical ≡ Some t = rw (not-c, not-n, not-d, l) at e in let is : t ≡ field.Logical = cc in rw is (eqb-true letter type_l l))
    (λ not-l. either (eqb letter type_m)
    (λ m. let q : Some field.Memo ≡ Some t = rw (not-c, not-n, not-d, not-l, m) at e in let is : t ≡ field.Memo = cc in rw is (eqb-true letter type_m m))
    (λ not-m. let q : None ≡ Some t = rw (not-c, not-n, not-d, not-l, not-m) at e in impossible (cc))))))

-- a letter of no type, and that of text, takes any bytes
pub text_taken : (letter decimals : ℕ) (s : List ℕ) → type_of letter ≡ None → text_refusal letter decimals s ≡ 0
text_taken letter decimals s e =
    text_any letter decimals s
    (λ n. let q : Some field.Number ≡ None = rw n at e in impossible (cc))
    (λ d. let q : Some field.Date ≡ None = rw d at e in impossible (cc))
    (λ l. let q : Some field.Logical ≡ None = rw l at e in impossible (cc))
    (λ m. let q : Some field.Memo ≡ None = rw m at e in impossible (cc))

-- an answer that is no refusal
pub number_taken : (v : Option ℤ) → number_refusal (Ok v) ≡ 0
unfolding number_refusal
number_taken None = refl
number_taken (Some v) = refl

pub date_taken : (v : Option Date) → date_refusal (Ok v) ≡ 0
unfolding date_refusal
date_taken None = refl
date_taken (Some v) = refl

pub logical_taken : (v : Option Bool) → logical_refusal (Ok v) ≡ 0
unfolding logical_refusal
logical_taken None = refl
logical_taken (Some v) = refl

pub memo_taken : (v : Option ℕ) → memo_refusal (Ok v) ≡ 0
unfolding memo_refusal
memo_taken None = refl
memo_taken (Some v) = refl

-- from one offset to another
pub text-part : (t r : List ℕ) (j start end : ℕ) → start ≡ field_offset t j → end ≡ start + field_length t j → take (end - start) (drop start r) ≡ text_in t r j
unfolding text_in window
text-part t r j start end s e = let l : end - start ≡ field_length t j = omega arith in rw (l, s)

-- a field has a byte at least, in a record of R bytes
pub text_some : (t r : List ℕ) → Layout t → length r ≡ record_length_of t → (j : ℕ) → j < field_count t → 1 ≤ length (text_in t r j)
unfolding text_in
text_some t r good long j l =
    let inside = field_inside t good j l in
    rw (length-window r (field_offset t j) (field_length t j) (omega arith)) (form-some _ _ _ (field_form t good j l))

-- field after field
module _ (t r : List ℕ) where
  pub texts-end : (j n : ℕ) → n ≤ j → texts_refusal t r j (n - j) ≡ 0
  unfolding texts_refusal
  texts-end j n h = let e : n - j ≡ 0 = omega arith in rw e

  -- the refusal of field j's text
  abbrev pub field_refused : ℕ → ℕ
  field_refused j = text_refusal (field_type t j) (field_decimals t j) (text_in t r j)

  -- by what the field's entry says
  pub text_read : (j : ℕ) {type decimals start end : ℕ} → type ≡ field_type t j → decimals ≡ field_decimals t j → start ≡ field_offset t j
      → end ≡ start + field_length t j → text_refusal type decimals (take (end - start) (drop start r)) ≡ field_refused j
  text_read j {type} {decimals} {start} {end} k d s e = rw (k, d, text-part t r j start end s e)

  module _ (j n : ℕ) (h : j < n) where
    one_left : n - j ≡ suc (n - (j + 1))
    one_left = omega arith

    pub texts-next : field_refused j ≡ 0 → texts_refusal t r j (n - j) ≡ texts_refusal t r (j + 1) (n - (j + 1))
    unfolding texts_refusal
    texts-next e = rw (one_left, e)

    pub texts_stop : (field_refused j ≡ 0 → ⊥) → texts_refusal t r j (n - j) ≡ field_refused j
    unfolding texts_refusal
    texts_stop e = rw (one_left, ne_eqb (field_refused j) 0 e)

-- ---- a record

-- a good table is no longer than a table may be
pub table-small : (t : List ℕ) → table_refusal t ≡ 0 → length t ≤ max_table
unfolding table_refusal table_checks size_good
table-small t e =
    let size = (first-none (table_checks t) (table-numbered t) e).0 in
    leb-true (length t) max_table (both (leb min_table (length t)) (leb (length t) max_table) size).1

-- each record has a byte at least
pub count-within : (t : List ℕ) → Layout t → record_count t ≤ records_end t (record_count t)
unfolding records_end
count-within t good =
    let each : record_count t * 1 ≤ record_count t * record_length_of t = mul-le-mul_left (record_count t) (record_positive t good) in
    omega (arith, mul-one (record_count t))

room-ends : (end room : ℕ) → room_for end room ≡ true → (end ≤ room) × (end ≤ max_table)
unfolding room_for
room-ends end room fits =
    let parts = both (leb end room) (leb end max_table) fits in
    (leb-true end room parts.0, leb-true end max_table parts.1)

module _ (t : List ℕ) (room : ℕ) (r : List ℕ) where
  abbrev texts : ℕ
  texts = texts_refusal t r 0 (field_count t)

  pub record_9 : (length r ≡ record_length_of t → ⊥) → record_refusal t room r ≡ 9
  unfolding record_refusal record_checks first_refusal
  record_9 e = rw (ne_eqb (length r) (record_length_of t) e)

  module _ (long : length r ≡ record_length_of t) where
    pub record_15 : mark_good (byte_at r 0) ≡ false → record_refusal t room r ≡ 15
    unfolding record_refusal record_checks first_refusal
    record_15 bad = rw (eq-eqb (length r) (record_length_of t) long, bad)

    module _ (mark : mark_good (byte_at r 0) ≡ true) where
      pub record_text : (texts ≡ 0 → ⊥) → record_refusal t room r ≡ texts
      unfolding record_refusal record_checks first_refusal
      record_text e = rw (eq-eqb (length r) (record_length_of t) long, mark, ne_eqb texts 0 e)

      pub record_30 : texts ≡ 0 → room_for (new_end t) room ≡ false → record_refusal t room r ≡ 30
      unfolding record_refusal record_checks first_refusal
      record_30 e f = rw (eq-eqb (length r) (record_length_of t) long, mark, e, f)

      pub record_taken : texts ≡ 0 → room_for (new_end t) room ≡ true → record_refusal t room r ≡ 0
      unfolding record_refusal record_checks first_refusal
      record_taken e f = rw (eq-eqb (length r) (record_length_of t) long, mark, e, f)

  -- no refusal: each check holds
  pub record Taken : Type 0 where
    pub long : length r ≡ record_length_of t
    pub mark : mark_good (byte_at r 0) ≡ true
    pub texts : texts_refusal t r 0 (field_count t) ≡ 0
    pub fits : new_end t ≤ room
    pub small : new_end t ≤ max_table

  pub taken : record_refusal t room r ≡ 0 → Taken
  taken e =
      either (eqb (length r) (record_length_of t))
      (λ long. let same = eqb-true (length r) (record_length_of t) long in
      either (mark_good (byte_at r 0))
      (λ mark. either (eqb texts 0)
      (λ none. let read = eqb-true texts 0 none in
      either (room_for (new_end t) room)
      (λ fits. let ends = room-ends (new_end t) room fits in record { long = same; mark = mark; texts = read; fits = ends.0; small = ends.1 })
      (λ full. absurd (omega (arith, e, record_30 same mark read full))))
      (λ some. let other = eqb-false texts 0 some in absurd (other (sym (record_text same mark other) ∙ e))))
      (λ bad. absurd (omega (arith, e, record_15 same bad))))
      (λ other. absurd (omega (arith, e, record_9 (eqb-false (length r) (record_length_of t) other))))

-- ---- the header of a buffer that begins with a table is the table's

module _ (b : List ℕ) (n : ℕ) (long : min_table ≤ n) where
  early : (k : ℕ) → k < min_table → byte_at (take n b) k ≡ byte_at b k
  early k h = get_or-take n b k 0 (omega arith)

  pub count-front : record_count (take n b) ≡ record_count b
  unfolding record_count le32
  count-front = rw (early 4 (lit< tt), early 5 (lit< tt), early 6 (lit< tt), early 7 (lit< tt))

  header-front : header_length_of (take n b) ≡ header_length_of b
  unfolding header_length_of le16
  header-front = rw (early 8 (lit< tt), early 9 (lit< tt))

  pub length_front : record_length_of (take n b) ≡ record_length_of b
  unfolding record_length_of le16
  length_front = rw (early 10 (lit< tt), early 11 (lit< tt))

  pub end-front : (k : ℕ) → records_end (take n b) k ≡ records_end b k
  unfolding records_end
  end-front k = rw (header-front, length_front)

  pub new-front : new_end (take n b) ≡ new_end b
  unfolding new_end
  new-front = rw (count-front, end-front (record_count b + 1))

-- ---- an append that is accepted

-- the count with a record more fits four bytes
pub few-enough : (t : List ℕ) {room : ℕ} {r : List ℕ} {count : ℕ} → Layout t → Taken t room r → record_count t ≡ count → count < max_table
unfolding new_end
few-enough t good given e = omega (arith, e, given.small, count-within t good, records-next t (record_count t), record_positive t good)

pub record Accepted (b : List ℕ) (n : ℕ) (r : List ℕ) : Type 0 where
  pub fits : n ≤ length b
  pub table : table_refusal (take n b) ≡ 0
  pub taken : Taken (take n b) (length b) r

module _ (b : List ℕ) (n : ℕ) (r : List ℕ) where
  pub accepted : append_refusal b n r ≡ 0 → Accepted b n r
  unfolding append_refusal record_refusal
  accepted e =
      let parts = held_none b n (record_checks (take n b) (length b) r) e in
      record { fits = parts.0; table = parts.1; taken = taken (take n b) (length b) r parts.2 }

  -- the table has the bytes of a header, and more
  pub accepted-long : Accepted b n r → min_table ≤ n
  accepted-long a = omega (arith, (layout (take n b) a.table).header.long, length-take-le n b a.fits)

  pub appendable : Accepted b n r → Appendable b r
  appendable a =
      let long = accepted-long a in
      record {
        long = omega (arith, a.fits);
        fills = a.taken.long ∙ length_front b n long;
        room = omega (arith, a.taken.fits, new-front b n long);
        count = few-enough (take n b) (layout (take n b) a.table) a.taken (count-front b n long);
      }

  append_named : All Named (append_checks b n r)
  unfolding record_checks
  append_named = held-named b n (record_checks (take n b) (length b) r)
      ((λ bad none. omega arith), ((λ bad none. omega arith), ((λ bad none. eqb-false _ 0 bad none), ((λ bad none. omega arith), tt))))

  -- the rule by the refusal
  pub append_stored : append_refusal b n r ≡ 0 → append_rule b n r ≡ stored b r
  unfolding append_rule append_refusal
  append_stored e = unless-zero (λ refusal. left b (unstored refusal)) (stored b r) (append_checks b n r) append_named e

  pub append_refused : (k : ℕ) → k ≡ append_refusal b n r → (k ≡ 0 → ⊥) → append_rule b n r ≡ left b (unstored k)
  unfolding append_rule append_refusal
  append_refused k e some =
      unless-first (λ refusal. left b (unstored refusal)) (stored b r) (append_checks b n r) (λ z. some (e ∙ z))
      ∙ ap (λ (refusal : ℕ). left b (unstored refusal)) (sym e)

-- ---- the stores

-- the record and the end mark lie in the buffer
pub place-fits : (b r : List ℕ) (place count : ℕ) → Appendable b r → count ≡ le32 b 4 → place ≡ records_end b count → place + length r < length b
unfolding new_end record_count
place-fits b r place count given n p =
    let place_is : place ≡ records_end b (le32 b 4) = p ∙ ap (records_end b) n in
    omega (arith, given.room, given.fills, records-next b (le32 b 4))

-- the record and then the end mark are one store; a host is told of R + 1 bytes and of four
pub stored_as : (b r b₁ b₂ b₃ : List ℕ) (place count : ℕ) → count ≡ le32 b 4 → place ≡ records_end b count
    → b₁ ≡ put b place r → b₂ ≡ set b₁ (place + length r) file_end → b₃ ≡ put b₂ 4 (to_le32 (count + 1))
    → stored b r ≡ left b₃ (Ok (record { first = record { place = place; length = length r + 1 }; second = record { place = 4; length = 4 } }))
unfolding stored record_write count_write record_count to_le32
stored_as b r b₁ b₂ b₃ place count n p e₁ e₂ e₃ =
    let two : put b place (r ++ (file_end ∷ [])) ≡ b₂ = put_snoc b place r file_end ∙ rw (← e₁) (sym e₂) in
    rw (e₃, ← two, p, n, length-append r (file_end ∷ []))

-- ---- the date

-- a new date by the answer about the table
module _ (b : List ℕ) (n year month day : ℕ) where
  abbrev new : After ℕ
  new = left (write (date_write year month day) b) 0

  -- by its first refusal
  date-first : (k : ℕ) → set_date_refusal b n year month day ≡ k → (k ≡ 0 → ⊥) → set_date_rule b n year month day ≡ left b k
  unfolding set_date_rule set_date_refusal
  date-first k e some = unless-first (left b) new (set_date_checks b n year month day) (λ z. some (sym e ∙ z)) ∙ ap (left b) e

  pub date-made : set_date_refusal b n year month day ≡ 0 → set_date_rule b n year month day ≡ new
  unfolding set_date_rule set_date_refusal
  date-made e = unless-zero (left b) new (set_date_checks b n year month day) (held-named b n _ ((λ bad none. omega arith), tt)) e

  pub date-refused : (k : ℕ) → check_held b n ≡ Err k → set_date_rule b n year month day ≡ left b k
  unfolding set_date_refusal
  date-refused k e = let said = held-refused b n k ((storable_date year month day, 3) ∷ []) e in date-first k said.0 said.1

  module _ (s : Shape) (e : check_held b n ≡ Ok s) where
    pub date_3 : storable_date year month day ≡ false → set_date_rule b n year month day ≡ left b 3
    unfolding set_date_refusal
    date_3 bad = date-first 3 (held_then b n s ((storable_date year month day, 3) ∷ []) e ∙ first_fail _ 3 [] bad) (λ z. omega arith)

    -- three bytes set one after another
    pub date_set : storable_date year month day ≡ true → set_date_rule b n year month day ≡ left (set (set (set b 1 (year - first_year)) 2 month) 3 day) 0
    unfolding set_date_refusal date_write first_refusal
    date_set good =
        let years = year - first_year in
        date-made (held_then b n s ((storable_date year month day, 3) ∷ []) e ∙ first_pass _ 3 [] good)
        ∙ rw (put_snoc b 1 (years ∷ month ∷ []) day, ← stored2 b 1 years month)
