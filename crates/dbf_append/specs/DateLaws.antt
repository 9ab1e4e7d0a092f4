-- Laws: a table with a new update date passes its checks, has that date, and is as before otherwise. Assumes nothing.
use Rattle.std.specs.Prelude.{ℕ, ◌+◌, ◌-◌, ◌≤◌, ◌<◌, ◌≡◌, refl, Bool, true, List, [], ◌∷◌, length, take}
use Rattle.std.proofs.Common.{sym, ap, ◌∙◌, le_refl, length-take-le, lit<}
use native.Mathlib.Omega.{arith}
use Rattle.refusal.specs.CheckLaws.{first-none}
use Rattle.octets.specs.Bytes.{byte_at, le32}
use Rattle.octets.specs.Store.{put, window}
use Rattle.octets.specs.StoreLaws.{length-put, get_or-put_low, get_or-put_high, get_d_window, window_same, window-inside}
use Rattle.dbf_table.specs.Table.{first_year, storable_date}
use Rattle.dbf_table.specs.DateLaws.{storable}
use Rattle.dbf_table.specs.Table.{record_count, records_end, size_good, date_good, length_good, table_refusal}
use Rattle.dbf_table.specs.TableLaws.{layout}
use Rattle.dbf_append.specs.Append.{write}
use Rattle.dbf_append.specs.UpdateDate.{set_date_refusal, date_write, set_date_rule}
use Rattle.dbf_append.specs.ExtentLaws.{form-good, length-good}
use Rattle.dbf_append.specs.CheckLaws.{held_none, date-made}
use Rattle.dbf_table.specs.SameForm.{SameForm, end_same}
use Rattle.dbf_append.specs.FormLaws.{size-good, table_kept}
use Rattle.dbf_append.specs.ReadLaws.{Extends}

-- a good table with these bytes 1 to 3
module _ (t : List ℕ) (year month day : ℕ) (good : table_refusal t ≡ 0) (date : storable_date year month day ≡ true) where
  abbrev bytes : List ℕ
  bytes = (year - first_year) ∷ month ∷ day ∷ []

  abbrev c : List ℕ
  c = put t 1 bytes

  long : 65 ≤ length t
  long = let header = (layout t good).header in omega (arith, header.form)

  -- bytes 1 to 3 are the date, and no other byte changes
  dated-byte : (i : ℕ) → i < 3 → byte_at c (1 + i) ≡ byte_at bytes i
  dated-byte i h = sym (get_d_window c 1 3 i 0 h) ∙ ap (λ (s : List ℕ). byte_at s i) (window_same t 1 bytes 3 refl (omega (arith, long)))

  dated-first : byte_at c 0 ≡ byte_at t 0
  dated-first = get_or-put_low t 1 bytes 0 0 (lit< tt)

  dated-rest : (k : ℕ) → 4 ≤ k → byte_at c k ≡ byte_at t k
  dated-rest k h = get_or-put_high t 1 bytes k 0 (omega arith)

  form : SameForm t c
  form = record { first = dated-first; rest = λ k l m o. dated-rest k (omega arith) }

  count_same : record_count c ≡ record_count t
  unfolding record_count le32
  count_same = rw (dated-rest 4 (omega arith), dated-rest 5 (omega arith), dated-rest 6 (omega arith), dated-rest 7 (omega arith))

  date-stored : date_good c ≡ true
  unfolding date_good
  date-stored =
      let real = storable year month day date in
      let back : 1900 + (year - first_year) ≡ year = omega arith in
      rw (dated-byte 0 (lit< tt), dated-byte 1 (lit< tt), dated-byte 2 (lit< tt), back) real.date

  end-far : 4 ≤ records_end t (record_count t)
  unfolding records_end
  end-far = omega (arith, (layout t good).header.form)

  length-kept : length_good c ≡ true
  unfolding length_good
  length-kept =
      let header = (layout t good).header in
      rw (count_same, end_same t c header form (record_count t), length-put t 1 bytes, dated-rest (records_end t (record_count t)) end-far) (length-good t good)

  dated-good : table_refusal c ≡ 0
  unfolding size_good
  dated-good =
      let header = (layout t good).header in
      let table = form-good t good in
      table_kept t c table form (rw (length-put t 1 bytes) (size-good t table)) date-stored (rw length-put header.inside) length-kept

  -- every record reads as before
  dated-extends : Extends t c
  dated-extends = record {
    old = good;
    new = dated-good;
    form = form;
    count = rw count_same (le_refl (record_count t));
    records = λ k l m. dated-rest k (omega (arith, (layout t good).header.form));
  }

-- so does the table in the buffer
dated-front : (b : List ℕ) (n year month day : ℕ) → 4 ≤ n → take n (write (date_write year month day) b) ≡ write (date_write year month day) (take n b)
unfolding date_write window
dated-front b n year month day h = window-inside b 1 ((year - first_year) ∷ month ∷ day ∷ []) 0 n h

pub date-leaves : (b : List ℕ) (n year month day : ℕ) → set_date_refusal b n year month day ≡ 0
    → Extends (take n b) (take n (set_date_rule b n year month day).after)
unfolding set_date_refusal date_write
date-leaves b n year month day e =
    let checks : List (Bool × ℕ) = (storable_date year month day, 3) ∷ [] in
    let parts = held_none b n checks e in
    let date = (first-none checks (lit< tt, tt) parts.2).0 in
    let header = (layout (take n b) parts.1).header in
    let long : 4 ≤ n = omega (arith, header.long, length-take-le n b parts.0) in
    rw (date-made b n year month day e, dated-front b n year month day long) (dated-extends (take n b) year month day parts.1 date)
