-- Laws: a record with a comma in numeric text is never written. Demand 2's rule reads the text, so that no append can put into a table what no call would
-- read from it. Assumes nothing.
use Rattle.std.specs.Prelude.{◌≡◌, true, false, List, length, take, eqb, Ok}
use Prim.Native.Nat.{ℕ, zero, suc, ◌+◌, ◌≤◌, ◌<◌}
use Rattle.std.proofs.Common.{sym, ◌∙◌, arith}
use borrow.Author.Tests.{eqb-true, eqb-false, ne_eqb}
use Rattle.basis.specs.Tests.{either}
use Rattle.octets.specs.Bytes.{byte_at}
use Rattle.octets.specs.StoreLaws.{length-window}
use Rattle.numeral.specs.Format.{comma, format_good}
use Rattle.numeral.specs.Reading.{some}
use Rattle.numeral.specs.ReadingLaws.{refused_16}
use Rattle.dbf_cell.specs.Cell.{mark_good}
use Rattle.dbf_cell.specs.Codes.{number_refusal}
use Rattle.dbf_table.specs.Table.{type_n, field_type, field_length, field_decimals, field_offset, field_count, record_length_of}
use Rattle.dbf_table.specs.TableLaws.{Layout, layout, good_check}
use Rattle.dbf_table.specs.FormLaws.{field_form, form-numeric}
use Rattle.dbf_table.specs.RecordLaws.{field_inside}
use Rattle.dbf_table.specs.declared.Shape.{Shape}
use Rattle.refusal.specs.After.{left}
use Rattle.dbf_append.specs.Append.{check_held, text_in, texts_refusal, record_refusal, append_refusal, unstored, append_rule}
use Rattle.dbf_append.specs.CheckLaws.{held-good, held_then, text_number, field_refused, record_text, Accepted, append_refused}

-- ---- the fields one after another

module _ (t r : List ℕ) where
  -- no field is refused: each is not
  texts-each : (left j : ℕ) → texts_refusal t r j left ≡ 0 → (i : ℕ) → j ≤ i → i < j + left → field_refused t r i ≡ 0
  unfolding texts_refusal
  texts-each zero j none i from to = absurd (omega arith)
  texts-each (suc left) j none i from to =
      either (eqb (field_refused t r j) 0)
      (λ passed.
      let rest : texts_refusal t r (j + 1) left ≡ 0 = rw passed at none in
      either (eqb i j)
      (λ here. rw (eqb-true i j here) (eqb-true (field_refused t r j) 0 passed))
      (λ later. let other = eqb-false i j later in texts-each left (j + 1) rest i (omega arith) (omega arith)))
      (λ stopped. let said : field_refused t r j ≡ 0 = rw stopped at none in absurd (eqb-false (field_refused t r j) 0 stopped said))

  -- the first that is refused decides
  texts-first : (left j i : ℕ) → j ≤ i → i < j + left → ((h : ℕ) → j ≤ h → h < i → field_refused t r h ≡ 0) → (field_refused t r i ≡ 0 → ⊥)
      → texts_refusal t r j left ≡ field_refused t r i
  unfolding texts_refusal
  texts-first zero j i from to before refused = absurd (omega arith)
  texts-first (suc left) j i from to before refused =
      either (eqb i j)
      (λ here.
      let same = eqb-true i j here in
      let at : field_refused t r j ≡ field_refused t r i = rw same in
      rw (ne_eqb (field_refused t r j) 0 (λ z. refused (sym at ∙ z))) at)
      (λ later.
      let other = eqb-false i j later in
      let here = before j (omega arith) (omega arith) in
      rw here (texts-first left (j + 1) i (omega arith) (omega arith) (λ h from to. before h (omega arith) to) refused))

-- ---- a comma

module _ (t r : List ℕ) (good : Layout t) (long : length r ≡ record_length_of t) (j : ℕ) (l : j < field_count t) (n : field_type t j ≡ type_n) where
  -- the text of an N field has the width of a number
  format : format_good (length (text_in t r j)) (field_decimals t j) ≡ true
  unfolding text_in
  format =
      rw (length-window r (field_offset t j) (field_length t j) (omega (arith, long, field_inside t good j l)))
      (form-numeric (field_length t j) (field_decimals t j) (rw n at (field_form t good j l)))

  -- a comma in it is refused by 16
  comma_text : some (eqb comma) (text_in t r j) ≡ true → field_refused t r j ≡ 16
  unfolding number_refusal
  comma_text has =
      text_number (field_type t j) (field_decimals t j) (text_in t r j) n
      ∙ rw ((refused_16 (text_in t r j) (field_decimals t j)).1 (format, has))

-- no record that an append accepts has one
pub no_comma : (b : List ℕ) (n : ℕ) (r : List ℕ) → Accepted b n r → (j : ℕ) → j < field_count (take n b) → field_type (take n b) j ≡ type_n
    → some (eqb comma) (text_in (take n b) r j) ≡ false
no_comma b n r a j l type =
    let t = take n b in
    either (some (eqb comma) (text_in t r j))
    (λ has.
    let said = comma_text t r (layout t a.table) a.taken.long j l type has in
    absurd (omega (arith, said, texts-each t r (field_count t) 0 a.taken.texts j (omega arith) (omega arith))))
    (λ none. none)

-- and one that has it in the first field that is refused is answered 16, with nothing written
module _ (b : List ℕ) (n : ℕ) (r : List ℕ) (s : Shape) (e : check_held b n ≡ Ok s) where
  abbrev t : List ℕ
  t = take n b

  pub comma_16 : length r ≡ record_length_of t → mark_good (byte_at r 0) ≡ true → (j : ℕ) → j < field_count t → field_type t j ≡ type_n
      → ((h : ℕ) → h < j → field_refused t r h ≡ 0) → some (eqb comma) (text_in t r j) ≡ true
      → append_rule b n r ≡ left b (unstored 16)
  unfolding append_refusal record_refusal
  comma_16 long mark j l type before has =
      let good = layout t (good_check t s (held-good b n s e).1).0 in
      let said = comma_text t r good long j l type has in
      let texts : texts_refusal t r 0 (field_count t) ≡ 16 =
      texts-first t r (field_count t) 0 j (omega arith) (omega arith) (λ h from to. before h to) (λ z. omega arith) ∙ said in
      append_refused b n r 16
      (sym (held_then b n s _ e ∙ record_text t (length b) r long mark (λ z. omega arith) ∙ texts))
      (λ z. omega arith)
