-- Laws: a C field's answer is the table's alone; a memo number is 22 if the memo file has no header; no refusal has the number of a value or of an empty
-- field. Assumes nothing.
use Rattle.std.specs.Prelude.{ℕ, ◌-◌, ◌^◌, ◌≤◌, ◌<◌, ◌≡◌, Bool, true, false, cond, List, [], ◌∷◌, length, eqb, Err, None, Ok, Some}
use Rattle.std.proofs.Common.{sym, ◌∙◌, arith, lit≤, lit<}
use Rattle.std.proofs.lemmas.Bool.{eqb-false, lt-leb}
use Rattle.basis.specs.Tests.{either, impossible}
use Rattle.basis.specs.Lists.{All, all_append, all_map}
use Rattle.refusal.specs.CheckLaws.{first_below, unless-cases}
use Rattle.refusal.specs.Checks.{unless}
use Rattle.octets.specs.Bytes.{byte_at}
use Rattle.calendar.specs.DateLaws.{date-refusal}
use Rattle.octets.specs.Text.{every, blank}
use Rattle.numeral.specs.Format.{format_good}
use Rattle.numeral.specs.Reading.{number_checks, read_number, value_of}
use Rattle.fpt_memo.specs.Memo.{MemoPlace, span, memo_header_bytes, memo_header_good, numbered_text, read_text, memo_text, memo_number_text}
use Rattle.fpt_memo.specs.NumberText.{number-exactly}
use Rattle.fpt_memo.specs.MemoLaws.{text-refusal}
use Rattle.dbf_table.specs.Table.{type_c, type_m, field_type, field_length, field_decimals, table_checks}
use Rattle.numeral.specs.Format.{Number}
use Rattle.dbf_cell.specs.Cell.{cell_checks, cell_refusal, field_start, field_bytes}
use Rattle.dbf_cell.specs.Cell.{number_cell, date_cell, letter_t, letter_f, logical_of, logical_cell, memo_part, text_at, text_cell}
use Rattle.dbf_cell.specs.Codes.{empty_code}
use Rattle.dbf_cell.specs.declared.Reads.{Reads}
use Rattle.dbf_cell.specs.declared.Reads.TheVariants.{Numbers, Dates, Logicals, Texts}
use Rattle.dbf_cell.specs.declared.TextPlace.TheVariants as text

-- ---- C and M

-- "a C field's call doesn't look at the memo file"
pub text_alone : (b m n : List ℕ) (i field : ℕ) → field_type b (field - 1) ≡ type_c → text_cell b m i field ≡ text_cell b n i field
unfolding text_cell text_at
text_alone b m n i field c = rw c

-- a memo number is 22 if the memo file is too short for a header, as an empty file is
pub text_no_header : (b m : List ℕ) (i field k : ℕ) → cell_refusal Texts b i field ≡ 0 → field_type b (field - 1) ≡ type_m
    → 1 ≤ k → k < 10 ^ 10 → field_bytes b i field ≡ memo_number_text 10 k → length m < memo_header_bytes → text_cell b m i field ≡ Err 22
unfolding text_cell text_at field_bytes memo_text read_text numbered_text unless memo_header_good memo_part
text_no_header b m i field k none type from to number short =
    let said = (number-exactly (field_bytes b i field) k).1 (from, to, number) in
    rw (none, type, said, lt-leb memo_header_bytes (length m) short)

-- ---- the numbers of refusals

-- the number of a refusal is neither 0, the number of a value, nor 256 or above
abbrev pub Numbered : ℕ → Type 0
Numbered n = (0 < n) × (n < empty_code)

-- the table's checks give 1 to 10
pub table-small : (b : List ℕ) → All (λ (check : Bool × ℕ). check.1 ≤ 10) (table_checks b)
unfolding table_checks
table-small b = (lit≤ tt, (lit≤ tt, (lit≤ tt, (lit≤ tt, (lit≤ tt, (lit≤ tt, (lit≤ tt, (lit≤ tt, (lit≤ tt, (lit≤ tt, tt))))))))))

pub table_below : (b : List ℕ) → All (λ (check : Bool × ℕ). check.1 < empty_code) (table_checks b)
table_below b =
    all_map (λ (check : Bool × ℕ). check.1 ≤ 10) (λ (check : Bool × ℕ). check.1 < empty_code) (λ check s. omega (arith, s))
    (table_checks b) (table-small b)

-- a refusal of the checks before the text
check_numbered : (reads : Reads) (b : List ℕ) (i field n : ℕ) → eqb (cell_refusal reads b i field) 0 ≡ false → cell_refusal reads b i field ≡ n → Numbered n
unfolding cell_refusal
check_numbered reads b i field n refused e =
    let below : All (λ (check : Bool × ℕ). check.1 < empty_code) (cell_checks reads b i field) =
    all_append _ (table_checks b) _ (table_below b) (lit< tt, (lit< tt, (lit< tt, (lit< tt, tt)))) in
    let small = first_below empty_code (cell_checks reads b i field) (lit< tt) below in
    let none = eqb-false (cell_refusal reads b i field) 0 refused in
    (omega (arith, e), omega (arith, e))

number_same : (m n : ℕ) → Numbered m → ◌≡◌ {A = Number} (Err m) (Err n) → Numbered n
number_same m n small e = let k : m ≡ n = cc in (omega arith, omega arith)

pub number-numbered : (s : List ℕ) (d n : ℕ) → read_number s d ≡ Err n → Numbered n
unfolding read_number number_checks
number-numbered s d n e =
    let read = unless (number_checks s d) Err (Ok (Some (value_of s))) in
    unless-cases Err (cond (every (eqb blank) s) (Ok None) read) Numbered ((format_good (length s) d, 6) ∷ []) ((λ bad. (lit< tt, lit< tt)), tt)
    (λ format made. either (every (eqb blank) s)
    (λ blanks. let q : (Ok None) ≡ Err n = rw blanks at (sym made ∙ e) in impossible (cc))
    (λ shown. let q : read ≡ Err n = rw shown at (sym made ∙ e) in
    unless-cases Err (Ok (Some (value_of s))) Numbered (number_checks s d)
    ((λ bad. (lit< tt, lit< tt)), ((λ bad. (lit< tt, lit< tt)), ((λ bad. (lit< tt, lit< tt)), tt)))
    (λ held good. let v : Ok (Some (value_of s)) ≡ Err n = sym good ∙ q in impossible (cc))
    (λ r small refused. number_same r n small (sym refused ∙ q))))
    (λ r small refused. number_same r n small (sym refused ∙ e))

logical_numbered : (c n : ℕ) → logical_of c ≡ Err n → Numbered n
unfolding logical_of
logical_numbered c n e =
    either (eqb c letter_t)
    (λ t. let q : Ok (Some true) ≡ Err n = rw t at e in impossible (cc))
    (λ t. either (eqb c letter_f)
    (λ f. let q : Ok (Some false) ≡ Err n = rw (t, f) at e in impossible (cc))
    (λ f. either (eqb c blank)
    (λ z. let q : (Ok None) ≡ Err n = rw (t, f, z) at e in impossible (cc))
    (λ z. let q : Err 20 ≡ Err n = rw (t, f, z) at e in let k : 20 ≡ n = cc in omega arith)))

memo_numbered : (q : MemoPlace) (n : ℕ) → memo_part q ≡ Err n → q ≡ Err n
unfolding memo_part
memo_numbered (Ok (Some place)) n e = impossible (cc)
memo_numbered (Ok None) n e = impossible (cc)
memo_numbered (Err k) n e = cc

module _ (b : List ℕ) (i field n : ℕ) where
  pub number-refusal : number_cell b i field ≡ Err n → Numbered n
  unfolding number_cell
  number-refusal e =
      either (eqb (cell_refusal Numbers b i field) 0)
      (λ z. number-numbered (field_bytes b i field) (field_decimals b (field - 1)) n (rw z at e))
      (λ z. let q : Err (cell_refusal Numbers b i field) ≡ Err n = rw z at e in check_numbered Numbers b i field n z (cc))

  pub day_refusal : date_cell b i field ≡ Err n → Numbered n
  unfolding date_cell
  day_refusal e =
      either (eqb (cell_refusal Dates b i field) 0)
      (λ z. let k = date-refusal (field_bytes b i field) n (rw z at e) in omega arith)
      (λ z. let q : Err (cell_refusal Dates b i field) ≡ Err n = rw z at e in check_numbered Dates b i field n z (cc))

  pub logical-refusal : logical_cell b i field ≡ Err n → Numbered n
  unfolding logical_cell
  logical-refusal e =
      either (eqb (cell_refusal Logicals b i field) 0)
      (λ z. logical_numbered (byte_at b (field_start b i field)) n (rw z at e))
      (λ z. let q : Err (cell_refusal Logicals b i field) ≡ Err n = rw z at e in check_numbered Logicals b i field n z (cc))

  pub place-refusal : (m : List ℕ) → text_cell b m i field ≡ Err n → Numbered n
  unfolding text_cell text_at field_bytes
  place-refusal m e =
      either (eqb (cell_refusal Texts b i field) 0)
      (λ z. either (eqb (field_type b (field - 1)) type_c)
      (λ c. let q : Ok (Some (text.Table (span (field_start b i field) (field_length b (field - 1))))) ≡ Err n = rw (z, c) at e in impossible (cc))
      (λ c. let k = text-refusal m n (field_bytes b i field) (memo_numbered (memo_text (field_bytes b i field) m) n (rw (z, c) at e)) in omega arith))
      (λ z. let q : Err (cell_refusal Texts b i field) ≡ Err n = rw z at e in check_numbered Texts b i field n z (cc))
