-- Laws: what a call reads once no check refuses, and that every part handed out lies in its file. Assumes nothing.
use Rattle.std.specs.Prelude.{Err, ℕ, ◌+◌, ◌-◌, ◌≤◌, ◌<◌, ◌≡◌, refl, Bool, List, [], ◌∷◌, ◌++◌, length, take, drop, eqb, Ok, Some, None}
use Rattle.std.proofs.Common.{sym, ◌∙◌, append_assoc, arith, lit<}
use Rattle.std.proofs.Math.Path.{ap}
use Rattle.std.proofs.Math.Bool.{true, false}
use borrow.Author.Tests.{eqb-true, eqb-false, ne_eqb}
use Rattle.basis.specs.Tests.{either, impossible}
use Rattle.basis.specs.Lists.{All, all_append}
use Rattle.refusal.specs.CheckLaws.{first-after, first-before, first-both, first-none}
use Rattle.refusal.specs.Checks.{first_refusal}
use Rattle.octets.specs.Bytes.{byte_at}
use Rattle.octets.specs.Store.{window}
use Rattle.dbf_table.specs.Table.{type_c, field_type, field_length, field_decimals, field_count, record_count, deletion_byte, table_checks}
use Rattle.dbf_table.specs.TableLaws.{table-numbered}
use Rattle.dbf_field.specs.Field.{place_at, place_of, place_refusal, PlaceInside, entry_of, number_good}
use Rattle.dbf_field.specs.FieldLaws.{placed_at, placed-refused, place-good, place-within}
use Rattle.dbf_field.specs.declared.Place.{Place}
use Rattle.calendar.specs.DateText.{date_of}
use Rattle.numeral.specs.Reading.{read_number}
use Rattle.fpt_memo.specs.Memo.{MemoPlace, memo_text}
use Rattle.fpt_memo.specs.MemoLaws.{text_inside}
use Rattle.dbf_cell.specs.Cell.{reads_type, mark_good, cell_refusal, cell_place, field_start, field_bytes}
use Rattle.dbf_cell.specs.Cell.{number_cell, date_cell, logical_of, logical_cell, memo_part, text_at, text_cell, TextWithin}
use Rattle.dbf_cell.specs.declared.Reads.{Reads}
use Rattle.dbf_cell.specs.declared.Reads.TheVariants.{Numbers, Dates, Logicals, Texts}

-- ---- the checks of a call: the place's checks, then 13 and 15

module _ (reads : Reads) (b : List ℕ) (i field : ℕ) where
  -- 11 and 12
  abbrev numbers : List (Bool × ℕ)
  numbers = (number_good i (record_count b), 11) ∷ (number_good field (field_count b), 12) ∷ []

  -- 13 and 15
  abbrev checks : List (Bool × ℕ)
  checks = (reads_type reads (field_type b (field - 1)), 13) ∷ (mark_good (deletion_byte b i), 15) ∷ []

  abbrev numbered : All (λ (check : Bool × ℕ). 0 < check.1) (table_checks b ++ numbers)
  numbered = all_append (λ (check : Bool × ℕ). 0 < check.1) (table_checks b) numbers (table-numbered b) (lit< tt, (lit< tt, tt))

  cell_after : place_refusal b i field ≡ 0 → cell_refusal reads b i field ≡ first_refusal checks
  unfolding cell_refusal place_refusal
  cell_after e = ap first_refusal (sym (append_assoc (table_checks b) numbers checks)) ∙ first-after (table_checks b ++ numbers) checks numbered e

  cell_before : (place_refusal b i field ≡ 0 → ⊥) → cell_refusal reads b i field ≡ place_refusal b i field
  unfolding cell_refusal place_refusal
  cell_before e = ap first_refusal (sym (append_assoc (table_checks b) numbers checks)) ∙ first-before (table_checks b ++ numbers) checks e

  cell_both : cell_refusal reads b i field ≡ 0 → (place_refusal b i field ≡ 0) × (first_refusal checks ≡ 0)
  unfolding cell_refusal place_refusal
  cell_both e = first-both (table_checks b ++ numbers) checks numbered (ap first_refusal (append_assoc (table_checks b) numbers checks) ∙ e)

  -- the answer of a call that refuses
  cell_refused : (n : ℕ) → cell_refusal reads b i field ≡ n → (n ≡ 0 → ⊥) → cell_place reads b i field ≡ Err n
  unfolding cell_place
  cell_refused n e some = rw (e, ne_eqb n 0 some)

  -- the call's answer, by the case of the field's place
  pub place-refused : (n : ℕ) → place_of b i field ≡ Err n → cell_place reads b i field ≡ Err n
  place-refused n e =
      let said = placed-refused b i field n e in
      cell_refused n (cell_before (λ z. said.1 (said.0 ∙ z)) ∙ sym said.0) said.1

  module _ (p : Place) (e : place_of b i field ≡ Ok p) where
    pub type-refused : reads_type reads p.kind ≡ false → cell_place reads b i field ≡ Err 13
    unfolding first_refusal place_at entry_of
    type-refused other =
        let said = placed_at b i field p e in
        let type : reads_type reads (field_type b (field - 1)) ≡ false = rw said.1 at other in
        cell_refused 13 (cell_after said.0 ∙ rw type) (λ z. omega arith)

    pub mark-refused : reads_type reads p.kind ≡ true → mark_good p.mark ≡ false → cell_place reads b i field ≡ Err 15
    unfolding first_refusal place_at entry_of
    mark-refused kind bad =
        let said = placed_at b i field p e in
        let type : reads_type reads (field_type b (field - 1)) ≡ true = rw said.1 at kind in
        let mark : mark_good (deletion_byte b i) ≡ false = rw said.1 at bad in
        cell_refused 15 (cell_after said.0 ∙ rw (type, mark)) (λ z. omega arith)

    pub place_read : reads_type reads p.kind ≡ true → mark_good p.mark ≡ true → cell_place reads b i field ≡ Ok p
    unfolding cell_place first_refusal place_at entry_of
    place_read kind good =
        let said = placed_at b i field p e in
        let type : reads_type reads (field_type b (field - 1)) ≡ true = rw said.1 at kind in
        let mark : mark_good (deletion_byte b i) ≡ true = rw said.1 at good in
        let none : cell_refusal reads b i field ≡ 0 = cell_after said.0 ∙ rw (type, mark) in
        rw (none, said.1)

-- ---- what a call learns from the answer's case

-- no check refuses, and the place is the field's, which lies in the table
pub record Readable (reads : Reads) (b : List ℕ) (i field : ℕ) (p : Place) : Type 0 where
  pub none : cell_refusal reads b i field ≡ 0
  pub start : p.start ≡ field_start b i field
  pub type : p.kind ≡ field_type b (field - 1)
  pub len : p.length ≡ field_length b (field - 1)
  pub decimals : p.decimals ≡ field_decimals b (field - 1)
  pub within : PlaceInside b p

module _ (reads : Reads) (b : List ℕ) (i field : ℕ) where
  pub cell_at : (p : Place) → cell_place reads b i field ≡ Ok p → Readable reads b i field p
  unfolding cell_place place_at entry_of field_start
  cell_at p e =
      either (eqb (cell_refusal reads b i field) 0)
      (λ z.
      let q : Ok (place_at b i field) ≡ Ok p = rw z at e in
      let same : p ≡ place_at b i field = cc in
      let none = eqb-true (cell_refusal reads b i field) 0 z in
      record {
        none = none;
        start = ap (λ (x : Place). x.start) same;
        type = ap (λ (x : Place). x.kind) same;
        len = ap (λ (x : Place). x.length) same;
        decimals = ap (λ (x : Place). x.decimals) same;
        within = place-within b i field p (place-good b i field (cell_both reads b i field none).0) same;
      })
      (λ z. let q : Err (cell_refusal reads b i field) ≡ Ok p = rw z at e in impossible (cc))

  cell_none : (n : ℕ) → cell_place reads b i field ≡ Err n → (cell_refusal reads b i field ≡ n) × (n ≡ 0 → ⊥)
  unfolding cell_place
  cell_none n e =
      either (eqb (cell_refusal reads b i field) 0)
      (λ z. let q : Ok (place_at b i field) ≡ Err n = rw z at e in impossible (cc))
      (λ z.
      let q : Err (cell_refusal reads b i field) ≡ Err n = rw z at e in
      let same : cell_refusal reads b i field ≡ n = cc in (same, λ w. eqb-false (cell_refusal reads b i field) 0 z (same ∙ w)))

  -- the checks that hold if none refuses
  pub record CellGood : Type 0 where
    pub place : place_refusal b i field ≡ 0
    pub type : reads_type reads (field_type b (field - 1)) ≡ true
    pub mark : mark_good (deletion_byte b i) ≡ true

  pub cell_good : cell_refusal reads b i field ≡ 0 → CellGood
  cell_good e =
      let parts = cell_both reads b i field e in
      let held = first-none (checks reads b i field) (lit< tt, (lit< tt, tt)) parts.1 in
      record { place = parts.0; type = held.0; mark = held.1.0 }

-- the part from a start to an end is a window
pub part-window : (b : List ℕ) (start len : ℕ) → take (start + len - start) (drop start b) ≡ window b start len
unfolding window
part-window b start len = let e : start + len - start ≡ len = omega arith in rw e

module _ (b : List ℕ) (i field : ℕ) where
  pub number-refused : (n : ℕ) → cell_place Numbers b i field ≡ Err n → number_cell b i field ≡ Err n
  unfolding number_cell
  number-refused n e = let said = cell_none Numbers b i field n e in rw (said.0, ne_eqb n 0 said.1)

  pub date-refused : (n : ℕ) → cell_place Dates b i field ≡ Err n → date_cell b i field ≡ Err n
  unfolding date_cell
  date-refused n e = let said = cell_none Dates b i field n e in rw (said.0, ne_eqb n 0 said.1)

  pub logical_refused : (n : ℕ) → cell_place Logicals b i field ≡ Err n → logical_cell b i field ≡ Err n
  unfolding logical_cell
  logical_refused n e = let said = cell_none Logicals b i field n e in rw (said.0, ne_eqb n 0 said.1)

  pub text_refused : (m : List ℕ) (n : ℕ) → cell_place Texts b i field ≡ Err n → text_cell b m i field ≡ Err n
  unfolding text_cell
  text_refused m n e = let said = cell_none Texts b i field n e in rw (said.0, ne_eqb n 0 said.1)

  module _ (p : Place) where
    pub number_read : cell_place Numbers b i field ≡ Ok p → number_cell b i field ≡ read_number (window b p.start p.length) p.decimals
    unfolding number_cell field_bytes
    number_read e = let good = cell_at Numbers b i field p e in rw (good.none, good.start, good.len, good.decimals)

    pub date-read : cell_place Dates b i field ≡ Ok p → date_cell b i field ≡ date_of (window b p.start p.length)
    unfolding date_cell field_bytes
    date-read e = let good = cell_at Dates b i field p e in rw (good.none, good.start, good.len)

    pub logical_read : cell_place Logicals b i field ≡ Ok p → logical_cell b i field ≡ logical_of (byte_at b p.start)
    unfolding logical_cell
    logical_read e = let good = cell_at Logicals b i field p e in rw (good.none, good.start)

    pub text_read : (m : List ℕ) → cell_place Texts b i field ≡ Ok p → text_cell b m i field ≡ text_at b m p.kind p.start p.length
    unfolding text_cell
    text_read m e = let good = cell_at Texts b i field p e in rw (good.none, good.type, good.start, good.len)

-- ---- every part handed out lies in its file

module _ (b m : List ℕ) where
  memo_within : (s : List ℕ) (q : MemoPlace) → memo_text s m ≡ q → TextWithin b m (memo_part q)
  unfolding TextWithin memo_part
  memo_within s (Ok (Some place)) e = (text_inside m place.start place.len s e).1
  memo_within s (Ok None) e = tt
  memo_within s (Err n) e = tt

  pub at-within : (type start len : ℕ) → start + len ≤ length b → TextWithin b m (text_at b m type start len)
  unfolding TextWithin text_at
  at-within type start len inside =
      either (eqb type type_c)
      (λ c. rw c inside)
      (λ c. rw c (memo_within (window b start len) _ refl))

  pub text_within : (i field : ℕ) → TextWithin b m (text_cell b m i field)
  unfolding TextWithin text_cell field_start place_at entry_of
  text_within i field =
      either (eqb (cell_refusal Texts b i field) 0)
      (λ z.
      let place = place-good b i field (cell_both Texts b i field (eqb-true _ _ z)).0 in
      rw z (at-within (field_type b (field - 1)) (field_start b i field) (field_length b (field - 1)) (place-within b i field _ place refl).inside))
      (λ z. rw z tt)
