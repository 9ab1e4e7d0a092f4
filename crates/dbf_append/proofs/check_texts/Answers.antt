-- Each field's text lies in the record, where its entry says.
use Rattle.std.specs.Prelude.{ℕ, List}
use Rattle.std.proofs.Common.{◌≡◌, ◌+◌, ◌-◌, ◌≤◌, ◌<◌, ◌∙◌, sym, ap, length, arith}
use mir.Syntax.{w16}
use mir.Val.{Fits}
use Rattle.std.proofs.lemmas.Result.{err_from_is_err_and}
use Rattle.refusal.specs.RefusalLaws.{refusal-some}
use Rattle.dbf_table.specs.Table.{max_record, field_type, field_length, field_decimals, field_offset, field_count, record_length_of, table_refusal}
use Rattle.dbf_table.specs.TableLaws.{layout}
use Rattle.dbf_table.specs.RecordLaws.{offset-first, offset-next, field_inside, descriptor-inside}
use Rattle.dbf_field.specs.Field.{entry_of}
use Rattle.dbf_field.specs.declared.FieldEntry.{FieldEntry}
use Rattle.dbf_append.specs.CheckLaws.{text-part, text_some, text_read, texts-end, texts-next, texts_stop}
use Rattle.dbf_append.proofs.check_texts.Goals as goal

-- what an entry says
module _ (t : List ℕ) (j : ℕ) (e : FieldEntry) (is : e ≡ entry_of t j) where
  kind : e.kind ≡ field_type t j
  unfolding entry_of
  kind = ap (λ (x : FieldEntry). x.kind) is

  decimals : e.decimals ≡ field_decimals t j
  unfolding entry_of
  decimals = ap (λ (x : FieldEntry). x.decimals) is

  place : e.offset ≡ field_offset t j
  unfolding entry_of
  place = ap (λ (x : FieldEntry). x.offset) is

  width : e.length ≡ field_length t j
  unfolding entry_of
  width = ap (λ (x : FieldEntry). x.length) is

  ends : e.offset + e.length ≡ e.offset + field_length t j
  ends = omega (arith, width)

  -- the text ends in the record
  text_end : (r : List ℕ) → table_refusal t ≡ 0 → length r ≡ record_length_of t → j < field_count t → e.offset + e.length ≤ length r
  text_end r good long l = omega (arith, place, width, long, field_inside t (layout t good) j l)

-- an end in a record has two bytes
end_fits : (end size : ℕ) → end ≤ size → size ≤ max_record → Fits w16 end
end_fits end size h l = omega arith

pub loop-j-init : goal.loop-j-init
loop-j-init c =
    let none : c.args.fields - 0 ≡ c.args.fields = omega arith in
    record { place = sym (offset-first _); decides = rw none }

pub entry_from-entry-requires : goal.entry_from-entry-requires
entry_from-entry-requires c = (descriptor-inside _ (layout _ c.requires.0) c.loop-j.j (omega arith), c.loop-j.invariant.place)

pub slice_bounds-check_text-end : goal.slice_bounds-check_text-end
slice_bounds-check_text-end c =
    let l : c.loop-j.j < field_count c.args.table.now = omega arith in
    omega (arith, text_end _ _ _ c.entry_from-entry.ensures c.args.bytes.now c.requires.0 c.requires.2 l)

pub check_text-requires : goal.check_text-requires
check_text-requires c =
    let is = c.entry_from-entry.ensures in
    rw (text-part _ _ c.loop-j.j _ _ (place _ _ _ is) (ends _ _ _ is))
    (text_some _ _ (layout _ c.requires.0) c.requires.2 c.loop-j.j (omega arith))

pub returns-in_err-check_text : goal.returns-in_err-check_text
returns-in_err-check_text c =
    let is = c.entry_from-entry.ensures in
    let said = c.in_err-check_text.ensures ∙ text_read _ _ c.loop-j.j (kind _ _ _ is) (decimals _ _ _ is) (place _ _ _ is) (ends _ _ _ is) in
    let p = err_from_is_err_and c.from_residual.result c.from_residual.ensures.1 in
    rw (p.1, p.2)
    (said ∙ sym (c.loop-j.invariant.decides ∙ texts_stop _ _ c.loop-j.j _ (omega arith) (λ z. refusal-some _ (said ∙ z))))

pub overflow_cast-offset : goal.overflow_cast-offset
overflow_cast-offset c =
    let l : c.loop-j.j < field_count c.args.table.now = omega arith in
    end_fits _ _ (text_end _ _ _ c.entry_from-entry.ensures c.args.bytes.now c.requires.0 c.requires.2 l)
    (omega (arith, c.requires.2, (layout _ c.requires.0).small))

pub loop-j-preserved : goal.loop-j-preserved
loop-j-preserved c =
    let is = c.entry_from-entry.ensures in
    let said = c.in_ok-check_text.ensures ∙ text_read _ _ c.loop-j.j (kind _ _ _ is) (decimals _ _ _ is) (place _ _ _ is) (ends _ _ _ is) in
    record {
      place = omega (arith, place _ _ _ is, width _ _ _ is, offset-next c.args.table.now c.loop-j.j);
      decides = c.loop-j.invariant.decides ∙ texts-next _ _ c.loop-j.j _ (omega arith) (sym said);
    }

pub returns : goal.returns
returns c = sym (c.loop-j.invariant.decides ∙ texts-end _ _ _ _ (omega arith))
