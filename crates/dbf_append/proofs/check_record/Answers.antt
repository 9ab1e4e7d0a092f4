-- The checks in their order.
use Rattle.std.specs.Prelude.{ℕ, List, Bool}
use Rattle.std.proofs.Common.{◌≡◌, ◌+◌, ◌∙◌, sym, ap, arith}
use Rattle.std.proofs.lemmas.Result.{err_from_is_err_and}
use Rattle.refusal.specs.RefusalLaws.{refusal-some}
use Rattle.octets.specs.Bytes.{byte_at}
use Rattle.dbf_cell.specs.Cell.{mark_good}
use Rattle.dbf_table.specs.Table.{field_count, records_end}
use Rattle.dbf_table.specs.TableLaws.{Shaped, good_shape, layout}
use Rattle.dbf_table.specs.RecordLaws.{record_positive}
use Rattle.dbf_table.specs.declared.Shape.{Shape}
use Rattle.dbf_append.specs.Append.{texts_refusal, room_for, new_end}
use Rattle.dbf_append.specs.CheckLaws.{table-small, count-within, record_9, record_15, record_text, record_30, record_taken}
use Rattle.dbf_append.proofs.check_record.Goals as goal

-- the test of the record's first byte
marked : (r : List ℕ) (byte : ℕ) (told : Bool) {is : Bool} → byte ≡ byte_at r 0 → told ≡ mark_good byte → told ≡ is → mark_good (byte_at r 0) ≡ is
marked r byte told at said e = ap mark_good (sym at) ∙ (sym said ∙ e)

-- what is said of the texts, by the count of fields
texts : (t r : List ℕ) (s : Shape) (n : ℕ) → Shaped t s → n ≡ texts_refusal t r 0 s.fields → texts_refusal t r 0 (field_count t) ≡ n
texts t r s n known e = sym (e ∙ ap (texts_refusal t r 0) known.fields)

-- the test of the room
room : (t : List ℕ) (s : Shape) (size end : ℕ) (told : Bool) (is : Bool) → Shaped t s → end ≡ records_end t (s.records + 1) → told ≡ room_for (end + 1) size
    → told ≡ is → room_for (new_end t) size ≡ is
unfolding new_end
room t s size end told is known at said e =
    let ends : end ≡ records_end t (_ + 1) = at ∙ ap (λ (n : ℕ). records_end t (n + 1)) known.records in
    ap (λ (n : ℕ). room_for (n + 1) size) (sym ends) ∙ (sym said ∙ e)

pub returns-then-bytes-shape : goal.returns-then-bytes-shape
returns-then-bytes-shape c = sym (record_9 _ _ _ (λ e. c.if-bytes-shape.true (e ∙ sym (good_shape _ _ c.requires).length)))

pub byte-requires : goal.byte-requires
byte-requires c = omega (arith, (c.if-bytes-shape.false ∙ (good_shape _ _ c.requires).length), record_positive _ (layout _ (good_shape _ _ c.requires).table))

pub returns-then-not-mark_good : goal.returns-then-not-mark_good
returns-then-not-mark_good c = sym (record_15 _ _ _ (c.if-bytes-shape.false ∙ (good_shape _ _ c.requires).length) (marked c.args.bytes.now _ _ c.byte.ensures.0 c.mark_good.ensures c.if-not-mark_good.true))

pub check_texts-requires : goal.check_texts-requires
check_texts-requires c =
    let known = good_shape _ _ c.requires in
    (known.table, known.fields, (c.if-bytes-shape.false ∙ (good_shape _ _ c.requires).length))

pub returns-in_err-check_texts : goal.returns-in_err-check_texts
returns-in_err-check_texts c =
    let said = texts _ c.args.bytes.now _ _ (good_shape _ _ c.requires) c.in_err-check_texts.ensures in
    let p = err_from_is_err_and c.from_residual.result c.from_residual.ensures.1 in
    rw (p.1, p.2)
    (sym (record_text _ _ _ (c.if-bytes-shape.false ∙ (good_shape _ _ c.requires).length)
    (marked c.args.bytes.now _ _ c.byte.ensures.0 c.mark_good.ensures c.if-not-mark_good.false) (λ z. refusal-some _ (sym said ∙ z)) ∙ said))

pub overflow_add-shape : goal.overflow_add-shape
overflow_add-shape c =
    let known = good_shape _ _ c.requires in
    let good = layout _ known.table in
    omega (arith, known.records, count-within _ good, good.records, table-small _ known.table)

pub records_end-end-requires : goal.records_end-end-requires
records_end-end-requires c = (layout _ (good_shape _ _ c.requires).table).header.long

pub returns-then-not-room_for : goal.returns-then-not-room_for
returns-then-not-room_for c =
    sym (record_30 _ _ _ (c.if-bytes-shape.false ∙ (good_shape _ _ c.requires).length)
    (marked c.args.bytes.now _ _ c.byte.ensures.0 c.mark_good.ensures c.if-not-mark_good.false)
    (texts _ c.args.bytes.now _ _ (good_shape _ _ c.requires) c.in_ok-check_texts.ensures)
    (room _ _ _ _ _ _ (good_shape _ _ c.requires) c.records_end-end.ensures.0 c.room_for.ensures c.if-not-room_for.true))

pub returns : goal.returns
returns c =
    sym (record_taken _ _ _ (c.if-bytes-shape.false ∙ (good_shape _ _ c.requires).length)
    (marked c.args.bytes.now _ _ c.byte.ensures.0 c.mark_good.ensures c.if-not-mark_good.false)
    (texts _ c.args.bytes.now _ _ (good_shape _ _ c.requires) c.in_ok-check_texts.ensures)
    (room _ _ _ _ _ _ (good_shape _ _ c.requires) c.records_end-end.ensures.0 c.room_for.ensures c.if-not-room_for.false))
