-- The refusal of the form, and then the length.
use Rattle.std.proofs.Common.{◌≡◌, ◌∙◌, ℕ, List, sym, ap, arith}
use Rattle.std.proofs.lemmas.Result.{err_from_is_err_and}
use Rattle.refusal.specs.RefusalLaws.{refusal-some}
use Rattle.octets.specs.Bytes.{le32}
use Rattle.dbf_table.specs.Table.{records_end, record_count}
use Rattle.dbf_append.specs.Extent.{own_end}
use Rattle.dbf_append.specs.ExtentLaws.{form-long, extent-refused, extent-short, extent-told}
use Rattle.dbf_append.proofs.table_extent.Goals as goal

-- where the records end by the file's own count
own : (b : List ℕ) (count end : ℕ) → count ≡ le32 b 4 → end ≡ records_end b count → end ≡ own_end b
unfolding own_end record_count
own b count end n e = e ∙ ap (records_end b) n

pub returns-in_err-check_form : goal.returns-in_err-check_form
returns-in_err-check_form c =
    let said = c.in_err-check_form.ensures in
    let p = err_from_is_err_and c.from_residual.result c.from_residual.ensures.1 in
    rw (p.1, p.2) (sym (extent-refused _ _ said (refusal-some _)))

pub load_le32-requires : goal.load_le32-requires
load_le32-requires c = omega (arith, form-long _ (sym c.in_ok-check_form.ensures))

pub records_end-end-requires : goal.records_end-end-requires
records_end-end-requires c = form-long _ (sym c.in_ok-check_form.ensures)

pub returns-then-table-end : goal.returns-then-table-end
returns-then-table-end c =
    let ends = own _ _ _ c.load_le32.ensures c.records_end-end.ensures.0 in
    sym (extent-short _ (sym c.in_ok-check_form.ensures) (omega (arith, ends)))

pub returns-else-table-end : goal.returns-else-table-end
returns-else-table-end c =
    let ends = own _ _ _ c.load_le32.ensures c.records_end-end.ensures.0 in
    rw ends (sym (extent-told _ (sym c.in_ok-check_form.ensures) (omega (arith, ends))))
