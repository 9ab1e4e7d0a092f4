-- `take_entry`: an entry with another key leaves the list.
use Rattle.std.proofs.Common.{ap, sym, ◌∙◌}
use Rattle.octets.specs.Order.{is_equal}
use Rattle.idx_records.specs.GatherLaws.{taken-other, taken-equal}
use Rattle.idx_records.proofs.take_entry.Goals as goal

pub returns-then-not-is_eq : goal.returns-then-not-is_eq
returns-then-not-is_eq c = taken-other _ _ _ _ _ (ap is_equal (sym c.compare_entry.ensures) ∙ sym c.is_eq.ensures ∙ c.if-not-is_eq.true)

pub returns : goal.returns
returns c =
    taken-equal _ _ _ _ _ _ _ (ap is_equal (sym c.compare_entry.ensures) ∙ sym c.is_eq.ensures ∙ c.if-not-is_eq.false) c.record_number-number.ensures
    c.keep_number.ensures
