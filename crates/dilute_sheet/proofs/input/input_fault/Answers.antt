-- `input_fault`: a line that is none is the fault; the search goes on behind one that is.
use Rattle.std.proofs.Common.{◌≡◌, refl, sym, ap, ◌∙◌, arith}
use Rattle.dilute_sheet.specs.Input.{no_line}
use Rattle.dilute_sheet.specs.Fault.{fault, input_fault}
use Rattle.dilute_sheet.specs.FaultLaws.{fault-here, fault-later, fault-after}
use Rattle.dilute_sheet.specs.declared.input.Wrong.{Wrong}
use Rattle.dilute_sheet.proofs.input.input_fault.Goals as goal

pub loop-line-init : goal.loop-line-init
unfolding input_fault
loop-line-init c = refl

pub returns-in-None : goal.returns-in-None
unfolding no_line
returns-in-None c =
    ap (λ (w : Wrong). fault c.loop-line.line w) c.wrong_at-wrong.ensures
    ∙ sym (fault-here _ c.loop-line.line _ _ c.in-None.ensures (omega arith) refl)
    ∙ c.loop-line.invariant

pub loop-line-preserved : goal.loop-line-preserved
loop-line-preserved c = sym (fault-later _ c.loop-line.line _ _ c.in-Some.ensures (omega arith) refl) ∙ c.loop-line.invariant

pub returns : goal.returns
returns c =
    let end : c.loop-line.line ≡ 5 = omega (arith, c.loop-line.auto.line-end) in
    ap (λ (w : Wrong). fault 5 w) c.wrong_after.ensures
    ∙ sym (fault-after _ 5 _ (omega arith) (omega arith))
    ∙ rw end at c.loop-line.invariant
