-- Fresh by its answer, and the claim about the calls that follow, since the elements of lent slices are bytes.
use Rattle.std.proofs.Common.{◌∙◌, ap}
use Rattle.refusal.specs.After.{left}
use Rattle.idx_batch.specs.RunLaws.{batch-made, batch-refused, batch-kept}
use Rattle.idx_batch.proofs.run_batch.Goals as goal

pub returns-in-Ok-clause-answers_value : goal.returns-in-Ok-clause-answers_value
returns-in-Ok-clause-answers_value c = batch-made _ _ _ _ _ _ c.in-Ok.ensures c.run_calls.ensures.answers_value

pub returns-in-Ok-clause-batch_kept : goal.returns-in-Ok-clause-batch_kept
returns-in-Ok-clause-batch_kept c =
    batch-kept _ _ _ _ _ _ (λ i. (c.slice_known-1.given i).fits) (λ i. (c.type_inv.calls i).fits) c.in-Ok.ensures c.run_calls.ensures.answers_value

pub returns-in-Err-clause-answers_value : goal.returns-in-Err-clause-answers_value
returns-in-Err-clause-answers_value c = batch-refused _ _ _ _ _ _ c.in-Err.ensures
