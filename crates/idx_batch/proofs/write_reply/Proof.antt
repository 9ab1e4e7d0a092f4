-- `idx_batch::write_reply` meets its contract: three stores side by side are one. Assumes nothing.
use Rattle.idx_batch.specs.RunLaws.{reply_stored}
use borrow.Author.Rules.{rules}
use Rattle.idx_batch.proofs.write_reply.Statement.{statement}
use Rattle.idx_batch.proofs.write_reply.Tie as tie

store-le32-requires : tie.Need-store_le32-requires
store-le32-requires c κs = search rules

add-store-le32 : tie.Need-overflow_add-at
add-store-le32 c = search rules

store-le32-requires-2 : tie.Need-store_le32-requires-2
store-le32-requires-2 c κs = search rules

add-store-le32-2 : tie.Need-overflow_add-at-2
add-store-le32-2 c = search rules

store-le32-requires-3 : tie.Need-store_le32-requires-3
store-le32-requires-3 c κs = search rules

same_length : tie.Need-shape_of-answers
same_length c = search rules

returns : tie.Need-returns
returns c =
    let third = c.before.before in
    let second = third.before.before.before.before in
    let first = second.before.before.before.before in
    reply_stored _ _ _ first.store_le32.ensures second.store_le32-2.ensures third.store_le32-3.ensures

pub write_reply_spec : {M : Type 1} → statement M
write_reply_spec =
    tie.close
    (tie.spec store-le32-requires add-store-le32 store-le32-requires-2 add-store-le32-2 store-le32-requires-3 same_length returns)
