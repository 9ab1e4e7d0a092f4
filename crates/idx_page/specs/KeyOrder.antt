-- Rules: keys are ordered "as unsigned bytes". Cited by `Sound`, by insertion and by the claim about lists of calls.
use Rattle.std.specs.Prelude.{ℕ, List}
use Rattle.octets.specs.Order.{bytes_le}
use Rattle.octets.specs.OrderLaws.{le_trans, le_total, le_antisym}
use Rattle.tree.specs.Order.{Order}

-- the order that the rules of trees take
abbrev pub bytes_order : Order (List ℕ)
bytes_order = record { le = bytes_le; trans = le_trans; total = le_total; antisym = le_antisym }
