-- `key_order`: the two parts of the index are the two keys.
use Rattle.std.proofs.Common.{◌≡◌, ◌+◌, ◌-◌, ◌∙◌, arith}
use Rattle.octets.specs.Store.{window}
use Rattle.idx_keys.proofs.key_order.Goals as goal

pub returns : goal.returns
unfolding window
returns c =
    let args = c.args in
    let x : args.x + args.k - args.x ≡ args.k = omega arith in
    let y : args.y + args.k - args.y ≡ args.k = omega arith in
    c.compare.ensures ∙ rw (x, y)
