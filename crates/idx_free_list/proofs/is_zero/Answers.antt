-- `is_zero`: the index's part is compared with as many bytes of zero.
use Rattle.std.proofs.Common.{◌≡◌, ◌+◌, ◌-◌, ◌∙◌, arith}
use Rattle.octets.specs.Store.{window}
use Rattle.idx_page.specs.Page.{entry_area}
use Rattle.idx_free_list.specs.FreeLaws.{zeros-part}
use Rattle.idx_free_list.proofs.is_zero.Goals as goal

pub returns : goal.returns
unfolding window
returns c =
    let args = c.args in
    let part : args.at + args.n - args.at ≡ args.n = omega arith in
    c.is_eq.ensures ∙ rw (c.compare.ensures, part, zeros-part args.n entry_area (omega arith))
