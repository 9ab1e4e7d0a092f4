-- The entry lies within its page, and the page within the buffer.
use Rattle.std.proofs.Common.{arith, ◌≡◌, ◌+◌, ◌-◌, ◌∙◌, length}
use Rattle.octets.specs.Store.{window}
use Rattle.idx_page.specs.PageLaws.{entry-within}
use Rattle.idx_page.proofs.compare_entry.Goals as goal

pub overflow_add-end : goal.overflow_add-end
overflow_add-end c = let w = entry-within c.requires in omega arith

pub slice_bounds-compare-end : goal.slice_bounds-compare-end
slice_bounds-compare-end c = let w = entry-within c.requires in omega arith

pub returns : goal.returns
unfolding window
returns c =
    let at = c.entry_offset-start in
    let k : at.result + length c.args.key.now - at.result ≡ length c.args.key.now = omega arith in
    c.compare.ensures ∙ rw (k, at.ensures)
