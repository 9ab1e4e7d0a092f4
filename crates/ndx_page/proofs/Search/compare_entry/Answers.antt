-- `ndx_page::Search::compare_entry` meets its contract: the bytes compared are the entry's key. Assumes nothing.
use Rattle.std.proofs.Common.{◌≡◌, ◌∙◌, ◌+◌, ◌-◌, length, arith}
use Rattle.octets.specs.Store.{window}
use Rattle.ndx_page.specs.Header.{key_length}
use Rattle.ndx_page.specs.Page.{key_at}
use Rattle.ndx_page.proofs.Search.compare_entry.Goals as goal

pub returns : goal.returns
unfolding key_at window
returns c =
    let self = c.args.self.now in
    let start = c.key_offset-start.result in
    let e : start + length self.key.now - start ≡ key_length self.index.bytes.now = omega (arith, self.fits) in
    c.compare.ensures ∙ rw (e, c.key_offset-start.ensures)
