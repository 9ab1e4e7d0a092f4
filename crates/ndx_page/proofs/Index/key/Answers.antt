-- `ndx_page::Index::key` meets its contract: the bytes are the entry's key. Assumes nothing.
use Rattle.std.proofs.Common.{◌≡◌, ◌+◌, ◌-◌, arith}
use Rattle.octets.specs.Store.{window}
use Rattle.ndx_page.specs.Page.{key_at}
use Rattle.ndx_page.proofs.Index.key.Goals as goal

pub returns : goal.returns
unfolding key_at window
returns c =
    let start = c.key_offset-start.result in
    let e : start + c.key_length.result - start ≡ c.key_length.result = omega arith in
    rw (e, c.key_length.ensures, c.key_offset-start.ensures)
