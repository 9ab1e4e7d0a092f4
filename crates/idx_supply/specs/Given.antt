-- Steps: what the functions ask of a supply. Inner contracts, laws and proofs cite it: a reader need not believe it.
use Rattle.std.specs.Prelude.{ℕ, ◌+◌, ◌*◌, ◌≤◌}
use Rattle.idx_page.specs.Header.{max_offset, page_size}
use Rattle.idx_supply.specs.declared.Supply.{Supply}

-- n pages more can be taken from a supply, and the file's end then still has 32 bits
abbrev pub Lasts : ℕ → Supply → Type 0
Lasts n supply = supply.end.0 + page_size * n ≤ max_offset
