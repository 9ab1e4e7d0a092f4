-- Rules: the two numbers of an index file that the theory of the index names too. Cited by the rules of the header and of pages.
use Rattle.std.specs.Prelude.{ℕ}

-- "pages of 512 bytes"
abbrev pub page_size : ℕ
page_size = 512

-- the link to no page: "0xFFFFFFFF for none"
abbrev pub no_page : ℕ
no_page = 0xFFFFFFFF
