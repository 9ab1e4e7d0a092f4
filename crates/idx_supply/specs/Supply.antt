-- Rules: the supply of new pages: the page that is taken from it, and what the header keeps of it. Cited by insertion and by refusal 30.
use Rattle.std.specs.Prelude.{ℕ, zero, suc, ◌+◌, cond, List, length}
use Rattle.idx_page.specs.Header.{page_size, free_pointer, file_size, is_page}
use Rattle.idx_page.specs.Page.{right_at}
use Rattle.idx_layout.specs.Layout.{with_free, with_size}
use Rattle.idx_supply.specs.declared.Supply.{Supply}
use Rattle.idx_supply.specs.declared.Taken.{Taken}

-- a supply: `free` is the head of the free list, or 0xFFFFFFFF for none, and `end` the file's end
abbrev pub supply_from : ℕ → ℕ → Supply
supply_from free end = record { free = record { 0 = free }; end = record { 0 = end } }

-- the supply of the index in a buffer
unfoldable pub supply_of : List ℕ → Supply
supply_of b = supply_from (free_pointer b) (file_size b)

-- the page that is taken from a supply, and the supply after it: "Insertion takes free pages from the head before it grows F"; bytes 8-11 of a free page "name
-- the next or none". If no page is free, "a new page at F, which grows by 512". b is the buffer before the page is written
unfoldable pub take_page : List ℕ → Supply → Taken
take_page b s =
    let head = s.free.0 in
    let reused : Taken = record { page = s.free; rest = supply_from (right_at b head) s.end.0 } in
    let added : Taken = record { page = s.end; rest = supply_from head (s.end.0 + page_size) } in
    cond (is_page (length b) head) reused added

-- the supply after n pages were taken
unfoldable pub supply_after : ℕ → List ℕ → Supply → Supply
supply_after zero b s = s
supply_after (suc n) b s = supply_after n b (take_page b s).rest

-- the header with what it keeps of a supply: the free pointer and the file size
unfoldable pub with_supply : List ℕ → Supply → List ℕ
with_supply b s = with_size (with_free b s.free.0) s.end.0
