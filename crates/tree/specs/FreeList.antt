-- Steps: where new pages come from if some pages are free: the free list from its head on, then the pages that `later` names, at the file's end; and how
-- emptied pages join the free list. The laws of an index with free pages cite them.
use Rattle.std.specs.Prelude.{List, [], ◌∷◌, ℕ, zero, suc, ◌-◌, length, drop}

-- a naming of new pages that begins with page f and goes on as `rest` does
abbrev pub first_then : ℕ → (ℕ → ℕ) → ℕ → ℕ
first_then f rest zero = f
first_then f rest (suc j) = rest j

-- the naming of new pages, by how many were taken before: "free pages from the head before it grows F"
abbrev pub free_first : List ℕ → (ℕ → ℕ) → ℕ → ℕ
free_first [] later = later
free_first (f ∷ fs) later = first_then f (free_first fs later)

-- the free list after n pages were taken
abbrev pub free_after : ℕ → List ℕ → List ℕ
free_after n free = drop n free

-- how many of n pages the free list lacks: F grows by these alone
abbrev pub lacking : ℕ → List ℕ → ℕ
lacking n free = n - length free

-- the free list after the pages ps "join the free list", the first of them first, "each at the head"
abbrev pub join_free : List ℕ → List ℕ → List ℕ
join_free [] free = free
join_free (p ∷ ps) free = join_free ps (p ∷ free)
