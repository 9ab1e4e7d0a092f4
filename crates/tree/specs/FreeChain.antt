-- Rules: the free list as it lies in a file: the header names its first page, and each free page "the next or none". `none` is the number that names no page,
-- and `next` gives what each page names.
use Rattle.std.specs.Prelude.{◌≡◌, true, false, List, [], ◌∷◌, ℕ, zero, suc, eqb}

-- the list is the free list from the page `head` on, and the last page names none
abbrev pub Chained : ℕ → (ℕ → ℕ) → ℕ → List ℕ → Type 0
Chained none next head [] = head ≡ none
Chained none next head (p ∷ ps) = (head ≡ p) × Chained none next (next p) ps

-- the free list from the page `head` on, at most n pages of it
abbrev pub chain_from : ℕ → (ℕ → ℕ) → ℕ → ℕ → List ℕ
chain_from none next zero head = []
chain_from none next (suc n) head = elim (eqb head none) [ true ↦ [] | false ↦ head ∷ chain_from none next n (next head) ]
