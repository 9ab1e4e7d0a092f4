-- Steps: whether a page is a leaf, and the children of a page, as the audit and the match go down from level to level. Only inner functions cite these: a
-- reader need not believe them.
use Rattle.std.specs.Prelude.{ℕ, Bool, ◌&&◌, List, map}
use Rattle.tree.specs.Clauses.{head_or}
use Rattle.idx_page.specs.Header.{no_page, is_page}
use Rattle.idx_page.specs.Page.{attribute_at, leaf_bit}
use Rattle.idx_page.specs.Reading.{entries_at}

-- p is a page of the file, and a leaf
unfoldable pub is_leaf : List ℕ → ℕ → ℕ → Bool
is_leaf b size p = is_page size p && leaf_bit (attribute_at b p)

-- the numbers of the entries of the page at p, taken as the offsets of its children
abbrev pub children_of : List ℕ → ℕ → ℕ → ℕ → List ℕ
children_of b k size p = map (λ e. e.1) (entries_at k size b p)

-- the first child, or the link to no page if there is none
abbrev pub first_child : List ℕ → ℕ → ℕ → ℕ → ℕ
first_child b k size p = head_or no_page (children_of b k size p)
