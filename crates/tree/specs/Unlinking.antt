-- Steps: the left and right links of every page after a removal. The laws of bytes compare the links that a removal leaves with these, on the pages of the
-- tree: an emptied page's own links say nothing.
use Rattle.std.specs.Prelude.{cond, List, [], ◌∷◌, ℕ, eqb}
use Rattle.tree.specs.Clauses.{Links}

-- page p "is unlinked from its neighbours": the page on its right gets the page on its left as left neighbour, and that one the other as right neighbour
abbrev pub unlink : ℕ → Links → Links
unlink p l = record {
  left = λ z. cond (eqb z (l.right p)) (l.left p) (l.left z);
  right = λ z. cond (eqb z (l.left p)) (l.right p) (l.right z);
}

-- one page after the other. A root that becomes a leaf was alone on its level and is so again: its links stay
abbrev pub unlink_all : List ℕ → Links → Links
unlink_all [] l = l
unlink_all (p ∷ ps) l = unlink_all ps (unlink p l)

-- a list of pages without page p, and without the pages ps
abbrev pub without : ℕ → List ℕ → List ℕ
without p [] = []
without p (x ∷ xs) = cond (eqb x p) (without p xs) (x ∷ without p xs)

abbrev pub without_all : List ℕ → List ℕ → List ℕ
without_all [] l = l
without_all (p ∷ ps) l = without_all ps (without p l)
