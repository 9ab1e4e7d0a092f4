-- Laws: the pages after a removal and the pages emptied by it are the old pages, each as often as before, whatever the route. Cited by the laws of sound
-- indexes, of links and of stores. Assumes nothing.
use Rattle.std.specs.Prelude.{◌≡◌, refl, List, [], ◌∷◌, ℕ, zero, suc, ◌+◌, eqb}
use Rattle.std.proofs.Common.{append-nil, arith}
use Rattle.tree.specs.Lists.{concat_map, count_if, occ}
use Rattle.tree.proofs.ListLaws.{concat_map_append, occ_append}
use Rattle.tree.specs.Tree.{Entry, Tree, pages_under, pages}
use Rattle.tree.proofs.Insertion.Pages.{page_and_under}
use Rattle.tree.specs.Position.{position}
use Rattle.tree.specs.Keeping.{Route}
use Rattle.tree.specs.Removal.{replace_by, numbers_at, unless_emptied, if_emptied, shrunk_pages, settle}
use Rattle.tree.specs.Removal.{remove_under, remove_entries, remove, emptied_under, emptied_among, emptied}

-- a page stays or is emptied
unless_emptied-pages : {K C : Type 0} (under : K × C → List ℕ) (z : ℕ) (a : K) (p : ℕ) (xs : List (K × C)) →
    occ z (concat_map (page_and_under under) (unless_emptied a p xs)) + occ z (if_emptied p xs) ≡ count_if (eqb z p) + occ z (concat_map under xs)
unless_emptied-pages under z a p [] = omega arith
unless_emptied-pages under z a p (x ∷ xs) = rw (append-nil (concat_map under (x ∷ xs))) (omega arith)

settle-pages : {K : Type 0} (z h p : ℕ) (xs : List (Entry K h)) →
    occ z (shrunk_pages (settle h p xs)) ≡ count_if (eqb z p) + occ z (concat_map (pages_under h) xs)
settle-pages z h p [] = refl
settle-pages z h p (x ∷ xs) = refl

-- one level of removal, abstract in what lies below: `under` gives the pages under an entry, `out` the emptied ones
pub replace_by-pages : {A : Type 0} (z : ℕ) (under out : A → List ℕ) (g : A → List A) →
    ((x : A) → occ z (concat_map under (g x)) + occ z (out x) ≡ occ z (under x)) →
    (i : ℕ) (xs : List A) → occ z (concat_map under (replace_by i g xs)) + occ z (numbers_at i out xs) ≡ occ z (concat_map under xs)
replace_by-pages z under out g ok i [] = omega arith
replace_by-pages z under out g ok zero (x ∷ xs) = rw (concat_map_append under (g x) xs)
    (omega (arith, ok x, occ_append z (concat_map under (g x)) (concat_map under xs), occ_append z (under x) (concat_map under xs)))
replace_by-pages z under out g ok (suc i) (x ∷ xs) = omega (
  arith,
  replace_by-pages z under out g ok i xs,
  occ_append z (under x) (concat_map under (replace_by i g xs)),
  occ_append z (under x) (concat_map under xs),
)

module _ {K : Type 0} (route : Route K) (z : ℕ) where
  pub remove_under-pages : (h : ℕ) (x : Entry K h) →
      occ z (concat_map (pages_under h) (remove_under route h x)) + occ z (emptied_under route h x) ≡ occ z (pages_under h x)
  remove_under-pages zero x = refl
  remove_under-pages (suc h) x =
      let left : List (Entry K h) = remove_entries route h x.1.1 in
      omega (
        arith,
        unless_emptied-pages (pages_under h) z x.0 x.1.0 left,
        replace_by-pages z (pages_under h) (emptied_under route h) (remove_under route h) (remove_under-pages h) (position (route h) x.1.1) x.1.1,
        occ_append z (emptied_among route h x.1.1) (if_emptied x.1.0 left),
      )

  pub remove_entries-pages : (h : ℕ) (xs : List (Entry K h)) →
      occ z (concat_map (pages_under h) (remove_entries route h xs)) + occ z (emptied_among route h xs) ≡ occ z (concat_map (pages_under h) xs)
  remove_entries-pages h xs =
      replace_by-pages z (pages_under h) (emptied_under route h) (remove_under route h) (remove_under-pages h) (position (route h) xs) xs

  -- Theorem: the pages after a removal, with the emptied ones, are the old pages
  pub remove-pages : (h : ℕ) (t : Tree K h) → occ z (shrunk_pages (remove route h t)) + occ z (emptied route h t) ≡ occ z (pages h t)
  remove-pages h t = omega (arith, settle-pages z h t.0 (remove_entries route h t.1), remove_entries-pages h t.1)
