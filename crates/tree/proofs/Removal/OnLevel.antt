-- Laws: a page on a level after a removal was on that level before it, if the root has entries left. Cited by the law that a removal keeps an index sound.
-- Assumes nothing.
use Rattle.std.specs.Prelude.{List, [], ◌∷◌, ℕ, zero, suc, ◌≤◌, eqb}
use Rattle.std.proofs.Common.{arith}
use Rattle.basis.specs.Tests.{either}
use Rattle.tree.specs.Keeping.{Route}
use Rattle.tree.specs.Lists.{NonEmpty, concat_map, occ}
use Rattle.tree.proofs.ListLaws.{concat_map_append, occ_append}
use Rattle.tree.specs.Position.{position}
use Rattle.tree.specs.Removal.{replace_by, unless_emptied, settle, remove_under, remove_entries, remove}
use Rattle.tree.specs.Tree.{Entry, Tree, level_under, level}

module _ {K : Type 0} (route : Route K) (j z : ℕ) where
  -- one level of removal, abstract in what lies below
  replace_by-occ : {A : Type 0} (f : A → List ℕ) (g : A → List A) → ((x : A) → occ z (concat_map f (g x)) ≤ occ z (f x)) → (i : ℕ) (xs : List A)
      → occ z (concat_map f (replace_by i g xs)) ≤ occ z (concat_map f xs)
  replace_by-occ f g ok i [] = omega arith
  replace_by-occ f g ok zero (x ∷ xs) = rw (concat_map_append f (g x) xs)
      (omega (arith, ok x, occ_append z (concat_map f (g x)) (concat_map f xs), occ_append z (f x) (concat_map f xs)))
  replace_by-occ f g ok (suc i) (x ∷ xs) =
      omega (arith, replace_by-occ f g ok i xs, occ_append z (f x) (concat_map f (replace_by i g xs)), occ_append z (f x) (concat_map f xs))

  -- a page that has the entries xs is left with the entries ys
  module _ (h p : ℕ) (xs : List (Entry K h)) where
    abbrev Fewer : List (Entry K h) → Type 0
    Fewer ys = occ z (concat_map (level_under j h) ys) ≤ occ z (concat_map (level_under j h) xs)

    unless_emptied-occ : (a : K) (ys : List (Entry K h)) → Fewer ys
        → occ z (concat_map (level_under j (suc h)) (unless_emptied a p ys)) ≤ occ z (level_under j (suc h) (a, (p, xs)))
    unless_emptied-occ a [] l = omega arith
    unless_emptied-occ a (y ∷ ys) l = either (eqb j h)
        (λ e. rw e (omega arith))
        (λ e. rw e (omega (arith, occ_append z (concat_map (level_under j h) (y ∷ ys)) [])))

    settle-occ : (ys : List (Entry K h)) → NonEmpty ys → Fewer ys → occ z (level j (settle h p ys).0 (settle h p ys).1) ≤ occ z (level j h (p, xs))
    settle-occ [] s l = absurd s
    settle-occ (y ∷ ys) s l = either (eqb j h) (λ e. rw e (omega arith)) (λ e. rw e l)

  under-occ : (h : ℕ) (x : Entry K h) → occ z (concat_map (level_under j h) (remove_under route h x)) ≤ occ z (level_under j h x)
  under-occ zero x = omega arith
  under-occ (suc h) x = unless_emptied-occ h x.1.0 x.1.1 x.0 (remove_entries route h x.1.1)
      (replace_by-occ (level_under j h) (remove_under route h) (under-occ h) (position (route h) x.1.1) x.1.1)

  pub level-kept : (h : ℕ) (t : Tree K h) → NonEmpty (remove_entries route h t.1)
      → occ z (level j (remove route h t).0 (remove route h t).1) ≤ occ z (level j h t)
  level-kept h t s = settle-occ h t.0 t.1 (remove_entries route h t.1) s
      (replace_by-occ (level_under j h) (remove_under route h) (under-occ h) (position (route h) t.1) t.1)
