-- Laws: a removal keeps a tree ordered, whatever the route, since keys above are ceilings. Cited by the laws of sound indexes. Assumes nothing.
use Rattle.std.specs.Prelude.{List, [], ◌∷◌, ℕ, zero, suc}
use Rattle.basis.specs.Lists.{All, all_map}
use Rattle.tree.specs.Lists.{concat_map}
use Rattle.tree.specs.Order.{Le}
use Rattle.tree.proofs.OrderLaws.{le_refl}
use Rattle.tree.specs.Pairs.{Below}
use Rattle.tree.specs.Tree.{Entry, Tree, pairs_under}
use Rattle.tree.specs.Position.{position}
use Rattle.tree.specs.Keeping.{Route, Keeping, Clear, ClearOf}
use Rattle.tree.proofs.KeepingLaws.{clear_of_down}
use Rattle.tree.specs.Removal.{replace_by, unless_emptied, settle, remove_under, remove_entries, remove}
use Rattle.tree.proofs.SplitLaws.{under_page}
use Rattle.tree.proofs.Ordered.{Separated, OrderedUnder, SeparatedTree, Ordered}
use Rattle.tree.proofs.Insertion.Ordered.{separated_append, separated-non_empty, OrderedPage}
use Rattle.tree.proofs.Removal.Pairs.{replace_by-all, remove_under-all, remove_entries-all, remove-ascending}

module _ {K C : Type 0} (Q : Keeping K) (G : K × C → Type 0) (under : K × C → List (K × ℕ)) where
  -- a page that keeps its key above it, which is a ceiling of what the page is left with
  unless_emptied-ordered : (a : K) (p : ℕ) (xs : List (K × C)) → Separated Q G under xs → Below Q.order a (concat_map under xs) →
      Separated Q (OrderedPage Q G under) (under_page under) (unless_emptied a p xs) × Below Q.order a (unless_emptied a p xs)
  unless_emptied-ordered a p [] c u = (tt, tt)
  unless_emptied-ordered a p (x ∷ xs) c u = (
    (record { good = (tt, c); non_empty = separated-non_empty Q G under (x ∷ xs) tt c; ceiling = u; apart = tt }, tt),
    (le_refl Q.order a, tt),
  )

  -- one level of removal, abstract in what lies below: g leaves leaf pairs that were there, in order, and keys up to the old one
  replace_by-separated : (g : K × C → List (K × C)) →
      ((P : K × ℕ → Type 0) (x : K × C) → All P (under x) → All P (concat_map under (g x))) →
      ((x : K × C) → G x → Below Q.order x.0 (under x) → Separated Q G under (g x) × Below Q.order x.0 (g x)) →
      (i : ℕ) (xs : List (K × C)) → Separated Q G under xs → Separated Q G under (replace_by i g xs)
  replace_by-separated g kept ok i [] c = tt
  replace_by-separated g kept ok zero (x ∷ xs) c =
      let f : Separated Q G under (g x) × Below Q.order x.0 (g x) = ok x c.0.good c.0.ceiling in
      separated_append Q G under (g x) xs f.0 c.1
      (all_map (λ z. Le Q.order z.0 x.0) (λ z. ClearOf Q z.0 (concat_map under xs))
      (λ z l. clear_of_down Q z.0 x.0 l (concat_map under xs) c.0.apart) (g x) f.1)
  replace_by-separated g kept ok (suc i) (x ∷ xs) c = (
    record {
      good = c.0.good;
      non_empty = c.0.non_empty;
      ceiling = c.0.ceiling;
      apart = replace_by-all (λ z. Clear Q x.0 z.0) under g (kept (λ z. Clear Q x.0 z.0)) i xs c.0.apart;
    },
    replace_by-separated g kept ok i xs c.1,
  )

module _ {K : Type 0} (Q : Keeping K) (route : Route K) where
  remove_under-ordered : (h : ℕ) (x : Entry K h) → OrderedUnder Q h x → Below Q.order x.0 (pairs_under h x) →
      Separated Q (OrderedUnder Q h) (pairs_under h) (remove_under route h x) × Below Q.order x.0 (remove_under route h x)
  remove_under-ordered zero x g u = (tt, tt)
  remove_under-ordered (suc h) x g u =
      unless_emptied-ordered Q (OrderedUnder Q h) (pairs_under h) x.0 x.1.0 (remove_entries route h x.1.1)
      (replace_by-separated Q (OrderedUnder Q h) (pairs_under h) (remove_under route h) (λ P. remove_under-all P route h) (remove_under-ordered h)
      (position (route h) x.1.1) x.1.1 g.1)
      (remove_entries-all (λ z. Le Q.order z.0 x.0) route h x.1.1 u)

  settle-separated : (h p : ℕ) (xs : List (Entry K h)) → Separated Q (OrderedUnder Q h) (pairs_under h) xs →
      SeparatedTree Q (settle h p xs).0 (settle h p xs).1
  settle-separated h p [] c = tt
  settle-separated h p (x ∷ xs) c = c

  -- Theorem: an ordered tree is ordered after a removal
  pub remove-ordered : (h : ℕ) (t : Tree K h) → Ordered Q h t → Ordered Q (remove route h t).0 (remove route h t).1
  remove-ordered h t o = record {
    ascending = remove-ascending Q.pair_le route h t o.ascending;
    separated = settle-separated h t.0 (remove_entries route h t.1)
        (replace_by-separated Q (OrderedUnder Q h) (pairs_under h) (remove_under route h) (λ P. remove_under-all P route h) (remove_under-ordered h)
        (position (route h) t.1) t.1 o.separated);
  }
