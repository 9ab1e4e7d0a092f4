-- Laws: the leaf pairs after a removal are among the old ones, whatever the route; after the removal of a pair that is present, by its own route, they are the
-- old ones without the pair. Cited by the laws of sound indexes and by other laws of removal. Assumes nothing.
use Rattle.std.specs.Prelude.{◌≡◌, refl, Bool, true, false, List, [], ◌∷◌, ℕ, zero, suc}
use Rattle.std.proofs.Common.{sym, ◌∙◌, append-nil}
use Rattle.basis.specs.Lists.{All, all_append, all_left, all_right, all_map}
use Rattle.basis.specs.Tests.{either, contra}
use Rattle.tree.specs.Lists.{concat_map}
use Rattle.tree.proofs.ListLaws.{concat_map_append}
use Rattle.tree.specs.Pairs.{present, remove_pair, Ascending, AllAbove, AllBelow}
use Rattle.tree.proofs.PairLaws.{present_past, present-here, remove_pair_past, remove_pair-here}
use Rattle.tree.proofs.PairLaws.{ascending-join, ascending-left, ascending-right, ascending_cross}
use Rattle.tree.specs.Position.{Passes, position}
use Rattle.tree.specs.Keeping.{Route, Keeping}
use Rattle.tree.specs.Tree.{Entry, Tree, pairs_under, pairs}
use Rattle.tree.specs.Removal.{replace_by, unless_emptied, shrunk_pairs, settle, remove_under, remove_entries, remove}
use Rattle.tree.proofs.SplitLaws.{under_page}
use Rattle.tree.proofs.Ordered.{Separated, OrderedUnder, Ordered}
use Rattle.tree.proofs.RouteLaws.{Leads, route-leads}

-- what stands under a page is what stands under the entries that it is left with, also if it is left with none
unless_emptied-under : {K C B : Type 0} (under : K × C → List B) (a : K) (p : ℕ) (xs : List (K × C)) →
    concat_map (under_page under) (unless_emptied a p xs) ≡ concat_map under xs
unless_emptied-under under a p [] = refl
unless_emptied-under under a p (x ∷ xs) = append-nil (concat_map under (x ∷ xs))

settle-pairs : {K : Type 0} (h p : ℕ) (xs : List (Entry K h)) → shrunk_pairs (settle h p xs) ≡ concat_map (pairs_under h) xs
settle-pairs h p [] = refl
settle-pairs h p (x ∷ xs) = refl

-- what holds of all that stands under the entries xs holds of what is left, if g keeps it
pub replace_by-all : {A B : Type 0} (P : B → Type 0) (under : A → List B) (g : A → List A) → ((x : A) → All P (under x) → All P (concat_map under (g x))) →
    (i : ℕ) (xs : List A) → All P (concat_map under xs) → All P (concat_map under (replace_by i g xs))
replace_by-all P under g ok i [] p = tt
replace_by-all P under g ok zero (x ∷ xs) p = rw (concat_map_append under (g x) xs)
    (all_append P (concat_map under (g x)) (concat_map under xs) (ok x (all_left P (under x) (concat_map under xs) p))
    (all_right P (under x) (concat_map under xs) p))
replace_by-all P under g ok (suc i) (x ∷ xs) p =
    all_append P (under x) (concat_map under (replace_by i g xs)) (all_left P (under x) (concat_map under xs) p)
    (replace_by-all P under g ok i xs (all_right P (under x) (concat_map under xs) p))

module _ {K : Type 0} (P : K × ℕ → Type 0) (route : Route K) where
  pub remove_under-all : (h : ℕ) (x : Entry K h) → All P (pairs_under h x) → All P (concat_map (pairs_under h) (remove_under route h x))
  remove_under-all zero x p = tt
  remove_under-all (suc h) x p = rw (unless_emptied-under (pairs_under h) x.0 x.1.0 (remove_entries route h x.1.1))
      (replace_by-all P (pairs_under h) (remove_under route h) (remove_under-all h) (position (route h) x.1.1) x.1.1 p)

  pub remove_entries-all : (h : ℕ) (xs : List (Entry K h)) → All P (concat_map (pairs_under h) xs) →
      All P (concat_map (pairs_under h) (remove_entries route h xs))
  remove_entries-all h xs p = replace_by-all P (pairs_under h) (remove_under route h) (remove_under-all h) (position (route h) xs) xs p

  -- Theorem: what holds of all leaf pairs holds of them after a removal
  pub remove-all : (h : ℕ) (t : Tree K h) → All P (pairs h t) → All P (shrunk_pairs (remove route h t))
  remove-all h t p = rw (settle-pairs h t.0 (remove_entries route h t.1)) (remove_entries-all h t.1 p)

-- what ascends under the entries xs still does if one is replaced, if g keeps it and leaves only what was there
pub replace_by-ascending : {A B : Type 0} (le : B → B → Bool) (under : A → List B) (g : A → List A) →
    ((P : B → Type 0) (x : A) → All P (under x) → All P (concat_map under (g x))) →
    ((x : A) → Ascending le (under x) → Ascending le (concat_map under (g x))) →
    (i : ℕ) (xs : List A) → Ascending le (concat_map under xs) → Ascending le (concat_map under (replace_by i g xs))
replace_by-ascending le under g kept ok i [] a = tt
replace_by-ascending le under g kept ok zero (x ∷ xs) a = rw (concat_map_append under (g x) xs)
    (ascending-join le (concat_map under (g x)) (concat_map under xs) (ok x (ascending-left le (under x) (concat_map under xs) a))
    (ascending-right le (under x) (concat_map under xs) a)
    (kept (λ z. All (λ y. le y z ≡ false) (concat_map under xs)) x (ascending_cross le (under x) (concat_map under xs) a)))
replace_by-ascending le under g kept ok (suc i) (x ∷ xs) a =
    ascending-join le (under x) (concat_map under (replace_by i g xs)) (ascending-left le (under x) (concat_map under xs) a)
    (replace_by-ascending le under g kept ok i xs (ascending-right le (under x) (concat_map under xs) a))
    (all_map (λ z. All (λ y. le y z ≡ false) (concat_map under xs)) (λ z. All (λ y. le y z ≡ false) (concat_map under (replace_by i g xs)))
    (λ z b. replace_by-all (λ y. le y z ≡ false) under g (kept (λ y. le y z ≡ false)) i xs b) (under x)
    (ascending_cross le (under x) (concat_map under xs) a))

module _ {K : Type 0} (le : K × ℕ → K × ℕ → Bool) (route : Route K) where
  remove_under-ascending : (h : ℕ) (x : Entry K h) → Ascending le (pairs_under h x) → Ascending le (concat_map (pairs_under h) (remove_under route h x))
  remove_under-ascending zero x a = tt
  remove_under-ascending (suc h) x a = rw (unless_emptied-under (pairs_under h) x.0 x.1.0 (remove_entries route h x.1.1))
      (replace_by-ascending le (pairs_under h) (remove_under route h) (λ P. remove_under-all P route h) (remove_under-ascending h)
      (position (route h) x.1.1) x.1.1 a)

  -- Theorem: ascending leaf pairs ascend after a removal
  pub remove-ascending : (h : ℕ) (t : Tree K h) → Ascending le (pairs h t) → Ascending le (shrunk_pairs (remove route h t))
  remove-ascending h t a = rw (settle-pairs h t.0 (remove_entries route h t.1))
      (replace_by-ascending le (pairs_under h) (remove_under route h) (λ P. remove_under-all P route h) (remove_under-ascending h)
      (position (route h) t.1) t.1 a)

module _ {K : Type 0} (Q : Keeping K) (e : K × ℕ) where
  -- one level of removal, abstract in what lies below: g takes e out under the entry that the route leads to
  level-pairs : {C : Type 0} (G : K × C → Type 0) (under : K × C → List (K × ℕ)) (passes : Passes (K × C)) → Leads Q G under e passes →
      (g : K × C → List (K × C)) →
      ((x : K × C) → G x → Ascending Q.pair_le (under x) → present Q.pair_le e (under x) ≡ true →
      concat_map under (g x) ≡ remove_pair Q.pair_le e (under x)) →
      (xs : List (K × C)) → Separated Q G under xs → Ascending Q.pair_le (concat_map under xs) → present Q.pair_le e (concat_map under xs) ≡ true →
      concat_map under (replace_by (position passes xs) g xs) ≡ remove_pair Q.pair_le e (concat_map under xs)
  level-pairs G under passes leads g ok [] c o s = refl
  level-pairs G under passes leads g ok (x ∷ []) c o s =
      rw (append-nil (g x), append-nil (under x))
      (ok x c.0.good (ascending-left Q.pair_le (under x) [] o) (rw (append-nil (under x)) at s))
  level-pairs G under passes leads g ok (x ∷ y ∷ ys) c o s =
      let le : K × ℕ → K × ℕ → Bool = Q.pair_le in
      let rest : List (K × ℕ) = concat_map under (y ∷ ys) in
      either (passes x y)
      (λ u. let below : AllBelow le e (under x) = (leads.passed x y ys c o u).0 in
      rw (
        u,
        level-pairs G under passes leads g ok (y ∷ ys) c.1 (ascending-right le (under x) rest o)
            (sym (present_past le e (under x) rest below) ∙ s),
      )
      (sym (remove_pair_past le e (under x) rest below)))
      (λ u. let above : AllAbove le e rest = (leads.stopped x y ys c o u).0 in
      rw (
        u,
        concat_map_append under (g x) (y ∷ ys),
        ok x c.0.good (ascending-left le (under x) rest o) (sym (present-here le e (under x) rest above) ∙ s),
      )
      (sym (remove_pair-here le e (under x) rest above)))

  remove_under-pairs : (h : ℕ) (x : Entry K h) → OrderedUnder Q h x → Ascending Q.pair_le (pairs_under h x) →
      present Q.pair_le e (pairs_under h x) ≡ true →
      concat_map (pairs_under h) (remove_under (Q.route e) h x) ≡ remove_pair Q.pair_le e (pairs_under h x)
  remove_under-pairs zero x g o s = either (Q.pair_le e x)
      (λ u. rw (u, (rw u at s)))
      (λ u. contra (rw u at s) refl)
  remove_under-pairs (suc h) x g o s =
      unless_emptied-under (pairs_under h) x.0 x.1.0 (remove_entries (Q.route e) h x.1.1)
      ∙ level-pairs (OrderedUnder Q h) (pairs_under h) (Q.route e h) (route-leads Q e h) (remove_under (Q.route e) h)
      (remove_under-pairs h) x.1.1 g.1 o s

  -- Theorem: after the removal of a pair that is present, the leaf pairs are the old ones without it
  pub remove-pairs : (h : ℕ) (t : Tree K h) → Ordered Q h t → present Q.pair_le e (pairs h t) ≡ true →
      shrunk_pairs (remove (Q.route e) h t) ≡ remove_pair Q.pair_le e (pairs h t)
  remove-pairs h t o s =
      settle-pairs h t.0 (remove_entries (Q.route e) h t.1)
      ∙ level-pairs (OrderedUnder Q h) (pairs_under h) (Q.route e h) (route-leads Q e h) (remove_under (Q.route e) h)
      (remove_under-pairs h) t.1 o.separated o.ascending s
