-- Laws: the leaf pairs after an insertion are the old ones with the new one in its place. Cited by the laws of sound indexes and by other laws of insertion.
-- Assumes nothing.
use Rattle.std.specs.Prelude.{◌≡◌, refl, List, [], ◌∷◌, ℕ, zero, suc}
use Rattle.std.proofs.Common.{sym, ap, ◌∙◌, append-nil}
use Rattle.basis.specs.Tests.{either}
use Rattle.tree.specs.Lists.{NonEmpty, concat_map}
use Rattle.tree.proofs.ListLaws.{concat_map_append, concat_map-single}
use Rattle.tree.specs.Order.{larger}
use Rattle.tree.specs.Pairs.{last_key, insert_pair, Ascending}
use Rattle.tree.proofs.PairLaws.{insert_pair-here, insert_pair_past, ascending-left, ascending-right}
use Rattle.tree.specs.Position.{Passes, position, choose, replace_at}
use Rattle.tree.specs.Tree.{Child, Entry, Tree, pairs_under, pairs}
use Rattle.tree.specs.Keeping.{Keeping}
use Rattle.tree.specs.Insertion.{Replacement, first_pair, place, insert_among, grown_pairs, reroot, insert_under, insert_entries}
use Rattle.tree.specs.Insertion.{insert_at_root, insert}
use Rattle.tree.proofs.SplitLaws.{split_if_over-under, split_if_over-non_empty}
use Rattle.tree.proofs.Ordered.{Rooted, Separated, OrderedUnder, Ordered}
use Rattle.tree.proofs.RouteLaws.{Leads, route-leads}

-- one level of insertion, abstract in what lies below: g puts the pair e under the entry
module _ {K C : Type 0} (Q : Keeping K) (G : K × C → Type 0) (under : K × C → List (K × ℕ)) (e : K × ℕ) (passes : Passes (K × C))
    (leads : Leads Q G under e passes) (g : K × C → ℕ → Replacement K C)
    (ok : (x : K × C) (n : ℕ) → G x → Ascending Q.pair_le (under x) → concat_map under (g x n).0 ≡ insert_pair Q.pair_le e (under x)) where
  pub place-pairs : (d x : K × C) (xs : List (K × C)) (n : ℕ) → Separated Q G under (x ∷ xs) → Ascending Q.pair_le (concat_map under (x ∷ xs)) →
      concat_map under (place passes g d (x ∷ xs) n).0 ≡ insert_pair Q.pair_le e (concat_map under (x ∷ xs))
  place-pairs d x [] n c o =
      rw (append-nil (g x n).0, append-nil (under x)) (ok x n c.0.good (ascending-left Q.pair_le (under x) [] o))
  place-pairs d x (y ∷ ys) n c o =
      let rest : List (K × ℕ) = concat_map under (y ∷ ys) in
      either (passes x y)
      (λ u. rw (u, place-pairs d y ys n c.1 (ascending-right Q.pair_le (under x) rest o))
      (sym (insert_pair_past Q.pair_le e (under x) rest (leads.passed x y ys c o u).0)))
      (λ u. rw (u, concat_map_append under (g x n).0 (y ∷ ys), ok x n c.0.good (ascending-left Q.pair_le (under x) rest o))
      (sym (insert_pair-here Q.pair_le e (under x) rest (leads.stopped x y ys c o u).0)))

  insert_among-pairs : (new xs : List (K × C)) (n : ℕ) → NonEmpty xs → Separated Q G under xs → Ascending Q.pair_le (concat_map under xs) →
      concat_map under (insert_among passes g new xs n).0 ≡ insert_pair Q.pair_le e (concat_map under xs)
  insert_among-pairs new [] n s c o = absurd s
  insert_among-pairs new (x ∷ xs) n s c o = place-pairs x x xs n c o

-- Theorem: in a leaf, whatever its entries, the insertion of a pair beside the entry gone through is its insertion into the list
pub leaf-place : {K : Type 0} (Q : Keeping K) (e d x : K × ℕ) (xs : List (K × ℕ)) →
    replace_at (position (Q.route e zero) (x ∷ xs)) (insert_pair Q.pair_le e (choose (Q.route e zero) d (x ∷ xs) ∷ [])) (x ∷ xs)
    ≡ insert_pair Q.pair_le e (x ∷ xs)
leaf-place Q e d x [] = append-nil (insert_pair Q.pair_le e (x ∷ []))
leaf-place Q e d x (y ∷ ys) = rw (Q.route-leaf e x y)
    (either (Q.pair_le e x) (λ u. rw (u, u)) (λ u. rw u (ap (λ l. x ∷ l) (leaf-place Q e d y ys))))

reroot-pairs : {K : Type 0} (name : ℕ → ℕ) (h : ℕ) (t : Tree K h) (xs : List (Entry K (suc h))) (n : ℕ) → NonEmpty xs →
    grown_pairs (reroot name h t xs n) ≡ concat_map (pairs_under (suc h)) xs
reroot-pairs name h t [] n s = absurd s
reroot-pairs name h t (x ∷ []) n s = sym (append-nil (pairs_under (suc h) x))
reroot-pairs name h t (x ∷ y ∷ ys) n s = refl

module _ {K : Type 0} (Q : Keeping K) (cap : ℕ) (name : ℕ → ℕ) (e : K × ℕ) where
  pub insert_under-pairs : (h : ℕ) (x : Entry K h) (n : ℕ) → OrderedUnder Q h x → Ascending Q.pair_le (pairs_under h x) →
      concat_map (pairs_under h) (insert_under Q cap name e h x n).0 ≡ insert_pair Q.pair_le e (pairs_under h x)
  insert_under-pairs zero x n g o = concat_map-single (insert_pair Q.pair_le e (x ∷ []))
  insert_under-pairs (suc h) x n g o =
      split_if_over-under (pairs_under h) cap name (larger Q.order x.0 e.0) x.1.0 (insert_entries Q cap name e h x.1.1 n)
      ∙ insert_among-pairs Q (OrderedUnder Q h) (pairs_under h) e (Q.route e h) (route-leads Q e h) (insert_under Q cap name e h)
      (insert_under-pairs h) (first_pair e h) x.1.1 n g.0 g.1 o

  pub insert_entries-pairs : (h : ℕ) (xs : List (Entry K h)) (n : ℕ) → NonEmpty xs → Separated Q (OrderedUnder Q h) (pairs_under h) xs →
      Ascending Q.pair_le (concat_map (pairs_under h) xs) →
      concat_map (pairs_under h) (insert_entries Q cap name e h xs n).0 ≡ insert_pair Q.pair_le e (concat_map (pairs_under h) xs)
  insert_entries-pairs h xs n s c o =
      insert_among-pairs Q (OrderedUnder Q h) (pairs_under h) e (Q.route e h) (route-leads Q e h) (insert_under Q cap name e h) (insert_under-pairs h)
      (first_pair e h) xs n s c o

  -- the entries of the root: a lone root leaf may have none
  pub root-pairs : (h : ℕ) (t : Tree K h) (n : ℕ) → Rooted h t → Ordered Q h t →
      concat_map (pairs_under h) (insert_entries Q cap name e h t.1 n).0 ≡ insert_pair Q.pair_le e (pairs h t)
  root-pairs zero (p, []) n s o = refl
  root-pairs zero (p, x ∷ xs) n s o = insert_entries-pairs zero (x ∷ xs) n tt o.separated o.ascending
  root-pairs (suc h) t n s o = insert_entries-pairs (suc h) t.1 n s o.separated o.ascending

  -- Theorem: the pairs after an insertion
  pub insert-pairs : (h : ℕ) (t : Tree K h) → Rooted h t → Ordered Q h t →
      grown_pairs (insert Q cap name e h t) ≡ insert_pair Q.pair_le e (pairs h t)
  insert-pairs h t s o =
      let q : Replacement K (Child K h) = insert_entries Q cap name e h t.1 0 in
      let w : Replacement K (Child K (suc h)) = insert_at_root Q cap name e h t in
      reroot-pairs name h t w.0 w.1 (split_if_over-non_empty cap name (last_key e.0 q.0) t.0 q)
      ∙ (split_if_over-under (pairs_under h) cap name (last_key e.0 q.0) t.0 q ∙ root-pairs h t 0 s o)
