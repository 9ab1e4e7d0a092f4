-- Laws: the leaf that the route of a pair leads to tells whether the tree has the pair. Cited by the laws of insertion on bytes. Assumes nothing.
use Rattle.std.specs.Prelude.{◌≡◌, List, [], ◌∷◌, ℕ, zero, suc}
use Rattle.std.proofs.Common.{sym, ap, ◌∙◌, append-nil}
use Rattle.basis.specs.Tests.{either}
use Rattle.tree.specs.Lists.{NonEmpty, concat_map}
use Rattle.tree.proofs.ListLaws.{concat_map-single}
use Rattle.tree.specs.Pairs.{has, present, Ascending}
use Rattle.tree.proofs.PairLaws.{present_past, present-here, ascending-left, ascending-right}
use Rattle.tree.specs.Position.{Passes, choose}
use Rattle.tree.specs.Tree.{Tree, pairs_under, pairs}
use Rattle.tree.specs.Keeping.{Keeping}
use Rattle.tree.proofs.KeepingLaws.{present-has}
use Rattle.tree.specs.Room.{route_leaf}
use Rattle.tree.proofs.Ordered.{Rooted, Separated, OrderedUnder, Ordered}
use Rattle.tree.proofs.RouteLaws.{Leads, route-leads}

-- one level of the route, abstract in what lies below
module _ {K C : Type 0} (Q : Keeping K) (G : K × C → Type 0) (under leaf : K × C → List (K × ℕ)) (e : K × ℕ) (passes : Passes (K × C))
    (leads : Leads Q G under e passes)
    (ok : (x : K × C) → G x → Ascending Q.pair_le (under x) → present Q.pair_le e (under x) ≡ present Q.pair_le e (leaf x)) where
  level-present : (d x : K × C) (xs : List (K × C)) → Separated Q G under (x ∷ xs) → Ascending Q.pair_le (concat_map under (x ∷ xs)) →
      present Q.pair_le e (concat_map under (x ∷ xs)) ≡ present Q.pair_le e (leaf (choose passes d (x ∷ xs)))
  level-present d x [] c o = rw (append-nil (under x)) (ok x c.0.good (ascending-left Q.pair_le (under x) [] o))
  level-present d x (y ∷ ys) c o =
      let rest : List (K × ℕ) = concat_map under (y ∷ ys) in
      either (passes x y)
      (λ u. rw u (present_past Q.pair_le e (under x) rest (leads.passed x y ys c o u).0
      ∙ level-present d y ys c.1 (ascending-right Q.pair_le (under x) rest o)))
      (λ u. rw u (present-here Q.pair_le e (under x) rest (leads.stopped x y ys c o u).0
      ∙ ok x c.0.good (ascending-left Q.pair_le (under x) rest o)))

rooted : {K : Type 0} (h : ℕ) (t : Tree K h) → NonEmpty t.1 → Rooted h t
rooted zero t s = tt
rooted (suc h) t s = s

leaf-present : {K : Type 0} (Q : Keeping K) (e : K × ℕ) (h : ℕ) (t : Tree K h) → Rooted h t → Ordered Q h t →
    present Q.pair_le e (pairs h t) ≡ present Q.pair_le e (route_leaf (Q.route e) h t)
leaf-present Q e zero t s o = ap (present Q.pair_le e) (concat_map-single t.1)
leaf-present Q e (suc h) (p, []) s o = absurd s
leaf-present Q e (suc h) (p, x ∷ xs) s o =
    level-present Q (OrderedUnder Q (suc h)) (pairs_under (suc h)) (λ y. route_leaf (Q.route e) h y.1) e (Q.route e (suc h)) (route-leads Q e (suc h))
    (λ y g a. leaf-present Q e h y.1 (rooted h y.1 g.0) (record { ascending = a; separated = g.1 })) x x xs o.separated o.ascending

-- Theorem: a tree has a pair, or for features 1 its key, exactly if the leaf on the route has it
pub leaf-has : {K : Type 0} (Q : Keeping K) (e : K × ℕ) (h : ℕ) (t : Tree K h) → Rooted h t → Ordered Q h t →
    present Q.pair_le e (route_leaf (Q.route e) h t) ≡ has Q.pair_le e (pairs h t)
leaf-has Q e h t s o = sym (leaf-present Q e h t s o) ∙ present-has Q e (pairs h t) o.ascending
