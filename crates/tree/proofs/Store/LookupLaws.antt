-- Laws: lookup, the pages visited, the leaf on a route and the run of full pages on a store are those on the tree that the store is read as. Cited by the laws
-- of bytes. Assumes nothing.
use Rattle.std.specs.Prelude.{◌≡◌, refl, List, [], ◌∷◌, map, ℕ, zero, suc}
use Rattle.std.proofs.Common.{ap, ◌∙◌}
use Rattle.std.proofs.Math.Option.{Option, none, some}
use Rattle.std.proofs.lemmas.List.{length-map}
use Rattle.basis.specs.Tests.{either}
use Rattle.tree.specs.Order.{Order}
use Rattle.tree.specs.Pairs.{follow, seek}
use Rattle.tree.specs.Position.{Passes, choose}
use Rattle.tree.specs.Tree.{Entry, lookup_under, lookup, onward, visited_under, visited}
use Rattle.tree.specs.Keeping.{Route}
use Rattle.tree.specs.Room.{at_chosen, route_leaf, run_under, run}
use Rattle.tree.proofs.RouteLaws.{choose_map}
use Rattle.tree.specs.Store.{Store, read_entry, read_tree}
use Rattle.tree.specs.Store.Steps.{store_lookup, store_visited, store_leaf, store_run}
use Rattle.tree.proofs.Store.Laws.{map_read-zero}

-- no pages and no run behind an entry, found or not
onward-none : {X : Type 0} (o : Option X) → onward (λ (x : X). []) o ≡ []
onward-none none = refl
onward-none (some x) = refl

at_chosen-none : {A : Type 0} (passes : Passes A) (xs : List A) → ◌≡◌ {A = ℕ} (at_chosen passes 0 (λ x. 0) xs) 0
at_chosen-none passes [] = refl
at_chosen-none passes (x ∷ xs) = refl

module _ {K : Type 0} (O : Order K) (S : Store K) where
  abbrev read_found : (h : ℕ) → Option (K × ℕ) → Option (Entry K h)
  read_found h none = none
  read_found h (some e) = some (read_entry S h e)

  seek-read : (h : ℕ) (k : K) (es : List (K × ℕ)) → seek O k (map (read_entry S h) es) ≡ read_found h (seek O k es)
  seek-read h k [] = refl
  seek-read h k (e ∷ es) = either (O.le k e.0) (λ u. rw u) (λ u. rw u (seek-read h k es))

  follow-read : (h : ℕ) (f : K × ℕ → Option ℕ) (g : Entry K h → Option ℕ) → ((e : K × ℕ) → g (read_entry S h e) ≡ f e) →
      (o : Option (K × ℕ)) → follow g (read_found h o) ≡ follow f o
  follow-read h f g ok none = refl
  follow-read h f g ok (some e) = ok e

  onward-read : (h : ℕ) (f : K × ℕ → List ℕ) (g : Entry K h → List ℕ) → ((e : K × ℕ) → g (read_entry S h e) ≡ f e) →
      (o : Option (K × ℕ)) → onward g (read_found h o) ≡ onward f o
  onward-read h f g ok none = refl
  onward-read h f g ok (some e) = ok e

  -- Theorem: lookup on a store is lookup in its tree
  pub lookup-read : (k : K) (h p : ℕ) → lookup O k h (read_tree S h p) ≡ store_lookup O k h p S
  lookup-read k zero p = rw (map_read-zero S (S p))
  lookup-read k (suc h) p =
      rw (seek-read (suc h) k (S p))
      (follow-read (suc h) (λ e. store_lookup O k h e.1 S) (lookup_under O k (suc h)) (λ e. lookup-read k h e.1) (seek O k (S p)))

  -- Theorem: the pages visited are the tree's
  pub visited-read : (k : K) (h p : ℕ) → visited O k h (read_tree S h p) ≡ store_visited O k h p S
  visited-read k zero p = ap (λ l. p ∷ l) (onward-none (seek O k (map (read_entry S zero) (S p))))
  visited-read k (suc h) p =
      rw (seek-read (suc h) k (S p))
      (ap (λ l. p ∷ l)
      (onward-read (suc h) (λ e. store_visited O k h e.1 S) (visited_under O k (suc h)) (λ e. visited-read k h e.1) (seek O k (S p))))

-- a route on a tree and the tests on the store that say the same
module _ {K : Type 0} (route : Route K) (passes : ℕ → Passes (K × ℕ)) (S : Store K)
    (same : (h : ℕ) (x y : K × ℕ) → route h (read_entry S h x) (read_entry S h y) ≡ passes h x y) where
  at_chosen-read : {B : Type 0} (h : ℕ) (z : B) (f : Entry K h → B) (g : K × ℕ → B) → ((x : K × ℕ) → f (read_entry S h x) ≡ g x) →
      (xs : List (K × ℕ)) → at_chosen (route h) z f (map (read_entry S h) xs) ≡ at_chosen (passes h) z g xs
  at_chosen-read h z f g ok [] = refl
  at_chosen-read h z f g ok (x ∷ xs) =
      ap f (choose_map (read_entry S h) (passes h) (route h) (same h) x (x ∷ xs)) ∙ ok (choose (passes h) x (x ∷ xs))

  -- Theorem: the leaf that the route leads to is the tree's
  pub leaf-read : (h p : ℕ) → route_leaf route h (read_tree S h p) ≡ store_leaf passes h p S
  leaf-read zero p = map_read-zero S (S p)
  leaf-read (suc h) p =
      at_chosen-read (suc h) [] (λ x. route_leaf route h x.1) (λ x. store_leaf passes h x.1 S) (λ x. leaf-read h x.1) (S p)

  -- Theorem: the run of full pages is the tree's
  pub run-read : (cap h p : ℕ) → run route cap h (read_tree S h p) ≡ store_run passes cap h p S
  run-read cap zero p = rw (length-map (S p) (read_entry S zero), at_chosen-none (route zero) (map (read_entry S zero) (S p)))
  run-read cap (suc h) p = rw (
    length-map (S p) (read_entry S (suc h)),
    at_chosen-read (suc h) 0 (run_under route cap (suc h)) (λ x. store_run passes cap h x.1 S) (λ x. run-read cap h x.1) (S p),
  )
