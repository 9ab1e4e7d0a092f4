-- Laws: the route of a pair on a store is that in the tree that the store is read as. Cited by the laws of bytes. Assumes nothing.
use Rattle.std.specs.Prelude.{◌≡◌, refl, List, [], ◌∷◌, map, ℕ, zero, suc}
use Rattle.std.proofs.Common.{ap}
use Rattle.tree.specs.Order.{Order}
use Rattle.tree.specs.Pairs.{by_record}
use Rattle.tree.specs.Position.{position}
use Rattle.tree.specs.Tree.{first_among, first_under}
use Rattle.tree.proofs.KeepingOf.{keeping_of}
use Rattle.tree.proofs.RouteLaws.{position_map}
use Rattle.tree.specs.Store.{Store, read_entry}
use Rattle.tree.specs.Store.Removal.{store_position}
use Rattle.tree.specs.Store.Route.{store_first_under, store_route}

first_among_map : {A B C : Type 0} (g : A → B) (f : B → C) (f' : A → C) → ((x : A) → f (g x) ≡ f' x) → (d : C) (xs : List A) →
    first_among f d (map g xs) ≡ first_among f' d xs
first_among_map g f f' ok d [] = refl
first_among_map g f f' ok d (x ∷ xs) = ok x

-- Theorem: the first leaf pair under an entry is the tree's
pub first_read : {K : Type 0} (S : Store K) (h : ℕ) (x : K × ℕ) → first_under h (read_entry S h x) ≡ store_first_under S h x
first_read S zero x = refl
first_read S (suc h) x = first_among_map (read_entry S h) (first_under h) (store_first_under S h) (first_read S h) (x.0, 0) (S x.1)

module _ {K : Type 0} (O : Order K) (e : K × ℕ) (S : Store K) where
  -- Theorem: the tests of the route are the tree's
  pub route-read : (f h : ℕ) (x y : K × ℕ) → (keeping_of O f).route e h (read_entry S h x) (read_entry S h y) ≡ store_route O f e S h x y
  route-read zero zero x y = refl
  route-read zero (suc h) x y = ap (λ z. by_record O z e) (first_read S (suc h) y)
  route-read (suc n) h x y = refl

  -- Theorem: so is the number of the entry gone through
  pub position-read : (f h : ℕ) (es : List (K × ℕ)) → store_position ((keeping_of O f).route e) h S es ≡ position (store_route O f e S h) es
  position-read f h es = position_map (read_entry S h) (store_route O f e S h) ((keeping_of O f).route e h) (route-read f h) es
