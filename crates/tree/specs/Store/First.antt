-- Steps: lookup of a key's first record (features 0), page by page on a store, going to the right neighbour by its leaf's link. The laws of bytes compare the
-- rule on bytes with it, and it with the rule on trees.
use Rattle.std.specs.Prelude.{cond, List, [], ◌∷◌, ℕ, zero, suc, eqb}
use Rattle.std.proofs.Math.Option.{Option, none, some}
use Rattle.tree.specs.Order.{Order}
use Rattle.tree.specs.Pairs.{seek, find}
use Rattle.tree.specs.Tree.{Page}
use Rattle.tree.specs.Store.{Store}
use Rattle.tree.specs.LookupFirst.{Trip, visit, in_leaf}

-- the page that a link names, `nil` for none
abbrev pub linked_page : {K : Type 0} → ℕ → Store K → ℕ → Option (Page K ℕ)
linked_page nil S p = cond (eqb p nil) none (some (p, S p))

module _ {K : Type 0} (O : Order K) where
  -- the first entry at or above the key, else the last
  abbrev pub seek_or_last : K → K × ℕ → List (K × ℕ) → K × ℕ
  seek_or_last k x [] = x
  seek_or_last k x (y ∷ ys) = cond (O.le k x.0) x (seek_or_last k y ys)

  -- on with f at that entry, if there is one
  abbrev pub trip_among : K → (K × ℕ → Trip) → List (K × ℕ) → Trip
  trip_among k f [] = (none, [])
  trip_among k f (x ∷ xs) = f (seek_or_last k x xs)

  -- on with f at an entry that was found
  abbrev pub trip_to : (K × ℕ → Trip) → Option (K × ℕ) → Trip
  trip_to f none = (none, [])
  trip_to f (some x) = f x

  module _ (nil : ℕ) (right : ℕ → ℕ) (S : Store K) where
    -- from page p on, which is not the root, and from the root p
    abbrev pub store_record_under : K → (h : ℕ) → ℕ → Trip
    store_record_under k zero p = visit p (in_leaf O k (linked_page nil S (right p)) (seek O k (S p)))
    store_record_under k (suc h) p = visit p (trip_among k (λ x. store_record_under k h x.1) (S p))

    abbrev pub store_record : K → (h : ℕ) → ℕ → Trip
    store_record k zero p = visit p (find O k (S p), [])
    store_record k (suc h) p = visit p (trip_to (λ x. store_record_under k h x.1) (seek O k (S p)))
